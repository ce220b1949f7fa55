use Rattle.std.proofs.Common.{false, arith, refl}
use Rattle.std.specs.List.{list_any}
use Rattle.std.specs.Prelude.{◌==◌}
use Rattle.std.proofs.lemmas.Grind.{common_steps}
use Rattle.std.proofs.lemmas.List.{get_or-replicate}
use Rattle.std.proofs.lemmas.List.FromFn.{fill_by_all}
use Rattle.strings.proofs.bytes.ByteSet.of.Goals as goal

pub loop-b-init : goal.loop-b-init
loop-b-init c = (refl, λ k h. get_or-replicate 256 k false false h)

pub returns : goal.returns
returns c =
    fill_by_all (λ k. list_any (λ x. x == k) c.args.bytes.now) c.loop-b.flags 256 false c.loop-b.invariant.0
    (λ k h. grind (arith, common_steps, c.loop-b.invariant.1 k h))
