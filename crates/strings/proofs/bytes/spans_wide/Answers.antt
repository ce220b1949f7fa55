use Rattle.std.proofs.Common.{sym}
use Rattle.std.proofs.lemmas.Bool.{and_parts}
use Rattle.model.specs.Language.Strings.{has}
use Rattle.strings.proofs.Runs.{run_many}
use Rattle.strings.proofs.bytes.spans_wide.Goals as goal

pub returns : goal.returns
returns c h =
    let both = and_parts _ _ h in
    rw (sym c.set.view_is) (run_many (has c.set.inside.flags) c.args.bytes.now c.args.at 16 c.requires (λ k from to. c.set.invariant.1 _ (c.none_below.ensures both.0 k from to) (c.none_above.ensures both.1 k from to)))
