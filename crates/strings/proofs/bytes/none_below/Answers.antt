use Rattle.std.proofs.Common.{◌≡◌, ◌∙◌, sym, get_or, take, drop, false, w8, arith}
use Rattle.std.specs.Cmp.{unsigned_Decides}
use Rattle.std.specs.Prelude.{nat_lt}
use Rattle.std.proofs.lemmas.Bool.Decides.{nat_tests}
use Rattle.std.proofs.lemmas.Simd.{bitmask_splat, none_from_empty_mask, length-chunk}
use Rattle.strings.proofs.bytes.none_below.Goals as goal

pub returns : goal.returns
returns c h k from to =
    let bytes = c.args.bytes.now in
    let below : nat_lt (get_or bytes k 0) c.args.low ≡ false =
    none_from_empty_mask (λ x. nat_lt x c.args.low) bytes c.args.at 16 0 c.requires
    (sym (bitmask_splat w8 nat_lt (take 16 (drop c.args.at bytes)) 16 c.args.low (length-chunk c.args.at 16 bytes c.requires) (omega arith)) ∙ (unsigned_Decides _ _).0 h) k from to in
    grind (arith, nat_tests, below)
