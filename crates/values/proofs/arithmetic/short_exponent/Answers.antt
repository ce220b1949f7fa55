use Rattle.std.proofs.Common.{ap, ◌∙◌, sym, int_le, negsuc, pos}
use Rattle.values.proofs.Integers.{same_in_64}
use Rattle.values.proofs.Powers.{short_is_same}
use Rattle.values.proofs.arithmetic.short_exponent.Goals as goal

pub returns-then-base-le1 : goal.returns-then-base-le1
returns-then-base-le1 c =
    let same = same_in_64 c.args.base c.ranges.base in
    short_is_same c.args.base c.args.exponent c.if-exponent-gt2.true (ap (int_le (negsuc 0)) (sym same) ∙ c.if-base-geminus1.true) (ap (λ z. int_le z (pos 1)) (sym same) ∙ c.if-base-le1.true)
