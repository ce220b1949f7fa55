use Rattle.values.proofs.Integers.{same_in_64}
use Rattle.values.proofs.Powers.{raised_overflows}
use Rattle.values.proofs.arithmetic.raised.Goals as goal

pub returns-in-None : goal.returns-in-None
returns-in-None c =
    raised_overflows c.args.base c.args.exponent _ _ _ _ c.loop-turn._turn (same_in_64 c.args.base c.ranges.base) (same_in_64 c.args.exponent c.ranges.exponent)
    c.if-exponent-lt0.false c.short_exponent-turn-end.ensures c.loop-turn.invariant c.loop-turn-test.true c.in-None.ensures
