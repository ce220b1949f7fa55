use Rattle.std.proofs.Common.{refl, arith}
use Rattle.model.specs.Deck.Digits.{decimal_value}
use Rattle.stmt_parser.proofs.Digits.{turn}
use Rattle.stmt_parser.proofs.parts.integer.Goals as goal

pub loop-digit-init : goal.loop-digit-init
unfolding decimal_value
loop-digit-init c = (refl, c.requires.digits)

pub overflow_mul-number : goal.overflow_mul-number
overflow_mul-number c = let t = turn c.args.digits.now c.loop-digit.number c.loop-digit.digit-index c.loop-digit-test.true c.loop-digit.invariant.1 in omega (arith, t, c.loop-digit.invariant.0, c.requires.small)

pub overflow_sub-digit : goal.overflow_sub-digit
overflow_sub-digit c = (turn c.args.digits.now c.loop-digit.number c.loop-digit.digit-index c.loop-digit-test.true c.loop-digit.invariant.1).0

pub overflow_add-number : goal.overflow_add-number
overflow_add-number c = let t = turn c.args.digits.now c.loop-digit.number c.loop-digit.digit-index c.loop-digit-test.true c.loop-digit.invariant.1 in omega (arith, t, c.loop-digit.invariant.0, c.requires.small, c.from.ensures)
