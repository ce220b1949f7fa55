use Rattle.std.proofs.Common.{length, arith, ap}
use Rattle.loader.proofs.tables.expression_fault.Goals as goal

pub overflow_add-offset : goal.overflow_add-offset
overflow_add-offset c = omega (arith, c.loop-at.invariant.place, c.requires.there, c.loop-at-test.true, ap length c.expressions-expressions.ensures)
