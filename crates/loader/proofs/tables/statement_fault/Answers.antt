use Rattle.std.proofs.Common.{length, arith, ap}
use Rattle.loader.proofs.tables.statement_fault.Goals as goal

pub overflow_add-offset : goal.overflow_add-offset
overflow_add-offset c = omega (arith, c.loop-k.invariant.place, c.requires.there, c.loop-k-test.true, ap length c.statements-statements.ensures)
