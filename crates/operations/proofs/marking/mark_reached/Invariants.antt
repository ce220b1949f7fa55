use Rattle.operations.proofs.Reached.{Reaches}
use Rattle.operations.proofs.marking.mark_reached.Given as goal

abbrev pub invariant-loop-object : goal.invariant-loop-object
invariant-loop-object l = Reaches l.world l.initial.marks l.marks
