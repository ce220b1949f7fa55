use Rattle.values.specs.Arguments.{AreFilled}
use Rattle.values.proofs.arguments.fill.Given as goal

abbrev pub invariant-loop-number : goal.invariant-loop-number
invariant-loop-number l = AreFilled l._number l.fn.values.items l.values.items
