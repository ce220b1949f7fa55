use Rattle.std.proofs.Common.{◌≡◌, map, length}
use Rattle.stmt_parser.specs.Views.{boxed_of}
use Rattle.stmt_parser.specs.Powers.{powers}
use Rattle.stmt_parser.proofs.parts.power.Given as goal

abbrev pub invariant-loop-left : goal.invariant-loop-left
invariant-loop-left l = powers (map boxed_of l.fn.operands.items) (boxed_of l.fn.last) ≡ powers (map boxed_of l.operands.items) (boxed_of l.right)

abbrev pub decreases-loop-left : goal.decreases-loop-left
decreases-loop-left l = length l.operands.items
