use Rattle.std.proofs.Common.{◌≡◌, length}
use Rattle.stmt_parser.specs.Powers.{marks_before}
use Rattle.stmt_parser.specs.Views.{boxed_of}
use Rattle.stmt_parser.proofs.parts.applied.Given as goal

abbrev pub invariant-loop-op : goal.invariant-loop-op
invariant-loop-op l = marks_before l.fn.marks.items (boxed_of l.fn.operand) ≡ marks_before l.marks.items (boxed_of l.found)

abbrev pub decreases-loop-op : goal.decreases-loop-op
decreases-loop-op l = length l.marks.items
