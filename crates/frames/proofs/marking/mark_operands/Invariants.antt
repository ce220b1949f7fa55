use Rattle.std.proofs.Common.{take}
use Rattle.std.specs.List.{All}
use Rattle.heap.specs.Marked.{HasMarked, marks_in}
use Rattle.model.specs.Machine.Living.{OperandLives}
use Rattle.frames.specs.View.{operand_of}
use Rattle.frames.proofs.marking.mark_operands.Given as goal

abbrev pub invariant-loop-operand : goal.invariant-loop-operand
invariant-loop-operand l = record {
  lives : All (λ x. OperandLives (marks_in l.marks) (operand_of x)) (take l.operand-index l.items);
  grown : HasMarked l.initial.marks l.marks;
}
