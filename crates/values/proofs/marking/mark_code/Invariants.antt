use Rattle.std.proofs.Common.{take}
use Rattle.std.specs.List.{All}
use Rattle.heap.specs.Marked.{HasMarked, marks_in}
use Rattle.model.specs.Machine.Living.{InstrLives}
use Rattle.pattern_compiler.specs.View.{instr_of}
use Rattle.values.proofs.marking.mark_code.Given as goal

abbrev pub invariant-loop-instr : goal.invariant-loop-instr
invariant-loop-instr l = record {
  lives : All (λ i. InstrLives (marks_in l.marks) (instr_of i)) (take l.instr-index l.instrs);
  grown : HasMarked l.initial.marks l.marks;
}
