use Rattle.std.proofs.Common.{take}
use Rattle.std.specs.List.{All}
use Rattle.heap.specs.Marked.{HasMarked}
use Rattle.values.proofs.Living.{LivesBy}
use Rattle.values.proofs.marking.mark_values.Given as goal

abbrev pub invariant-loop-value : goal.invariant-loop-value
invariant-loop-value l = record {
  lives : All (LivesBy l.marks) (take l.value-index l.values);
  grown : HasMarked l.initial.marks l.marks;
}
