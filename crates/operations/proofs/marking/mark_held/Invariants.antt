use Rattle.std.specs.Prelude.{slice_get}
use Rattle.heap.specs.Made.{values_in}
use Rattle.heap.specs.Marked.{HasMarked}
use Rattle.world.proofs.Reaching.{AllBelow}
use Rattle.values.proofs.Living.{LivesBy}
use Rattle.operations.proofs.marking.mark_held.Given as goal

abbrev pub invariant-loop-index : goal.invariant-loop-index
invariant-loop-index l = record {
  lives : AllBelow (LivesBy l.marks) l.index (values_in (slice_get l.objects l.object));
  grown : HasMarked l.initial.marks l.marks;
}
