use Rattle.heap.specs.Marked.{HasMarked}
use Rattle.world.proofs.Reaching.{AllBelow}
use Rattle.values.proofs.Living.{LivesBy}
use Rattle.world.proofs.world.World.mark_variables.Given as goal

abbrev pub invariant-loop-slot : goal.invariant-loop-slot
invariant-loop-slot l = record {
  lives : AllBelow (λ e. LivesBy l.marks e.1.value) l.slot l.self-inside.variables.entries;
  grown : HasMarked l.initial.marks l.marks;
}
