use Rattle.std.proofs.Common.{◌≡◌, ◌+◌, length}
use Rattle.heap.specs.Made.{objects_of}
use Rattle.heap.specs.Marked.{IsClearedOn, marks_in}
use Rattle.heap.proofs.page.Page.clear_part.Given as goal

abbrev pub invariant-loop-i : goal.invariant-loop-i
invariant-loop-i g l = record {
  cleared : IsClearedOn (λ j. marks_in l.marks (l.first + j)) l.place l.i (objects_of l.initial.self-inside.objects.items) (objects_of l.self-inside.objects.items);
  long : length l.self-inside.objects.items ≡ length l.initial.self-inside.objects.items;
}
