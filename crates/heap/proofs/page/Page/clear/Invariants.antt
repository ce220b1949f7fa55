use Rattle.std.proofs.Common.{◌≡◌, ◌+◌, ◌-◌, length}
use Rattle.heap.specs.Marked.{IsClearedOn, marks_in}
use Rattle.heap.proofs.page.Page.clear.Given as goal

abbrev pub invariant-loop-place : goal.invariant-loop-place
invariant-loop-place g l = record {
  cleared : IsClearedOn (λ j. marks_in l.marks (l.first + j)) 0 l.place l.initial.self l.self;
  long : length l.self ≡ length l.initial.self;
}

abbrev pub decreases-loop-place : goal.decreases-loop-place
decreases-loop-place g l = l.count - l.place
