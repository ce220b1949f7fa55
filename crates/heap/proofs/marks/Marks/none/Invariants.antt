use Rattle.std.proofs.Common.{◌≡◌, ◌+◌, ◌/◌, ◌≤◌, []}
use Rattle.std.specs.Prelude.{replicate, vec_capacity}
use Rattle.heap.proofs.marks.Marks.none.Given as goal

abbrev pub invariant-loop-page : goal.invariant-loop-page
invariant-loop-page l = record {
  items : l.pages.items ≡ replicate l._page [];
  room : l.count / 512 + 1 ≤ vec_capacity l.pages;
}
