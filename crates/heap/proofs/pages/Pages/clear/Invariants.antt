use Rattle.std.proofs.Common.{◌≡◌, ◌+◌}
use Rattle.heap.specs.Marked.{marks_in}
use Rattle.heap.proofs.Clearing.{PagesCleared}
use Rattle.heap.proofs.pages.Pages.clear.Given as goal

abbrev pub invariant-loop-page : goal.invariant-loop-page
invariant-loop-page g l =
    PagesCleared 512 l.page (λ j. marks_in l.marks (l.first + j)) l.initial.self-inside.pages.items l.self-inside.pages.items
    × (l.self-inside.count ≡ l.initial.self-inside.count) × (l.self-inside.nothing ≡ l.initial.self-inside.nothing)
