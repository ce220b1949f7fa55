use Rattle.std.proofs.Common.{◌≡◌, length}
use Rattle.heap.specs.Made.{objects_of}
use Rattle.heap.specs.Paged.{whole}
use Rattle.heap.proofs.page.Page.hold_more.Given as goal

abbrev pub invariant-loop-place : goal.invariant-loop-place
invariant-loop-place g l =
    (whole (objects_of l.self-inside.objects.items) ≡ whole (objects_of l.initial.self-inside.objects.items))
    × (length l.self-inside.objects.items ≡ l._place)
