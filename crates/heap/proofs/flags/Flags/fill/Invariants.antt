use Rattle.std.proofs.Common.{◌≡◌, false, length}
use Rattle.heap.specs.Paged.{padded}
use Rattle.heap.proofs.flags.Flags.fill.Given as goal

abbrev pub invariant-loop-place : goal.invariant-loop-place
invariant-loop-place l =
    (padded false 512 l.self-inside.flags.items ≡ padded false 512 l.initial.self-inside.flags.items)
    × (length l.self-inside.flags.items ≡ l._place)
