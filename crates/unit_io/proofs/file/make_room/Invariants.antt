use Rattle.std.proofs.Common.{◌≡◌, ℕ, ◌+◌, ◌-◌, length}
use Rattle.unit_io.specs.Files.{file_on}
use Rattle.unit_io.proofs.file.make_room.Given as goal

abbrev pub invariant-room : goal.invariant-room
invariant-room g l = (u : ℕ) → file_on u l.given.items ≡ file_on u l.initial.given.items

abbrev pub decreases-room : goal.decreases-room
decreases-room g l = l.unit + 1 - length l.given.items
