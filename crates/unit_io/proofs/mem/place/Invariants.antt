use Rattle.std.proofs.Common.{◌≡◌, drop}
use Rattle.unit_io.specs.Held.{place_of}
use Rattle.unit_io.proofs.mem.place.Given as goal

abbrev pub invariant-loop-k : goal.invariant-loop-k
invariant-loop-k l = place_of l.k l.unit (drop l.k l.opened) ≡ place_of 0 l.unit l.opened
