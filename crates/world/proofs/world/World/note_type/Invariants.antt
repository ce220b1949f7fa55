use Rattle.std.proofs.Common.{◌≡◌}
use Rattle.world.proofs.world.World.note_type.Given as goal

abbrev pub invariant-loop-field : goal.invariant-loop-field
invariant-loop-field l = l.self ≡ l.fn.self
