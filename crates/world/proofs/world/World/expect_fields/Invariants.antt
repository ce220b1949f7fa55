use Rattle.std.proofs.Common.{◌≡◌}
use Rattle.world.proofs.world.World.expect_fields.Given as goal

abbrev pub invariant-loop-field : goal.invariant-loop-field
invariant-loop-field l = l.self ≡ l.fn.self
