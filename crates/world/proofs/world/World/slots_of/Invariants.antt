use Rattle.std.proofs.Common.{◌≡◌, length}
use Rattle.world.specs.Slots.{AreSlotsOf}
use Rattle.world.proofs.world.World.slots_of.Given as goal

abbrev pub invariant-loop-name : goal.invariant-loop-name
invariant-loop-name l = record {
  count : length l.slots.items ≡ l.name-index;
  slots : AreSlotsOf l.names l.slots.items l.self.names;
}
