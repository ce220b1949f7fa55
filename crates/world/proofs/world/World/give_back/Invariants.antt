use Rattle.std.proofs.Common.{◌≡◌, ◌-◌, ◌+◌, ◌<◌, length, take, drop}
use Rattle.world.proofs.Restoring.{IsGivenBack}
use Rattle.world.proofs.world.World.give_back.Given as goal

abbrev pub invariant-loop-left : goal.invariant-loop-left
invariant-loop-left l =
    let base = length l.fn.saved.items - length l.names in record {
      names : l.self.names ≡ l.fn.self.names;
      within : l.left < length l.names;
      given : IsGivenBack l.names (take base l.fn.saved.items) (drop base l.fn.saved.items) (l.left + 1) l.saved.items l.fn.self l.self;
    }

abbrev pub decreases-loop-left : goal.decreases-loop-left
decreases-loop-left l = l.left
