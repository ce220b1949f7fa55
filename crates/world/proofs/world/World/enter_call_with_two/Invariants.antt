use Rattle.std.proofs.Common.{◌≡◌, ◌∷◌, [], ◌≤◌}
use Rattle.model.specs.Language.Values.{Str}
use Rattle.values.specs.Values.{value_of}
use Rattle.world.proofs.Entering.{AreGiven}
use Rattle.world.proofs.world.World.enter_call_with_two.Given as goal

abbrev pub invariant-loop-number : goal.invariant-loop-number
invariant-loop-number l = record {
  names : l.self.names ≡ l.fn.self.names;
  past : 3 ≤ l.number;
  given : AreGiven l.names (Str [] ∷ value_of l.fn.first ∷ value_of l.fn.second ∷ []) l.fn.saved.items l.number l.saved.items l.fn.self l.self;
}
