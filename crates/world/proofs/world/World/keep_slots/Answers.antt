use Rattle.std.proofs.Common.{subst, sym}
use Rattle.std.specs.Map.{keys_of}
use Rattle.world.specs.Held.{AreNamed}
use Rattle.world.specs.Slots.{FunctionsStand}
use Rattle.world.proofs.Slots.{stands_later}
use Rattle.world.proofs.world.World.keep_slots.Goals as goal

pub invariant_of-self : goal.invariant_of-self
invariant_of-self c =
    let es = c.self.inside.variables.entries in
    let fs = c.self.inside.functions in
    subst (λ ns. AreNamed ns es × FunctionsStand ns fs) (sym c.in_ok-names.ensures)
    ((λ slot x at. at), stands_later c.self.inside.names.items (keys_of es) fs c.self.invariant.0 c.self.invariant.1)
