use Rattle.std.proofs.Common.{◌≡◌, ap, arith, is_some, subst, sym}
use Rattle.values.specs.Arguments.{no_slot}
use Rattle.world.specs.Held.{StandsIn, WorldView}
use Rattle.world.specs.Slots.{IsSlotOf}
use Rattle.world.proofs.Slots.{known_stands}
use Rattle.world.proofs.world.World.known_slot.Goals as goal

pub returns-clause-entry : goal.returns-clause-entry
returns-clause-entry c =
    let x = c.args.name.now in
    let slot = c.args.slot in
    let right : IsSlotOf x slot c.self.inside.names.items = subst (λ (h : WorldView). IsSlotOf x slot h.names) (sym c.self.view_is) c.requires in
    subst (λ (h : WorldView). StandsIn x slot h.variables) c.self.view_is
    (known_stands c.self.inside.variables.entries c.self.inside.names.items x slot c.len-count.ensures.unique c.self.invariant.0
    (λ (none : slot ≡ no_slot). omega (arith, c.if-slot-eq-NO_SLOT.false, none)) right)

pub returns-clause-there : goal.returns-clause-there
returns-clause-there c = sym (ap is_some (returns-clause-entry c).2)
