use Rattle.std.proofs.Common.{ap, subst}
use Rattle.std.specs.Prelude.{IfSome}
use Rattle.world.specs.Held.{WorldView, StandsIn}
use Rattle.world.proofs.Variables.{stands_found}
use Rattle.world.proofs.world.World.find_slot.Goals as goal

pub returns-clause-entry : goal.returns-clause-entry
returns-clause-entry c =
    subst (λ vs. IfSome c.get_index_of.result (λ at. StandsIn c.args.name.now at vs)) (ap {A = WorldView} (λ h. h.variables) c.self.view_is)
    (stands_found c.self.inside.variables.entries c.args.name.now c.get_index_of.result c.get_index_of.ensures.index c.get_index_of.ensures.value)
