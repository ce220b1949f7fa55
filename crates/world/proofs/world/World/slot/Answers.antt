use Rattle.std.proofs.Common.{ap, subst, sym, ◌∙◌}
use Rattle.world.specs.Held.{WorldView, StandsIn}
use Rattle.world.proofs.Variables.{stands_there}
use Rattle.world.proofs.world.World.slot.Goals as goal

pub returns-then-eq-clause-entry : goal.returns-then-eq-clause-entry
returns-then-eq-clause-entry c =
    subst (λ vs. StandsIn c.args.name.now c.args.slot vs) (ap {A = WorldView} (λ h. h.variables) c.self.view_is)
    (stands_there c.self.inside.variables.entries c.args.slot c.args.name.now c.in-Some.key.now c.in-Some._variable.now c.in-Some.ensures.entry c.in-Some.ensures.value (sym c.eq.ensures ∙ c.if-eq.true))
