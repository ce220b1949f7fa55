use Rattle.std.proofs.Common.{subst}
use Rattle.std.specs.Prelude.{IfSome}
use Rattle.values.specs.Functions.{function_at}
use Rattle.world.specs.Held.{WorldView}
use Rattle.world.specs.Slots.{FunctionStands}
use Rattle.world.proofs.Slots.{stands_held}
use Rattle.world.proofs.world.World.held_function.Goals as goal

pub returns-clause-stands : goal.returns-clause-stands
returns-clause-stands c =
    subst (λ (h : WorldView). IfSome c.get.result (λ f. FunctionStands h.names f.now)) c.self.view_is
    (stands_held c.self.inside.names.items c.get.result (function_at c.args.name.now c.self.inside.functions) c.get.ensures.function (c.self.invariant.1 c.args.name.now))
