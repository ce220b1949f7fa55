use Rattle.std.proofs.Common.{ap, ◌∙◌}
use Rattle.world.specs.Held.{WorldView, first_variables}
use Rattle.world.proofs.FirstWorld.{first_holds}
use Rattle.world.proofs.world.World.new.Goals as goal

pub returns : goal.returns
returns c io =
    first_holds c.put_units.new.self c.args.level c.new-5.result.items io
    (c.in_ok-put_units.ensures
    ∙ ap {A = WorldView} (λ h. record { variables = first_variables; objects = h.objects; functions = h.functions; keys = h.keys; level = h.level; names = h.names }) c.in_ok-put_patterns.ensures
    ∙ (λ i. record { variables = first_variables; objects = c.new-3.ensures i; functions = c.new-4.ensures i; keys = c.in-Ok.ensures.ok i; level = c.args.level; names = c.new-5.result.items }))
