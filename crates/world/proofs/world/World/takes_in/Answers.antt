use Rattle.std.proofs.Common.{ap, ◌∙◌}
use Rattle.world.specs.Held.{output_in}
use Rattle.world.proofs.world.World.takes_in.Goals as goal

pub returns-in-None : goal.returns-in-None
returns-in-None c e x named =
    let stands = c.variable_in.ensures.stands x named in
    ((c.variable_in.result.now, stands.0, stands.1), ap output_in stands.1 ∙ c.in-None.is)
