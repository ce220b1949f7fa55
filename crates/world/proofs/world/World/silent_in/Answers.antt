use Rattle.std.proofs.Common.{ap, refl, ◌∙◌}
use Rattle.world.specs.Held.{input_in, output_in}
use Rattle.world.proofs.world.World.silent_in.Goals as goal

pub returns-clause-silent : goal.returns-clause-silent
returns-clause-silent c x named =
    let stands = c.variable_in-variable.ensures.stands x named in
    ((c.variable_in-variable.result.now, stands.0, stands.1), ap input_in stands.1 ∙ c.in-None-input.is, ap output_in stands.1 ∙ c.in-None.is)

pub returns-clause-held : goal.returns-clause-held
returns-clause-held c = (c.variable_in-variable.result.now, c.variable_in-variable.ensures.held, refl)
