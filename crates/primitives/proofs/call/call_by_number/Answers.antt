use Rattle.std.proofs.Common.{[], ◌∷◌, map, subst, ◌∙◌}
use Rattle.model.specs.Machine.Steps.{codes_of}
use Rattle.model.specs.Language.Primitives.{prim_op}
use Rattle.values.specs.Values.{value_of}
use Rattle.world.specs.Held.{world_of}
use Rattle.primitives.specs.Answers.{ComesTo}
use Rattle.primitives.proofs.Arguments.{first_three}
use Rattle.primitives.proofs.call.call_by_number.Goals as goal

pub returns-clause-answer : goal.returns-clause-answer
returns-clause-answer c io =
    let w = world_of c.args.world.now io in
    subst (λ o. ComesTo c.call_with.result (world_of c.call_with.new.world io) o)
    ((λ i. prim_op codes_of c.args.id (c.argument-first.ensures i ∷ c.argument-second.ensures i ∷ c.argument-third.ensures i ∷ []) w)
    ∙ first_three c.args.id (map value_of c.args.arguments.now) w c.requires.by_number)
    (c.call_with.ensures.answer io)
