use Rattle.std.proofs.Common.{map, subst, sym}
use Rattle.model.specs.Machine.Steps.{codes_of}
use Rattle.model.specs.Language.Primitives.{prim_op}
use Rattle.values.specs.Values.{value_of}
use Rattle.world.specs.Held.{world_of}
use Rattle.primitives.specs.Answers.{ComesTo}
use Rattle.primitives.proofs.Arguments.{by_number}
use Rattle.primitives.proofs.call.call_other.Goals as goal

pub call_by_number-requires : goal.call_by_number-requires
call_by_number-requires c = record { by_number = by_number c.args.id c.requires.other c.in_default.not-Item }

pub returns-in-Item-clause-answer : goal.returns-in-Item-clause-answer
returns-in-Item-clause-answer c io =
    let w = world_of c.args.world.now io in
    subst (λ id. ComesTo c.item.result w (prim_op codes_of id (map value_of c.args.arguments.now) w)) (sym c.in-Item.is) (c.item.ensures.answer io)
