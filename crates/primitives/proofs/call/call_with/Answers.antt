use Rattle.std.proofs.Common.{[], ◌∷◌, sym, subst}
use Rattle.model.specs.Machine.Steps.{codes_of}
use Rattle.model.specs.Language.Primitives.{prim_op}
use Rattle.values.specs.Values.{value_of}
use Rattle.world.specs.Held.{world_of}
use Rattle.primitives.specs.Answers.{ComesTo}
use Rattle.primitives.proofs.Unchanging.{pure_rest}
use Rattle.primitives.proofs.call.call_with.Goals as goal

pub call_three-requires : goal.call_three-requires
call_three-requires c =
    let it = c.in_default in
    record { pure = pure_rest c.args.id c.requires.by_number it.not-Array it.not-Table it.not-Copy it.not-Convert it.not-Data it.not-Input it.not-Output it.not-Detach it.not-Define }

pub returns-in-Array-clause-answer : goal.returns-in-Array-clause-answer
returns-in-Array-clause-answer c io =
    let w = world_of c.args.world.now io in
    let vs = value_of c.args.first.now ∷ value_of c.args.second.now ∷ value_of c.args.third.now ∷ [] in
    subst (λ id. ComesTo c.array.result (world_of c.array.new.world io) (prim_op codes_of id vs w)) (sym c.in-Array.is) (c.array.ensures.answer io)

pub returns-in-Convert-clause-answer : goal.returns-in-Convert-clause-answer
returns-in-Convert-clause-answer c io =
    let w = world_of c.args.world.now io in
    let vs = value_of c.args.first.now ∷ value_of c.args.second.now ∷ value_of c.args.third.now ∷ [] in
    subst (λ id. ComesTo c.convert.result (world_of c.convert.new.world io) (prim_op codes_of id vs w)) (sym c.in-Convert.is) (c.convert.ensures.answer io)

pub returns-in-Data-clause-answer : goal.returns-in-Data-clause-answer
returns-in-Data-clause-answer c io =
    let w = world_of c.args.world.now io in
    let vs = value_of c.args.first.now ∷ value_of c.args.second.now ∷ value_of c.args.third.now ∷ [] in
    subst (λ id. ComesTo c.data.result (world_of c.data.new.world io) (prim_op codes_of id vs w)) (sym c.in-Data.is) (c.data.ensures.answer io)

pub returns-in-Define-clause-answer : goal.returns-in-Define-clause-answer
returns-in-Define-clause-answer c io =
    let w = world_of c.args.world.now io in
    let vs = value_of c.args.first.now ∷ value_of c.args.second.now ∷ value_of c.args.third.now ∷ [] in
    subst (λ id. ComesTo c.define.result (world_of c.define.new.world io) (prim_op codes_of id vs w)) (sym c.in-Define.is) (c.define.ensures.answer io)
