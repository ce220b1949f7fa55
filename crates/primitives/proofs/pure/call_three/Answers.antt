use Rattle.std.proofs.Common.{[], ◌∷◌, sym, subst}
use Rattle.model.specs.Machine.Steps.{codes_of}
use Rattle.model.specs.Language.Primitives.{prim_op}
use Rattle.values.specs.Values.{value_of}
use Rattle.world.specs.Held.{world_of}
use Rattle.primitives.specs.Answers.{ComesTo}
use Rattle.primitives.proofs.pure.call_three.Goals as goal

pub returns-in-Arbno-clause-answer : goal.returns-in-Arbno-clause-answer
returns-in-Arbno-clause-answer c io =
    let w = world_of c.args.world.now io in
    let vs = value_of c.args.first.now ∷ value_of c.args.second.now ∷ value_of c.args.third.now ∷ [] in
    subst (λ id. ComesTo c.arbno.result w (prim_op codes_of id vs w)) (sym c.in-Arbno.is) (c.arbno.ensures.answer w)

pub returns-in-Fence-clause-answer : goal.returns-in-Fence-clause-answer
returns-in-Fence-clause-answer c io =
    let w = world_of c.args.world.now io in
    let vs = value_of c.args.first.now ∷ value_of c.args.second.now ∷ value_of c.args.third.now ∷ [] in
    subst (λ id. ComesTo c.fence_of.result w (prim_op codes_of id vs w)) (sym c.in-Fence.is) (c.fence_of.ensures.answer w)
