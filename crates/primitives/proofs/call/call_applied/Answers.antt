use Rattle.std.proofs.Common.{◌∙◌, [], ap, map, subst, sym, Ok, Err}
use Rattle.std.proofs.lemmas.Result.{err_from_is_err_and}
use Rattle.model.specs.declared.primitives.PrimId.TheVariants as p
use Rattle.model.specs.Language.Conversions.{Gives}
use Rattle.model.specs.Language.Io.{Io}
use Rattle.model.specs.Language.Primitives.{Calls, prim_op}
use Rattle.model.specs.Machine.Steps.{codes_of}
use Rattle.world.specs.Held.{world_of}
use Rattle.values.specs.Values.{value_of}
use Rattle.primitives.specs.Answers.{ComesTo}
use Rattle.primitives.specs.Calling.{IsReached}
use Rattle.primitives.proofs.Called.{refused}
use Rattle.primitives.proofs.call.call_applied.Goals as goal

pub call_other-requires : goal.call_other-requires
call_other-requires c =
    let none : Io = record { left = λ unit. []; printed = [] } in
    let w = world_of c.args.world.now none in
    let reached = subst (λ a. IsReached (Ok (a, c.in_ok-applied.others)) (map value_of c.args.arguments.now) w) c.in-Primitive.is (c.in_ok-applied.ensures.applied w (sym c.module_level.ensures)) in
    record { other = reached.0 }

pub returns-in-Primitive-clause-answer : goal.returns-in-Primitive-clause-answer
returns-in-Primitive-clause-answer c io =
    let w = world_of c.args.world.now io in
    let reached = subst (λ a. IsReached (Ok (a, c.in_ok-applied.others)) (map value_of c.args.arguments.now) w) c.in-Primitive.is (c.in_ok-applied.ensures.applied w (sym c.module_level.ensures)) in
    subst (ComesTo c.call_other.result (world_of c.call_other.new.world io)) (sym reached.1) (c.call_other.ensures.answer io)

pub returns-in_ok-copied-in-Function-clause-answer : goal.returns-in_ok-copied-in-Function-clause-answer
returns-in_ok-copied-in-Function-clause-answer c io =
    let w = world_of c.args.world.now io in
    let reached = subst (λ a. IsReached (Ok (a, c.in_ok-applied.others)) (map value_of c.args.arguments.now) w) c.in-Function.is (c.in_ok-applied.ensures.applied w (sym c.module_level.ensures)) in
    reached ∙ ap (λ xs. Gives (Calls c.in-Function.name (map value_of xs)) w) (sym c.in_ok-copied-in-Function.ensures)

pub returns-in_err-applied-clause-answer : goal.returns-in_err-applied-clause-answer
returns-in_err-applied-clause-answer c io =
    let w = world_of c.args.world.now io in
    let q = err_from_is_err_and c.from_residual.result c.from_residual.ensures.1 in
    subst (λ r. ComesTo r w (prim_op codes_of p.Apply (map value_of c.args.arguments.now) w)) (sym (q.1 ∙ ap Err q.2))
    (refused c.in_err-applied.field-0.0 (map value_of c.args.arguments.now) w (c.in_err-applied.ensures.applied w (sym c.module_level.ensures)))
