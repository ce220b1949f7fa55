use Rattle.std.proofs.Common.{map, sym, ap, subst, ◌∙◌, Err}
use Rattle.std.proofs.lemmas.Result.{err_from_is_err_and}
use Rattle.model.specs.declared.primitives.PrimId.TheVariants as p
use Rattle.model.specs.Language.Primitives.{prim_op}
use Rattle.model.specs.Machine.Steps.{codes_of}
use Rattle.values.specs.Values.{value_of}
use Rattle.primitives.specs.Calling.{IsReached}
use Rattle.primitives.proofs.Called.{no_more, reached, turned}
use Rattle.primitives.proofs.applying.apply.Goals as goal

pub returns-in_err-applied-clause-applied : goal.returns-in_err-applied-clause-applied
returns-in_err-applied-clause-applied c w at =
    let q = err_from_is_err_and c.from_residual.result c.from_residual.ensures.1 in
    subst (λ r. IsReached r (map value_of c.args.arguments.now) w) (sym (q.1 ∙ ap Err q.2))
    (no_more c.in_err-applied.field-0.0 (map value_of c.args.arguments.now) (value_of c.in-Some.name.now) (map value_of c.in-Some.others.now) w
    (c.loop-name.invariant w at ∙ ap (λ xs. prim_op codes_of p.Apply (map value_of xs) w) c.in-Some.ensures.cases.0) (c.in_err-applied.ensures.applied w at))

pub returns-then-not-is_apply-clause-applied : goal.returns-then-not-is_apply-clause-applied
returns-then-not-is_apply-clause-applied c w at =
    reached c.in_ok-applied.applied c.in-Some.others (map value_of c.args.arguments.now) (value_of c.in-Some.name.now) w
    (c.loop-name.invariant w at ∙ ap (λ xs. prim_op codes_of p.Apply (map value_of xs) w) c.in-Some.ensures.cases.0) (c.in_ok-applied.ensures.applied w at) c.if-not-is_apply.ensures

pub loop-name-preserved : goal.loop-name-preserved
loop-name-preserved c w at =
    turned c.in_ok-applied.applied (map value_of c.args.arguments.now) (value_of c.in-Some.name.now) (map value_of c.in-Some.others.now) w
    (c.loop-name.invariant w at ∙ ap (λ xs. prim_op codes_of p.Apply (map value_of xs) w) c.in-Some.ensures.cases.0) (c.in_ok-applied.ensures.applied w at) c.if-not-is_apply.ensures
