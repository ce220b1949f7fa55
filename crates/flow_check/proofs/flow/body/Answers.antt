use Rattle.std.proofs.Common.{◌≡◌, refl, sym, subst, arith}
use Rattle.std.proofs.lemmas.Bool.Decides.{nat_tests}
use Rattle.model.specs.Module.Flow as flow
use Rattle.flow_check.specs.declared.shapes.Mode.TheVariants.{Goto}
use Rattle.flow_check.specs.Shapes.{IsShape}
use Rattle.flow_check.proofs.SameShapes.{empty_is}
use Rattle.flow_check.proofs.Steps.{in_body}
use Rattle.flow_check.proofs.flow.body.Goals as goal

pub returns-in-Body : goal.returns-in-Body
returns-in-Body c = λ s h.
    let k : c.args.shape.kinds ≡ 0 = grind (arith, nat_tests) in
    let b = (c.if-is_in_begin.ensures s.handlers h.handlers).0 refl in
    let e = subst (λ x. IsShape c.args.pool.now.nodes.keys x flow.bare) (sym c.empty.ensures) (empty_is c.args.pool.now.nodes.keys Goto) in
    ((b.0, in_body _ _ s h b.0 c.in-Body.is k b.1), e, tt)
