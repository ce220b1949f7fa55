use Rattle.std.proofs.Common.{◌≡◌, ap, arith}
use Rattle.std.proofs.lemmas.Bool.Decides.{nat_tests}
use Rattle.model.specs.Module.Flow as flow
use Rattle.flow_check.proofs.Steps.{with_value}
use Rattle.flow_check.proofs.flow.is_one_value.Goals as goal

pub returns-then-shape-eq-EMPTY : goal.returns-then-shape-eq-EMPTY
returns-then-shape-eq-EMPTY c = λ s h.
    let e : c.args.shape.handlers ≡ 0 = grind (arith, nat_tests) in
    let d = c.is_value.ensures s.kinds h.kinds in
    (λ t. with_value _ _ s h e (d.0 t), λ x. d.1 (ap (λ (y : flow.Shape). y.kinds) x))
