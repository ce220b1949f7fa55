use Rattle.std.proofs.Common.{◌≡◌, arith}
use Rattle.std.proofs.lemmas.Bool.Decides.{nat_tests}
use Rattle.flow_check.specs.Shapes.{runs}
use Rattle.flow_check.proofs.RunLaws.{one_value, value_alone, zero_test}
use Rattle.flow_check.proofs.pool.Pool.is_value.Goals as goal

pub returns-then-count-eq1 : goal.returns-then-count-eq1
returns-then-count-eq1 c = λ ks h.
    let r = c.run-count.ensures (runs ks) h in
    let one : c.run-count.result.0 ≡ 1 = grind (arith, nat_tests) in
    let d = zero_test _ in (
      λ t. one_value _ _ _ ks r.0 r.1 one (d.0 t),
      λ e. d.1 (value_alone _ _ _ ks r.0 r.1 e),
    )
