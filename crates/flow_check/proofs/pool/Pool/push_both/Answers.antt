use Rattle.std.proofs.Common.{◌∷◌, arith, length, ◌<◌, ◌-◌, ◌^◌}
use Rattle.model.specs.Module.Flow.{N}
use Rattle.flow_check.proofs.Stacks.{grows_on}
use Rattle.flow_check.proofs.pool.Pool.push_both.Goals as goal

pub push-requires-2 : goal.push-requires-2
push-requires-2 c =
    let q = c.requires in
    let fits : length (N ∷ q.0) < 2 ^ 32 - 1 = omega (arith, q.2) in
    (N ∷ q.0, c.in_ok-name.ensures.pushed q.0 q.1, fits)

pub returns-clause-pushed : goal.returns-clause-pushed
returns-clause-pushed c = λ ks h. c.in_ok-both.ensures.pushed (N ∷ ks) (c.in_ok-name.ensures.pushed ks h)

pub returns-clause-grows : goal.returns-clause-grows
returns-clause-grows c = grows_on _ _ _ c.in_ok-name.ensures.grows c.in_ok-both.ensures.grows
