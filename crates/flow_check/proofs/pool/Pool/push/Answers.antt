use Rattle.std.proofs.Common.{arith}
use Rattle.flow_check.specs.Shapes.{runs}
use Rattle.flow_check.proofs.RunLaws.{pushed, run_within}
use Rattle.flow_check.proofs.pool.Pool.push.Goals as goal

pub overflow_add-count : goal.overflow_add-count
overflow_add-count c =
    let q = c.requires in
    let r = c.run-count.ensures (runs q.0) q.1 in
    let w = run_within c.args.kind q.0 in
    omega (arith, r.0, w, q.2)

pub returns-clause-pushed : goal.returns-clause-pushed
returns-clause-pushed c = λ ks h.
    let r = c.run-count.ensures (runs ks) h in
    pushed _ _ c.in_ok-more.ensures.grows c.args.kind c.run-count.result.0 c.run-count.result.1 c.in_ok-more.more ks r.0 r.1 c.in_ok-more.ensures.put
