use Rattle.std.proofs.Common.{rules}
use Rattle.flow_check.proofs.Stacks.{grown, pop_part}
use Rattle.flow_check.proofs.pool.Pool.pop.Goals as goal

pub returns-clause-popped : goal.returns-clause-popped
returns-clause-popped c = λ ts h.
    let r = c.run-there.ensures ts h in
    let e = pop_part c.args.kind c.args.count c.run-there.result.0 ts r.0 (search rules) (search rules) (search rules) in
    rw e (_, c.in_ok-fewer.ensures.put, grown _ _ c.in_ok-fewer.ensures.grows _ _ r.1)
