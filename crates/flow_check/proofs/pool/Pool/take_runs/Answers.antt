use Rattle.flow_check.proofs.Stacks.{grows_on}
use Rattle.flow_check.proofs.RunLaws.{then_some}
use Rattle.flow_check.proofs.pool.Pool.take_runs.Goals as goal

pub returns-in_ok-below-in-Some-clause-grows : goal.returns-in_ok-below-in-Some-clause-grows
returns-in_ok-below-in-Some-clause-grows c = grows_on _ _ _ c.in_ok-pop_run.ensures.grows c.in_ok-below-in-Some.ensures.grows

pub returns-in_ok-below-in-Some-clause-taken : goal.returns-in_ok-below-in-Some-clause-taken
returns-in_ok-below-in-Some-clause-taken c = λ ks h. rw c.runs.ensures (then_some _ _ _ _ c.in-Some.rest _ _ ks c.in-Some.is (c.in_ok-pop_run.ensures.taken ks h) c.in_ok-below-in-Some.ensures.taken)
