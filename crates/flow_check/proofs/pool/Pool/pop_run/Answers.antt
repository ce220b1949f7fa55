use Rattle.flow_check.specs.Shapes.{runs}
use Rattle.flow_check.proofs.RunLaws.{run_takes}
use Rattle.flow_check.proofs.pool.Pool.pop_run.Goals as goal

pub returns-clause-taken : goal.returns-clause-taken
returns-clause-taken c = λ ks h. run_takes _ _ _ _ ks (c.in_ok-below.ensures.popped (runs ks) h)
