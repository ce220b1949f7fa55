use Rattle.model.proofs.Machine.LongerRuns.{ended_run_stays, run_prints_on}
use Rattle.model.proofs.laws_agreement.longer_runs_only_add.Goals as goal

pub returns-clause-ending : goal.returns-clause-ending
returns-clause-ending c = ended_run_stays

pub returns-clause-printed : goal.returns-clause-printed
returns-clause-printed c = run_prints_on
