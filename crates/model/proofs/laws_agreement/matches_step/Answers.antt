use Rattle.model.proofs.Machine.Matches.{match_runs, match_comes}
use Rattle.model.proofs.laws_agreement.matches_step.Goals as goal

pub returns-clause-runs : goal.returns-clause-runs
returns-clause-runs c = match_runs

pub returns-clause-comes : goal.returns-clause-comes
returns-clause-comes c = match_comes
