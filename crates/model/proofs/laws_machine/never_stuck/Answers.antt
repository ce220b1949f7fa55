use Rattle.model.proofs.Machine.Complete.{complete}
use Rattle.model.proofs.Machine.Standing.{begun_stands, step_stands, run_stands, fetched, needs, never_stuck}
use Rattle.model.proofs.laws_machine.never_stuck.Goals as goal

pub returns-clause-complete : goal.returns-clause-complete
returns-clause-complete c = complete

pub returns-clause-begun : goal.returns-clause-begun
returns-clause-begun c = begun_stands

pub returns-clause-steps : goal.returns-clause-steps
returns-clause-steps c = step_stands

pub returns-clause-acts : goal.returns-clause-acts
returns-clause-acts c = run_stands

pub returns-clause-fetched : goal.returns-clause-fetched
returns-clause-fetched c = fetched

pub returns-clause-needs : goal.returns-clause-needs
returns-clause-needs c = needs

pub returns-clause-standing : goal.returns-clause-standing
returns-clause-standing c = λ im w h. h.0

pub returns-clause-runs : goal.returns-clause-runs
returns-clause-runs c = never_stuck
