use Rattle.model.proofs.Machine.OperationsIn.{first_in}
use Rattle.model.proofs.Machine.StepsIn.{begun_in, steps_in, asks_in}
use Rattle.model.proofs.Machine.ImagesIn.{none_asked}
use Rattle.model.proofs.laws_machine.expressions_stay_in_range.Goals as goal

pub returns-clause-first : goal.returns-clause-first
returns-clause-first c = first_in

pub returns-clause-begun : goal.returns-clause-begun
returns-clause-begun c = begun_in

pub returns-clause-steps : goal.returns-clause-steps
returns-clause-steps c = steps_in

pub returns-clause-asked : goal.returns-clause-asked
returns-clause-asked c = asks_in

pub returns-clause-none : goal.returns-clause-none
returns-clause-none c = none_asked
