use Rattle.model.proofs.Machine.SearchIn.{searches_in, supplied_in, asked_in}
use Rattle.model.proofs.laws_machine.searches_stay_in_range.Goals as goal

pub returns-clause-steps : goal.returns-clause-steps
returns-clause-steps c = searches_in

pub returns-clause-supplied : goal.returns-clause-supplied
returns-clause-supplied c = supplied_in

pub returns-clause-asked : goal.returns-clause-asked
returns-clause-asked c = asked_in
