use Rattle.model.proofs.Module.LeastFaults as by
use Rattle.model.proofs.laws_modules.least_fault_is_told.Goals as goal

pub returns-clause-least : goal.returns-clause-least
returns-clause-least c = by.least_is_told

pub returns-clause-one : goal.returns-clause-one
returns-clause-one c = by.one_is_told
