use Rattle.model.proofs.Module.LeastFaults as by
use Rattle.model.proofs.laws_modules.faultless_is_well_formed.Goals as goal

pub returns-clause-none : goal.returns-clause-none
returns-clause-none c = by.well_formed_has_none

pub returns-clause-formed : goal.returns-clause-formed
returns-clause-formed c = by.none_is_well_formed
