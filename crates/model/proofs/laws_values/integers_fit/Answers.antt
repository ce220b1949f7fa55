use Rattle.model.proofs.Language.Integers.{fits_in_range, faults_beyond}
use Rattle.model.proofs.laws_values.integers_fit.Goals as goal

pub returns-clause-fit : goal.returns-clause-fit
returns-clause-fit c e z h = fits_in_range e z h

pub returns-clause-beyond : goal.returns-clause-beyond
returns-clause-beyond c e z h = faults_beyond e z h
