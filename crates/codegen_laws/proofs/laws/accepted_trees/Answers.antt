use Rattle.codegen_laws.proofs.Images.{are_fit, are_countable}
use Rattle.codegen_laws.proofs.laws.accepted_trees.Goals as goal

pub returns-clause-fit : goal.returns-clause-fit
returns-clause-fit c = are_fit

pub returns-clause-countable : goal.returns-clause-countable
returns-clause-countable c = are_countable
