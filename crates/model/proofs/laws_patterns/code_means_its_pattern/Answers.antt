use Rattle.model.proofs.Pattern.Laws.{steps_law, scans_law}
use Rattle.model.proofs.laws_patterns.code_means_its_pattern.Goals as goal

pub returns-clause-steps : goal.returns-clause-steps
returns-clause-steps c = steps_law

pub returns-clause-scans : goal.returns-clause-scans
returns-clause-scans c = scans_law
