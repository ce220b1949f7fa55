use Rattle.model.proofs.Pattern.StepsBounded.{pattern_steps_law, pattern_steps_on_law}
use Rattle.model.proofs.laws_patterns.pattern_steps_are_bounded.Goals as goal

pub returns-clause-from_start : goal.returns-clause-from_start
returns-clause-from_start c = pattern_steps_law

pub returns-clause-from_there : goal.returns-clause-from_there
returns-clause-from_there c = pattern_steps_on_law
