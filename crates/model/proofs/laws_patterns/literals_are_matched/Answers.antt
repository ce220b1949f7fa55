use Rattle.model.proofs.Pattern.Literals.{literals_run, literal_runs_right}
use Rattle.model.proofs.laws_patterns.literals_are_matched.Goals as goal

pub returns-clause-answers : goal.returns-clause-answers
returns-clause-answers c = literals_run

pub returns-clause-right : goal.returns-clause-right
returns-clause-right c = literal_runs_right
