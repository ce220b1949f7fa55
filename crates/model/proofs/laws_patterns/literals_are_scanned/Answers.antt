use Rattle.model.proofs.Pattern.Literals.{literals_scanned, literal_scans_right}
use Rattle.model.proofs.laws_patterns.literals_are_scanned.Goals as goal

pub returns-clause-answers : goal.returns-clause-answers
returns-clause-answers c = literals_scanned

pub returns-clause-right : goal.returns-clause-right
returns-clause-right c = literal_scans_right
