use Rattle.model.proofs.Rows.Patterns as by
use Rattle.model.proofs.laws_patterns.pattern_cases.Goals as goal

pub returns-clause-scans : goal.returns-clause-scans
returns-clause-scans c = by.scans_meet_cases

pub returns-clause-steps : goal.returns-clause-steps
returns-clause-steps c = by.steps_meet_cases

pub returns-clause-scans_asked : goal.returns-clause-scans_asked
returns-clause-scans_asked c = by.scans_meet_questions

pub returns-clause-steps_asked : goal.returns-clause-steps_asked
returns-clause-steps_asked c = by.steps_meet_questions

pub returns-clause-nested : goal.returns-clause-nested
returns-clause-nested c = by.nested_ends
