use Rattle.model.proofs.Pattern.MatchStates as by
use Rattle.model.proofs.laws_patterns.match_states_answer.Goals as goal

pub returns-clause-scan : goal.returns-clause-scan
returns-clause-scan c = by.answer_as_scan

pub returns-clause-first_end : goal.returns-clause-first_end
returns-clause-first_end c = by.answer_first_end

pub returns-clause-literals : goal.returns-clause-literals
returns-clause-literals c = by.answer_literals

pub returns-clause-comes : goal.returns-clause-comes
returns-clause-comes c = by.come
