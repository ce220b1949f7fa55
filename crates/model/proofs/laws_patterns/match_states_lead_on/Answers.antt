use Rattle.model.proofs.Pattern.MatchStates as by
use Rattle.model.proofs.laws_patterns.match_states_lead_on.Goals as goal

pub returns-clause-steps : goal.returns-clause-steps
returns-clause-steps c = by.steps_lead_on

pub returns-clause-answers : goal.returns-clause-answers
returns-clause-answers c = by.answers_lead_on
