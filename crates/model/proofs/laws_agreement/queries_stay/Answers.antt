use Rattle.model.proofs.Language.CountsStay as by
use Rattle.model.proofs.laws_agreement.queries_stay.Goals as goal

pub returns-clause-answers : goal.returns-clause-answers
returns-clause-answers c = by.answers_stay

pub returns-clause-matches : goal.returns-clause-matches
returns-clause-matches c = by.matches_stay
