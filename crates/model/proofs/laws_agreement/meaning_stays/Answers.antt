use Rattle.model.proofs.Language.EndingsStay.{ending_stays, printed_grows}
use Rattle.model.proofs.laws_agreement.meaning_stays.Goals as goal

pub returns-clause-ending : goal.returns-clause-ending
returns-clause-ending c = ending_stays

pub returns-clause-printed : goal.returns-clause-printed
returns-clause-printed c = printed_grows
