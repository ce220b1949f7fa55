use Rattle.model.proofs.Language.CountsStay as by
use Rattle.model.proofs.laws_agreement.counts_stay.Goals as goal

pub returns-clause-counts : goal.returns-clause-counts
returns-clause-counts c = by.counts_stay

pub returns-clause-rules : goal.returns-clause-rules
returns-clause-rules c = by.rules_stay
