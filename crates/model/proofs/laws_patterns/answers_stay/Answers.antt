use Rattle.model.proofs.Pattern.Laws.{ends_grow, search_stays, scan_stays}
use Rattle.model.proofs.laws_patterns.answers_stay.Goals as goal

pub returns-clause-ends : goal.returns-clause-ends
returns-clause-ends c = ends_grow

pub returns-clause-scans : goal.returns-clause-scans
returns-clause-scans c = scan_stays

pub returns-clause-searches : goal.returns-clause-searches
returns-clause-searches c = search_stays
