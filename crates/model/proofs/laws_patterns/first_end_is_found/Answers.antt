use Rattle.model.proofs.Pattern.FirstEnd.{scan_of_first, first_of_scan}
use Rattle.model.proofs.laws_patterns.first_end_is_found.Goals as goal

pub returns-clause-scan : goal.returns-clause-scan
returns-clause-scan c s n p pl left b o = scan_of_first s n p pl left b o

pub returns-clause-first : goal.returns-clause-first
returns-clause-first c s m p pl left b o = first_of_scan s m p pl left b o
