use Rattle.model.proofs.Pattern.Laws.{ends_permitted}
use Rattle.model.proofs.laws_patterns.ends_are_permitted.Goals as goal

pub returns : goal.returns
returns c = ends_permitted
