use Rattle.model.proofs.Decks.Ends.{end_last}
use Rattle.model.proofs.laws_decks.end_is_last.Goals as goal

pub returns : goal.returns
returns c = end_last
