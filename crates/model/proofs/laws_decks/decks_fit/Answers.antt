use Rattle.model.proofs.Decks.Sizes
use Rattle.model.proofs.laws_decks.decks_fit.Goals as goal

pub returns : goal.returns
returns c = Sizes.decks_fit
