use Rattle.model.proofs.Decks.Sizes.{accepted_fit}
use Rattle.model.proofs.laws_decks.accepted_decks_fit.Goals as goal

pub returns : goal.returns
returns c = accepted_fit
