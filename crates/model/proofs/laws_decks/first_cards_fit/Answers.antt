use Rattle.model.proofs.Decks.FirstCards.{first_cards_law}
use Rattle.model.proofs.laws_decks.first_cards_fit.Goals as goal

pub returns : goal.returns
returns c = first_cards_law
