use Rattle.model.proofs.Decks.TreeWeights.{read_less}
use Rattle.model.proofs.laws_decks.trees_fit.Goals as goal

pub returns : goal.returns
returns c = read_less
