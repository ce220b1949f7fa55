use Rattle.model.proofs.Decks.Cutting.{cut_is, only_is}
use Rattle.model.proofs.laws_tokens.each_text_has_one_cut.Goals as goal

pub returns : goal.returns
returns c = record { cut = cut_is; only = only_is }
