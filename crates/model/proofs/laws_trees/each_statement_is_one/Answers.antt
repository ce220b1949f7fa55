use Rattle.model.proofs.Decks.StatementSound.{stmt_sound}
use Rattle.model.proofs.Decks.StatementComplete.{stmt_full}
use Rattle.model.proofs.laws_trees.each_statement_is_one.Goals as goal

pub returns : goal.returns
returns c = record {
  sound = stmt_sound;
  complete = stmt_full;
  one = λ ts s t i j. let a = stmt_full ts s i in let b = stmt_full ts t j in cc;
}
