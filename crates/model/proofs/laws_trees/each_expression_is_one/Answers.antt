use Rattle.model.proofs.Decks.ParseComplete.{expr_full}
use Rattle.model.proofs.Decks.ParseExact.{expr_sound}
use Rattle.model.proofs.laws_trees.each_expression_is_one.Goals as goal

pub returns : goal.returns
returns c = record {
  sound = expr_sound;
  complete = λ ts e s. expr_full e ts s;
  one = λ ts e f s t. let a = expr_full e ts s in let b = expr_full f ts t in cc;
}
