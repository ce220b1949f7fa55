use Rattle.std.proofs.Common.{arith, ap, ◌∙◌, ◌∷◌}
use Rattle.strings.proofs.Lists.{first_seven}
use Rattle.strings.proofs.equality.first_word.Goals as goal

pub returns : goal.returns
returns c = c.word_of.ensures ∙ ap (λ xs. c.args.len ∷ xs) (first_seven c.args.array.now (omega (arith, c.requires.array)))
