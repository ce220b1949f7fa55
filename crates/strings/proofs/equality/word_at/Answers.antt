use Rattle.std.proofs.Common.{arith, ◌∙◌}
use Rattle.strings.proofs.Lists.{eight_at}
use Rattle.strings.proofs.equality.word_at.Goals as goal

pub returns : goal.returns
returns c = c.word_of.ensures ∙ eight_at c.args.at c.args.array.now (omega (arith, c.requires.within, c.requires.array))
