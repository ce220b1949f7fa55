use Rattle.std.proofs.Common.{arith}
use Rattle.card_reader.proofs.reader.is_dull.Goals as goal

pub returns-in-None : goal.returns-in-None
returns-in-None c = λ _ k lt h. c.in-None.ensures k (omega arith) lt h
