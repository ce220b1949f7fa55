use Rattle.std.proofs.Common.{sym, arith}
use Rattle.std.proofs.lemmas.List.{take_all}
use Rattle.card_reader.proofs.kinds.columns_of.Goals as goal

pub returns-then-line-lt-COLUMNS : goal.returns-then-line-lt-COLUMNS
returns-then-line-lt-COLUMNS c = sym (take_all 72 c.args.line.now (omega arith))
