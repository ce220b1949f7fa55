use Rattle.std.proofs.Common.{sym}
use Rattle.std.specs.Cmp.Lexicographic.{bytes_decides}
use Rattle.strings.proofs.equality.TextPartialEq.eq.Goals as goal

pub returns-then-are_same_few : goal.returns-then-are_same_few
returns-then-are_same_few c = sym ((bytes_decides c.args.self.now c.args.other.now).1 (c.are_same_few.ensures c.if-are_same_few.true))
