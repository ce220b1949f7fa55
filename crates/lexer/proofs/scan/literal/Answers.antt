use Rattle.std.proofs.Common.{arith}
use Rattle.lexer.proofs.Scanning.{closed, open_}
use Rattle.lexer.proofs.scan.literal.Goals as goal

pub returns-in-Some : goal.returns-in-Some
returns-in-Some c =
    let found = c.in-Some.ensures in
    closed c.args.quote c.args.text.now c.in-Some.inner found.0.high (λ k h. found.0.before k (omega arith) h) found.1

pub returns-in-None : goal.returns-in-None
returns-in-None c = open_ c.args.quote c.args.text.now (λ k h. c.in-None.ensures k (omega arith) h)
