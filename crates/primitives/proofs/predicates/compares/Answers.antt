use Rattle.std.proofs.Common.{rules}
use Rattle.primitives.specs.Answers.{test_of}
use Rattle.primitives.proofs.Tests.{integers_tested}
use Rattle.primitives.proofs.predicates.compares.Goals as goal

pub returns : goal.returns
returns c w =
    integers_tested (test_of c.args.test) c.args.left.now c.args.right.now c.in-Integer.i c.in-Integer-right.j _ _ c.holds.result w c.in-Integer.is c.in-Integer-right.is (search rules) (search rules) c.holds.ensures
