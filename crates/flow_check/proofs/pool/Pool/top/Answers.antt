use Rattle.std.proofs.Common.{◌∙◌, arith, sym}
use Rattle.flow_check.proofs.Stacks.{high_node, low_node}
use Rattle.flow_check.proofs.pool.Pool.top.Goals as goal

pub returns-then-stack-lt-FIRST_BEGIN : goal.returns-then-stack-lt-FIRST_BEGIN
returns-then-stack-lt-FIRST_BEGIN c = c.placed.ensures ∙ sym (low_node c.args.self.now.nodes.keys c.args.stack c.if-stack-lt-FIRST_BEGIN.true)

pub returns-else-stack-lt-FIRST_BEGIN : goal.returns-else-stack-lt-FIRST_BEGIN
returns-else-stack-lt-FIRST_BEGIN c = sym (high_node c.args.self.now.nodes.keys c.args.stack c.if-stack-lt-FIRST_BEGIN.false (omega (arith, c.ranges.stack.fits)))
