use Rattle.std.proofs.Common.{◌∙◌}
use Rattle.primitives.proofs.Order.{after_is}
use Rattle.primitives.proofs.predicates.comes_after.Goals as goal

pub returns : goal.returns
returns c = c.gt.ensures ∙ after_is c.args.s.now c.args.t.now
