use Rattle.flow_check.proofs.SameShapes.{bare_test}
use Rattle.flow_check.proofs.flow.is_bare.Goals as goal

pub returns : goal.returns
returns c = λ ns s h. bare_test ns _ _ s _ c.is_same.ensures c.empty.ensures h
