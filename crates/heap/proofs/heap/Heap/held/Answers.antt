use Rattle.std.proofs.Common.{Option, subst}
use Rattle.model.specs.Language.Values.{Object}
use Rattle.aggregates.specs.Made.{StandBelow}
use Rattle.heap.specs.Made.{values_in}
use Rattle.heap.proofs.heap.Heap.held.Goals as goal

pub returns-in-Some : goal.returns-in-Some
returns-in-Some g c = subst (λ (o : Option (Object g.row.V.Denot)). StandBelow c.held.result (values_in o)) c.in-Some.ensures c.held.ensures
