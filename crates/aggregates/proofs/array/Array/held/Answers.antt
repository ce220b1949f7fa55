use Rattle.std.proofs.Common.{List, subst}
use Rattle.model.specs.Language.Values.{Bounds}
use Rattle.aggregates.specs.Made.{StandBelow}
use Rattle.aggregates.proofs.array.Array.held.Goals as goal

pub returns : goal.returns
returns g c = subst (λ (a : List Bounds × List g.row.V.Denot). StandBelow c.held.result a.1) c.self.view_is c.held.ensures
