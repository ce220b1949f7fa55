use Rattle.std.proofs.Common.{subst, sym}
use Rattle.aggregates.specs.Made.{StandBelow, object_of, values_of}
use Rattle.aggregates.specs.declared.object.Object as held
use Rattle.aggregates.proofs.object.Object.held.Goals as goal

pub returns-in-Array : goal.returns-in-Array
returns-in-Array g c = subst (λ (o : held.Object g.row.V.Denot). StandBelow c.held.result (values_of (object_of o))) (sym c.in-Array.is) c.held.ensures

pub returns-in-Table : goal.returns-in-Table
returns-in-Table g c = subst (λ (o : held.Object g.row.V.Denot). StandBelow c.held-in-Table.result (values_of (object_of o))) (sym c.in-Table.is) c.held-in-Table.ensures

pub returns-in-Record : goal.returns-in-Record
returns-in-Record g c = subst (λ (o : held.Object g.row.V.Denot). StandBelow c.held-in-Record.result (values_of (object_of o))) (sym c.in-Record.is) c.held-in-Record.ensures
