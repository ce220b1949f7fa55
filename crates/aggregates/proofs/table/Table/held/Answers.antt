use Rattle.std.proofs.Common.{List, map, subst, sym}
use Rattle.model.specs.Language.Values.{Entry}
use Rattle.aggregates.specs.Keys.{entries_of}
use Rattle.aggregates.specs.Made.{StandBelow}
use Rattle.aggregates.proofs.Entries.{entries_stand}
use Rattle.aggregates.proofs.table.Table.held.Goals as goal

pub returns : goal.returns
returns g c =
    let es = c.self.inside.values.entries in
    subst (λ (xs : List (Entry g.row.V.Denot)). StandBelow c.len.result (map (λ (e : Entry g.row.V.Denot). e.value) xs)) c.self.view_is
    (subst (λ n. StandBelow n (map (λ (e : Entry g.row.V.Denot). e.value) (entries_of es))) (sym c.len.ensures.len) (entries_stand es))
