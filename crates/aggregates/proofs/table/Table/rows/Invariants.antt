use Rattle.std.proofs.Common.{◌≡◌, take}
use Rattle.model.specs.Language.Aggregates.{rows}
use Rattle.aggregates.specs.Keys.{entries_of}
use Rattle.aggregates.proofs.table.Table.rows.Given as goal

abbrev pub invariant-loop-i : goal.invariant-loop-i
invariant-loop-i g l = l.all.items ≡ rows g.V.Element.null_test g.V.Element.key_value (entries_of (take l.i l.self-inside.values.entries))
