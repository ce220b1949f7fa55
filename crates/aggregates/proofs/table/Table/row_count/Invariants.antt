use Rattle.std.proofs.Common.{◌≡◌, ◌≤◌, take}
use Rattle.model.specs.Language.Aggregates.{row_count}
use Rattle.aggregates.specs.Keys.{entries_of}
use Rattle.aggregates.proofs.table.Table.row_count.Given as goal

abbrev pub invariant-loop-i : goal.invariant-loop-i
invariant-loop-i g l = record {
  same : l.count ≡ row_count g.V.Element.null_test (entries_of (take l.i l.self-inside.values.entries));
  few : l.count ≤ l.i;
}
