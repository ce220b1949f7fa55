use Rattle.std.proofs.Common.{◌≡◌, ◌-◌, []}
use Rattle.model.specs.Module.Reading.{entries_from}
use Rattle.module_format.proofs.tables.read_entries.Given as goal

abbrev pub invariant-loop : goal.invariant-loop
invariant-loop g l = entries_from g.T.Table.entry l.items.items (l.n - l.counter) l.rest ≡ entries_from g.T.Table.entry [] l.n l.bytes
