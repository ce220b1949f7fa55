use Rattle.std.proofs.Common.{◌≡◌, ◌-◌, map}
use Rattle.model.specs.Module.Reading.{entries_from, table_at, string_at}
use Rattle.module_format.proofs.strings.read_strings.Given as goal

abbrev pub invariant-loop : goal.invariant-loop
invariant-loop l = record {
  so_far : entries_from string_at (map (λ k. k.now) l.items.items) (l.n - l.counter) l.rest ≡ table_at string_at l.bytes;
  seen : map (λ k. k.now) l.seen.texts.keys ≡ map (λ k. k.now) l.items.items;
}
