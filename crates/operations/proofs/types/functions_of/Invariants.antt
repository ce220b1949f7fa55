use Rattle.std.proofs.Common.{◌≡◌, bytes_eq, take}
use Rattle.indexmap.specs.IndexMap.{IsUnique}
use Rattle.model.specs.Deck.Trees.{Bytes}
use Rattle.values.specs.Functions.{function_at, function_of_type}
use Rattle.operations.proofs.types.functions_of.Given as goal

abbrev pub invariant-loop-field : goal.invariant-loop-field
invariant-loop-field l = record {
  made : (x : Bytes) → function_at x l.made.entries ≡ function_of_type l.prototype.name l.prototype.fields (take l.field-index l.fields) x;
  unique : IsUnique bytes_eq l.made;
}
