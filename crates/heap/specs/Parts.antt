-- What an object is made of.
use Rattle.std.specs.Prelude.{List, [], Option, Some}
use Rattle.model.specs.Deck.Trees.{Bytes}
use Rattle.model.specs.Language.Values.{ArrayOf, Bounds, Entry, Object, RecordOf, TableOf}

module _ {V : Type 0} where
  -- the dimensions of an array
  abbrev pub bounds_in : Option (Object V) → List Bounds
  bounds_in (Some (ArrayOf bs vs)) = bs
  bounds_in _ = []

  -- the entries of a table, in the order in which their keys were first assigned
  abbrev pub entries_in : Option (Object V) → List (Entry V)
  entries_in (Some (TableOf es)) = es
  entries_in _ = []

  -- the names of a record's fields
  abbrev pub fields_in : Option (Object V) → List Bytes
  fields_in (Some (RecordOf t fs vs)) = fs
  fields_in _ = []
