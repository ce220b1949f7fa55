-- Objects by their numbers, and where an object holds what subscripts and names say.
use Rattle.std.specs.Prelude.{ℕ, ℤ, List, length, Option, Some, None}
use Rattle.model.specs.Language.Values.{Object, ArrayOf, RecordOf}
use Rattle.model.specs.Deck.Trees.{Bytes}
use Rattle.model.specs.Language.Aggregates.{place_from, index_of}
use Rattle.model.specs.Language.Operators.{element_of, with_item}

module _ {V : Type 0} where
  -- the objects with another one in the place of object k
  abbrev pub put_at : ℕ → Option (Object V) → List (Object V) → Option (List (Object V))
  put_at k None os = None
  put_at k (Some o) os = with_item k o os

  -- the place of an array's element, by its subscripts
  abbrev pub place_in : List ℤ → Option (Object V) → Option ℕ
  place_in zs (Some (ArrayOf bs vs)) = place_from 0 bs zs
  place_in zs _ = None

  -- the element at a place
  abbrev pub element_at : Option ℕ → Option (Object V) → Option V
  element_at None o = None
  element_at (Some i) o = element_of o i

  -- an array's element, by its subscripts
  abbrev pub element_in : List ℤ → Option (Object V) → Option V
  element_in zs o = element_at (place_in zs o) o

  -- how many dimensions an array has
  abbrev pub dimensions_in : Option (Object V) → ℕ
  dimensions_in (Some (ArrayOf bs vs)) = length bs
  dimensions_in _ = 0

  -- the place of a record's field, by its name
  abbrev pub field_in : Bytes → Option (Object V) → Option ℕ
  field_in f (Some (RecordOf t fs vs)) = index_of 0 f fs
  field_in f _ = None

  -- the type of a record
  abbrev pub record_type : Option (Object V) → Option Bytes
  record_type (Some (RecordOf t fs vs)) = Some t
  record_type _ = None
