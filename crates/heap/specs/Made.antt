-- Objects of a heap, what they hold, and those that calls make.
use Rattle.std.specs.Prelude.{ℕ, List, [], ◌∷◌, ◌++◌, length, map, replicate, Option, Some, None, Bool, if◌then◌else◌}
use Rattle.model.specs.Language.Values.{Key, Bounds, Object, ArrayOf, TableOf}
use Rattle.model.specs.Language.Prototypes.{elements_in, are_bounds}
use Rattle.model.specs.Language.Aggregates.{row_count}
use Rattle.aggregates.specs.Keys.{table_rows}
use Rattle.aggregates.specs.Made.{object_of, values_of}
use Rattle.aggregates.specs.declared.object.Object as held

module _ {V : Type 0} where
  abbrev pub objects_of : List (held.Object V) → List (Object V)
  objects_of xs = map object_of xs

  abbrev pub values_in : Option (Object V) → List V
  values_in None = []
  values_in (Some o) = values_of o

  -- ---- what calls make, if they make it

  abbrev pub filled : List Bounds → V → Option (Object V)
  filled bs v = if are_bounds bs then Some (ArrayOf bs (replicate (elements_in bs) v)) else None

  abbrev pub copied : Option (Object V) → Option (Object V)
  copied (Some (ArrayOf bs vs)) = Some (ArrayOf bs vs)
  copied _ = None

  abbrev pub as_array : Option (List Bounds × List V) → Option (Object V)
  as_array None = None
  as_array (Some a) = Some (ArrayOf a.0 a.1)

  -- how many rows the array of a table has
  abbrev pub rows_in : (V → Bool) → Option (Object V) → ℕ
  rows_in null (Some (TableOf es)) = row_count null es
  rows_in null _ = 0

  abbrev pub rows_array : (V → Bool) → (Key → V) → Option (Object V) → Option (Object V)
  rows_array null value (Some (TableOf es)) = as_array (table_rows null value es)
  rows_array null value _ = None

  -- its number
  abbrev pub number : Option (Object V) → List (Object V) → Option ℕ
  number None os = None
  number (Some o) os = Some (length os)

  -- the objects, with this one at the end
  abbrev pub with_object : Option (Object V) → List (Object V) → List (Object V)
  with_object None os = os
  with_object (Some o) os = os ++ o ∷ []
