-- What an object holds at a place, and what it is with another value there.
use Rattle.std.specs.Prelude.{ℕ, Option, Some, None, Bool, true, false}
use Rattle.model.specs.Language.Values.{Key, Object, TableOf}
use Rattle.model.specs.Language.Operators.{element_of, with_element, with_value_for}
use Rattle.aggregates.specs.Keys.{index_at, key_of, value_at}
use Rattle.aggregates.specs.declared.place.ElementPlace.{ElementPlace}
use Rattle.aggregates.specs.declared.place.ElementPlace.TheVariants as place

-- what is there now, if it was stored
abbrev pub if_stored : {A : Type 0} → Bool → A → Option A
if_stored false a = None
if_stored true a = Some a

module _ {V : Type 0} where
  abbrev pub value_in : Key → Option (Object V) → Option V
  value_in k (Some (TableOf es)) = value_at k es
  value_in k _ = None

  -- where the entry of a table's key stands
  abbrev pub index_in : Key → Option (Object V) → Option ℕ
  index_in k (Some (TableOf es)) = index_at k es
  index_in k _ = None

  abbrev pub held_at : ElementPlace → Option (Object V) → Option V
  held_at (place.Element i) o = element_of o i
  held_at (place.Key k) o = value_in (key_of k) o

  abbrev pub stored_at : ElementPlace → V → Option (Object V) → Option (Object V)
  stored_at (place.Element i) v o = with_element i v o
  stored_at (place.Key k) v o = with_value_for (key_of k) v o
