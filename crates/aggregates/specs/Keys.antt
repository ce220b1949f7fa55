-- Keys and entries as they are held, and as the definitions see them.
use Rattle.std.specs.Prelude.{ℕ, suc, Bool, nat_eq, List, [], ◌∷◌, Option, Some, None, if◌then◌else◌, option_map}
use Rattle.model.specs.Language.Values.{Bounds, Key, IntegerAt, StringAt, Entry}
use Rattle.model.specs.Language.Aggregates.{row_count, rows, pairs}
use Rattle.model.specs.Language.Operators.{same_key}
use Rattle.aggregates.specs.declared.place.Key as held
use Rattle.aggregates.specs.declared.place.Key.TheVariants as k

abbrev pub key_of : held.Key → Key
key_of (k.Integer z) = IntegerAt z
key_of (k.String s) = StringAt s

abbrev pub entries_of : {V : Type 0} → List (held.Key × V) → List (Entry V)
entries_of [] = []
entries_of (e ∷ es) = record { key = key_of e.0; value = e.1 } ∷ entries_of es

-- the value for a key, if one was ever assigned
abbrev pub value_at : {V : Type 0} → Key → List (Entry V) → Option V
value_at k [] = None
value_at k (e ∷ es) = if same_key e.key k then Some e.value else value_at k es

-- where the entry of a key stands, if it was ever assigned
abbrev pub index_at : {V : Type 0} → Key → List (Entry V) → Option ℕ
index_at k [] = None
index_at k (e ∷ es) = if same_key e.key k then Some 0 else option_map suc (index_at k es)

-- dimensions and elements of the array of the rows, if there are any
abbrev pub table_rows : {V : Type 0} → (V → Bool) → (Key → V) → List (Entry V) → Option (List Bounds × List V)
table_rows null value es = if nat_eq (row_count null es) 0 then None else Some (pairs (row_count null es), rows null value es)
