-- What arrays and tables hold for their subscripts.
use Rattle.std.specs.Prelude.{◌≡◌, ℕ, List, [], ◌∷◌, Some, slice_get}
use Rattle.model.specs.Deck.Target.{Name, IntegerKey, StringKey}
use Rattle.model.specs.Deck.Trees.{Bytes}
use Rattle.model.specs.Language.Io.{Io}
use Rattle.model.specs.Language.Aggregates.{element_op, field_op}
use Rattle.model.specs.Language.Conversions.{Gives}
use Rattle.model.specs.Language.Operators.{fetch_op}
use Rattle.model.specs.Language.Values.{Field, Int, IntegerAt, Key, Obj, Str, StringAt}
use Rattle.model.specs.Machine.Steps.{MVal, MW}
use Rattle.aggregates.specs.Objects.{index_in}
use Rattle.world.specs.Held.{WorldView, world_of}

-- an array or a table has this value for this subscript alone
abbrev pub HoldsAt : (base subscript value : MVal) → WorldView → Type 0
HoldsAt b s v h = (n : Name) × ((io : Io) → (element_op b (s ∷ []) (world_of h io) ≡ Gives n (world_of h io)) × (fetch_op n (world_of h io) ≡ Gives v (world_of h io)))

-- the value that a key is
abbrev pub key_value : Key → MVal
key_value (IntegerAt n) = Int n
key_value (StringAt s) = Str s

-- the name of what a table has for a key
abbrev pub entry_name : ℕ → Key → Name
entry_name object (IntegerAt n) = IntegerKey object n
entry_name object (StringAt s) = StringKey object s

-- it is the name of the entry of a table that stands at an index
abbrev pub IsEntry : Name → (object index : ℕ) → WorldView → Type 0
IsEntry name object index h = (k : Key) × (name ≡ entry_name object k) × (index_in k (slice_get h.objects object) ≡ Some index)

-- the entry that a table has for this subscript alone stands there
abbrev pub IndexesEntry : (object : ℕ) → (subscript : MVal) → (index : ℕ) → WorldView → Type 0
IndexesEntry object s index h = (name : Name) × IsEntry name object index h × ((io : Io) → element_op (Obj object) (s ∷ []) (world_of h io) ≡ Gives name (world_of h io))

-- the field of a value, whose function has the name of the variable in a slot, has this name
abbrev pub FieldNames : List Bytes → (slot : ℕ) → (record' : MVal) → Name → MW → Type 0
FieldNames ns slot r n w = (f : Bytes) × (slice_get ns slot ≡ Some f) × (w.plain.functions f ≡ Some Field) × (field_op f r w ≡ Gives n w)
