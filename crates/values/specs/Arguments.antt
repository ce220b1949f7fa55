-- What a call gives to the variables of its function.
use Rattle.std.specs.Prelude.{◌≡◌, ℕ, List, [], ◌∷◌, ◌++◌, get_or, length, map, take, replicate}
use Rattle.model.specs.Language.Values.{Str}
use Rattle.model.specs.Machine.Steps.{MVal}
use Rattle.prototypes.specs.Views.{FunctionView, names_of}
use Rattle.values.specs.Values.{value_of}
use Rattle.values.specs.declared.value.Value.{Value}

-- stands for the slot of a name whose slot isn't known
abbrev pub no_slot : ℕ
no_slot = 4294967295

-- the slot in this place, if there is one
abbrev pub slot_in : List ℕ → (place : ℕ) → ℕ
slot_in slots k = get_or slots k no_slot

-- so many null values
abbrev pub nulls : ℕ → List MVal
nulls n = replicate n (Str [])

-- what a call gives to the variables of a function was put at the end: null to its name, its arguments to theirs, and else null
abbrev pub ArePut : FunctionView → (arguments before after : List Value) → Type 0
ArePut f given before after =
    (vs : List Value) × (after ≡ before ++ vs) × (length vs ≡ length (names_of f))
    × ((n : ℕ) × (map value_of vs ≡ Str [] ∷ (take (length f.arguments) (map value_of given) ++ nulls n)))

-- null values were put at the end, up to so many in all
abbrev pub AreFilled : (count : ℕ) → (before after : List Value) → Type 0
AreFilled count before after = (vs : List Value) × (after ≡ before ++ vs) × (map value_of vs ≡ nulls (length vs)) × (length after ≡ count)
