-- What a call saves, and what it gives.
use Rattle.std.specs.Prelude.{◌≡◌, ℕ, ◌-◌, List, [], ◌∷◌, ◌++◌, length, map, take, drop, Option, Some, None, Result, Ok, Err}
use Rattle.model.specs.Deck.Trees.{Bytes}
use Rattle.model.specs.Language.Io.{Io}
use Rattle.model.specs.Language.Conversions.{Op, Gives, Refuses, Faults}
use Rattle.model.specs.Language.Calls.{AValue, AName, Saved, kept_of}
use Rattle.model.specs.Language.Calls as calls
use Rattle.model.specs.Machine.Steps.{PCode, MW, MBack}
use Rattle.prototypes.specs.Views.{FunctionView, names_of}
use Rattle.pattern_compiler.specs.View.{name_of}
use Rattle.world.specs.Held.{WorldView, value_in, variable_at, world_of}
use Rattle.values.specs.Values.{value_of}
use Rattle.world.specs.declared.calls.Given.{Given}
use Rattle.world.specs.declared.calls.Given.TheVariants as given
use Rattle.world.specs.declared.calls.Kept.{Kept}
use Rattle.values.specs.declared.value.Value.{Value}
use Rattle.values.specs.declared.fault.Fault.{Fault}
use Rattle.values.specs.declared.fault.Fault.TheVariants as fault

-- each name with its value
abbrev pub saved_as : List Bytes → List Value → List (Saved PCode ℕ)
saved_as [] vs = []
saved_as (x ∷ xs) [] = []
saved_as (x ∷ xs) (v ∷ vs) = record { var = x; value = value_of v } ∷ saved_as xs vs

-- with the values that it saved
abbrev pub kept_as : Kept → List Value → calls.Kept PCode ℕ
kept_as k vs = record { name = k.prototype.name; saved = saved_as (names_of k.prototype) vs; stno = k.statement; fnclevel = k.level }

-- how many of the values are of calls that began before one that saved these names
abbrev pub older : List Bytes → List Value → ℕ
older xs saved = length saved - length xs

abbrev pub saved_below : List Bytes → List Value → List Value
saved_below xs saved = take (older xs saved) saved

-- those that it saved, at the end
abbrev pub saved_by : List Bytes → List Value → List Value
saved_by xs saved = drop (older xs saved) saved

-- with the values that it saved, of those of all calls
abbrev pub kept_with : Kept → List Value → calls.Kept PCode ℕ
kept_with k saved = kept_as k (saved_by (names_of k.prototype) saved)

abbrev pub given_of : Given → MBack
given_of (given.Value v) = AValue (value_of v)
given_of (given.Name n) = AName (name_of n)

-- the values of these names were put at the end
abbrev pub AreSaved : List Bytes → (before after : List Value) → WorldView → Type 0
AreSaved xs before after h = (vs : List Value) × (after ≡ before ++ vs) × (map value_of vs ≡ map (λ x. value_in (variable_at x h.variables)) xs)

-- a call keeps what it has to, and put what it saved at the end
abbrev pub IsKept : Kept → FunctionView → (before after : List Value) → WorldView → Type 0
IsKept k f before after h =
    (k.prototype ≡ f)
    × ((vs : List Value) × (after ≡ before ++ vs) × (length vs ≡ length (names_of f)) × ((io : Io) → kept_as k vs ≡ kept_of f.name f.arguments f.locals (world_of h io)))

-- the end of a call: an error leaves this world, and all else that one
abbrev pub LeavesTo : Result (Option Given) Fault → (here there : MW) → Op MW MBack → Type 0
LeavesTo (Ok (Some g)) here there o = o ≡ Gives (given_of g) there
LeavesTo (Ok None) here there o = o ≡ Refuses there
LeavesTo (Err (fault.Error e)) here there o = o ≡ Faults e here
LeavesTo (Err (fault.Stop s)) here there o = Unit {0}
