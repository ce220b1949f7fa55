-- Slots of the variables of functions, which are known to be theirs.
use Rattle.std.specs.Prelude.{◌≡◌, ◌⊎◌, ℕ, List, Option, Some, None, slice_get}
use Rattle.model.specs.Deck.Trees.{Bytes}
use Rattle.prototypes.specs.Views.{FunctionView, names_of}
use Rattle.values.specs.Arguments.{no_slot, slot_in}
use Rattle.values.specs.Functions.{Functions, function_at}
use Rattle.values.specs.declared.functions.Function.{Function}
use Rattle.values.specs.declared.functions.Function.TheVariants as function
use Rattle.world.specs.declared.calls.Kept.{Kept}

-- the slot is the one that the name keeps, or none is known
abbrev pub IsSlotOf : Bytes → (slot : ℕ) → (names : List Bytes) → Type 0
IsSlotOf x slot names = (slot ≡ no_slot) ⊎ (slice_get names slot ≡ Some x)

-- so is the slot of each of these names
abbrev pub AreSlotsOf : (xs : List Bytes) → (slots : List ℕ) → (names : List Bytes) → Type 0
AreSlotsOf xs slots names = (k : ℕ) (x : Bytes) → slice_get xs k ≡ Some x → IsSlotOf x (slot_in slots k) names

-- the slots of a prototype are those of its names
abbrev pub HasSlots : (names : List Bytes) → FunctionView → Type 0
HasSlots names f = AreSlotsOf (names_of f) f.slots names

-- so are those of a function that DEFINE made
abbrev pub FunctionStands : (names : List Bytes) → Function → Type 0
FunctionStands names (function.Defined entry f) = HasSlots names f
FunctionStands names _ = Unit {0}

abbrev pub IfStands : (names : List Bytes) → Option Function → Type 0
IfStands names None = Unit {0}
IfStands names (Some f) = FunctionStands names f

-- and those of every function
abbrev pub FunctionsStand : (names : List Bytes) → Functions → Type 0
FunctionsStand names fs = (x : Bytes) → IfStands names (function_at x fs)

-- and those of a call that waits
abbrev pub KeptStands : (names : List Bytes) → Kept → Type 0
KeptStands names k = HasSlots names k.prototype
