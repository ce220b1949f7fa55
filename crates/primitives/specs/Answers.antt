-- What calls of primitives return.
use Rattle.std.specs.Prelude.{◌≡◌, ℕ, ℤ, map, Bool, true, false, not, int_le, int_lt, Option, Some, None, Result, Ok, Err}
use Rattle.model.specs.declared.run.ErrorCode.{ErrorCode}
use Rattle.model.specs.declared.run.ErrorCode.TheVariants as error
use Rattle.model.specs.declared.primitives.PrimId.{PrimId}
use Rattle.model.specs.declared.primitives.PrimId.TheVariants as p
use Rattle.model.specs.Language.Calls.{AValue, AName}
use Rattle.model.specs.Language.Io.{Io}
use Rattle.model.specs.Language.Conversions.{Op, Gives, Refuses, Faults}
use Rattle.model.specs.Machine.Steps.{PCode, MVal, MW}
use Rattle.model.specs.Language.Primitives.{Returns, Calls, int_same, returned}
use Rattle.model.specs.Language.Primitives as model
use Rattle.pattern_compiler.specs.View.{name_of}
use Rattle.values.specs.declared.fault.Fault.{Fault}
use Rattle.values.specs.declared.fault.Fault.TheVariants as fault
use Rattle.world.specs.Held.{WorldView, world_of}
use Rattle.values.specs.Values.{value_of}
use Rattle.primitives.specs.declared.outcome.Outcome.{Outcome}
use Rattle.primitives.specs.declared.outcome.Outcome.TheVariants as outcome
use Rattle.primitives.specs.declared.predicates.Comparison.{Comparison}
use Rattle.primitives.specs.declared.predicates.Comparison.TheVariants as comparison

-- the primitives that take their arguments by their numbers, three at most
abbrev pub is_by_number : PrimId → Bool
is_by_number p.Item = false
is_by_number p.Apply = false
is_by_number _ = true

-- what an outcome is of an operation that leaves this world
abbrev pub op_of : Outcome → MW → Op MW (model.Outcome PCode ℕ)
op_of (outcome.Value v) w = Gives (Returns (AValue (value_of v))) w
op_of (outcome.Name n) w = Gives (Returns (AName (name_of n))) w
op_of outcome.Failure w = Refuses w
op_of (outcome.Call f vs) w = Gives (Calls f (map value_of vs.items)) w

-- unless it stopped, a call comes to what the operation comes to, which leaves this world
abbrev pub ComesTo : Result Outcome Fault → MW → Op MW (model.Outcome PCode ℕ) → Type 0
ComesTo (Ok r) w o = o ≡ op_of r w
ComesTo (Err (fault.Error e)) w o = o ≡ Faults e w
ComesTo (Err (fault.Stop s)) w o = Unit {0}

-- in each world, unless it stopped, a call comes out as the operation does, which changes nothing
abbrev pub AnswersAs : Result Outcome Fault → (MW → Op MW MVal) → Type 0
AnswersAs r o = (w : MW) → ComesTo r w (returned (o w))

-- primitives that say something of two values and take no memory for it
abbrev pub is_test : PrimId → Bool
is_test p.Eq = true
is_test p.Ne = true
is_test p.Lt = true
is_test p.Le = true
is_test p.Gt = true
is_test p.Ge = true
is_test p.Ident = true
is_test p.Differ = true
is_test _ = false

-- what such a primitive comes to
abbrev pub tested : Result Bool ErrorCode → MW → Op MW (model.Outcome PCode ℕ)
tested (Ok b) w = returned (model.holds_if b w)
tested (Err e) w = Faults e w

-- whether two values are the same, or the error where that can't be asked
abbrev pub SameOr : Result Bool ErrorCode → Option Bool → Type 0
SameOr (Ok b) same = same ≡ Some b
SameOr (Err e) same = (same ≡ None) × (e ≡ error.WrongType)

-- unless it stopped, a call comes out as the operation does, and its new world is what that leaves of the old one
abbrev pub Changes : Result Outcome Fault → (MW → Op MW MVal) → (old new : WorldView) → Type 0
Changes r o old new = (io : Io) → ComesTo r (world_of new io) (returned (o (world_of old io)))

-- which integers a comparison holds of
abbrev pub test_of : Comparison → ℤ → ℤ → Bool
test_of comparison.Eq i j = int_same i j
test_of comparison.Ne i j = not (int_same i j)
test_of comparison.Lt i j = int_lt i j
test_of comparison.Le i j = int_le i j
test_of comparison.Gt i j = int_lt j i
test_of comparison.Ge i j = int_le j i
