-- What calls answer, as the definitions see it.
use Rattle.std.specs.Prelude.{◌≡◌, ℕ, ℤ, Option, Some, None, Result, Ok, Err}
use Rattle.model.specs.declared.run.ErrorCode.{ErrorCode}
use Rattle.model.specs.declared.run.ErrorCode.TheVariants as error
use Rattle.model.specs.declared.run.Stop.{Stop}
use Rattle.model.specs.declared.run.Stop.TheVariants as stop
use Rattle.model.specs.declared.run.UnitFault.{UnitFault}
use Rattle.model.specs.declared.run.UnitFault.TheVariants as unit
use Rattle.model.specs.Language.Conversions.{Conv, Got, Bad, Op, Gives, Refuses, Faults}
use Rattle.strings.specs.declared.fault.StrFault.{StrFault}
use Rattle.strings.specs.declared.fault.StrFault.TheVariants as text
use Rattle.values.specs.declared.fault.Fault.{Fault}
use Rattle.values.specs.declared.fault.Fault.TheVariants as fault

abbrev pub fault_of : StrFault → Fault
fault_of text.Memory = fault.Stop stop.NoMemory
fault_of text.TooLong = fault.Error error.StringTooLong

-- the answer, with f of what it gives
abbrev pub answer_map : {A B E : Type 0} → (A → B) → Result A E → Result B E
answer_map f (Ok a) = Ok (f a)
answer_map f (Err e) = Err e

-- the answer of a call that gives nothing
abbrev pub done : {E : Type 0} → Result (Unit {0}) E → Result (record {}) E
done (Ok u) = Ok (record {})
done (Err e) = Err e

-- ---- conversions

-- a call that takes no memory
abbrev pub conv_of : {A : Type 0} → Result A ErrorCode → Conv A
conv_of (Ok a) = Got a
conv_of (Err e) = Bad e

-- an integer, or nothing in place of the error of arithmetic
abbrev pub integer_or_error : Option ℤ → Conv ℤ
integer_or_error (Some n) = Got n
integer_or_error None = Bad error.Arithmetic

-- unless it stopped, a call answers as the conversion does
abbrev pub Converts : {A : Type 0} → Result A Fault → Conv A → Type 0
Converts (Ok a) c = c ≡ Got a
Converts (Err (fault.Error e)) c = c ≡ Bad e
Converts (Err (fault.Stop s)) c = Unit {0}

-- ---- operations

-- a call that takes no memory
abbrev pub op_of : {W A : Type 0} → Result A ErrorCode → W → Op W A
op_of (Ok a) w = Gives a w
op_of (Err e) w = Faults e w

-- unless it stopped, a call answers as the operation does, which leaves this world
abbrev pub AnswersAs : {W A : Type 0} → Result A Fault → W → Op W A → Type 0
AnswersAs (Ok a) w o = o ≡ Gives a w
AnswersAs (Err (fault.Error e)) w o = o ≡ Faults e w
AnswersAs (Err (fault.Stop s)) w o = Unit {0}

-- the same for operations that may fail
abbrev pub AnswersOrFails : {W A : Type 0} → Result (Option A) Fault → W → Op W A → Type 0
AnswersOrFails (Ok (Some a)) w o = o ≡ Gives a w
AnswersOrFails (Ok None) w o = o ≡ Refuses w
AnswersOrFails (Err (fault.Error e)) w o = o ≡ Faults e w
AnswersOrFails (Err (fault.Stop s)) w o = Unit {0}

-- unless it stopped, a call gives what the operation goes on with, or its error
abbrev pub LeadsTo : {W A B : Type 0} → Result A Fault → W → (A → Op W B) → Op W B → Type 0
LeadsTo (Ok a) w k o = o ≡ k a
LeadsTo (Err (fault.Error e)) w k o = o ≡ Faults e w
LeadsTo (Err (fault.Stop s)) w k o = Unit {0}

-- a call that stopped
abbrev pub IfStopped : {A : Type 0} → Result A Fault → (Stop → Type 0) → Type 0
IfStopped (Err (fault.Stop s)) P = P s
IfStopped _ P = Unit {0}

-- ---- units

-- why a call stopped, if it did
abbrev pub stopped_by : {A : Type 0} → Result A Fault → Option Stop
stopped_by (Err (fault.Stop why)) = Some why
stopped_by _ = None

-- why a run stops where a unit refuses a call
abbrev pub stop_of : ℕ → UnitFault → Stop
stop_of u unit.Memory = stop.NoMemory
stop_of u cause = stop.Unit u cause
