-- How often each unit has failed, by its number.
use Rattle.std.specs.Prelude.{◌≡◌, ◌≢◌, ℕ, ◌+◌, List, Result, Ok, Err, nat_eq, slice_index_or, if◌then◌else◌}
use Rattle.model.specs.declared.run.UnitFault.{UnitFault}
use Rattle.model.specs.declared.run.UnitFault.TheVariants.{Memory}

abbrev pub failures_at : List ℕ → ℕ → ℕ
failures_at counts unit = slice_index_or counts unit 0

-- one more, but never past the last value of 64 bits
abbrev pub one_more : ℕ → ℕ
one_more n = if nat_eq n 18446744073709551615 then n else n + 1

-- each count is what it was
abbrev pub Same : (ℕ → ℕ) → (ℕ → ℕ) → Type 0
Same old new = (u : ℕ) → new u ≡ old u

-- each count but one is what it was
abbrev pub SameBut : ℕ → (ℕ → ℕ) → (ℕ → ℕ) → Type 0
SameBut unit old new = (u : ℕ) → u ≢ unit → new u ≡ old u

-- want of memory is no failure of a unit
abbrev pub IfMemory : UnitFault → Type 0 → Type 0
IfMemory Memory P = P
IfMemory fault P = Unit {0}

-- a call at which no unit failed
abbrev pub IfNoneFailed : {A : Type 0} → Result A UnitFault → Type 0 → Type 0
IfNoneFailed (Ok a) P = P
IfNoneFailed (Err fault) P = IfMemory fault P
