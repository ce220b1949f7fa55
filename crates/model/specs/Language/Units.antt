-- Reading and writing the records of units.
use Rattle.std.specs.Prelude.{◌≡◌, ℕ, ◌<◌, List, [], ◌∷◌, ◌++◌, Option, Some, None, ◌==◌, nat_eq, ◌⊎◌, if◌then◌else◌}
use Rattle.model.specs.Language.Io.{Io}
use Rattle.model.specs.declared.run.UnitFault.{UnitFault}
use Rattle.model.specs.declared.run.UnitFault.TheVariants.{Memory}

-- ---- bytes and records

-- a byte in front of the first record
abbrev pub with_byte : ℕ → List (List ℕ) → List (List ℕ)
with_byte b [] = (b ∷ []) ∷ []
with_byte b (r ∷ rs) = (b ∷ r) ∷ rs

-- the records of bytes: their lines without line feeds; a last line without one is a record too
abbrev pub records_of : List ℕ → List (List ℕ)
records_of [] = []
records_of (b ∷ bs) = if b == 10 then [] ∷ records_of bs else with_byte b (records_of bs)

-- what a unit gets: each of its records, and a line feed after it
abbrev pub bytes_on : ℕ → List (record { unit : ℕ; bytes : List ℕ }) → List ℕ
bytes_on unit [] = []
bytes_on unit (p ∷ ps) = if nat_eq unit p.unit then p.bytes ++ 10 ∷ bytes_on unit ps else bytes_on unit ps

-- ---- a record is read or written

abbrev pub first_of : List (List ℕ) → Option (List ℕ)
first_of [] = None
first_of (r ∷ rs) = Some r

abbrev pub rest_of : List (List ℕ) → List (List ℕ)
rest_of [] = []
rest_of (r ∷ rs) = rs

abbrev pub after_read : ℕ → Io → Io
after_read unit io = record io { left = λ u. if nat_eq unit u then rest_of (io.left unit) else io.left u }

abbrev pub after_write : ℕ → List ℕ → Io → Io
after_write unit bytes io = record io { printed = io.printed ++ record { unit = unit; bytes = bytes } ∷ [] }

-- units that expose what they hold had `io` before and have `io'` after
abbrev pub Carries : Option Io → Option Io → Io → Io → Type 0
Carries None after io io' = Unit {0}
Carries (Some told) after io io' = (told ≡ io) × (after ≡ Some io')

-- a read gives the first record left, if there is one, and takes it
abbrev pub Reads : ℕ → Option (List ℕ) → Option Io → Option Io → Type 0
Reads unit got before after = (io : Io) × Carries before after io (after_read unit io) × (got ≡ first_of (io.left unit))

-- a write puts a record at the end
abbrev pub Writes : ℕ → List ℕ → Option Io → Option Io → Type 0
Writes unit bytes before after = (io : Io) × Carries before after io (after_write unit bytes io)

-- a count of failures has grown, or stands at its last value and stays
abbrev pub HasGrown : ℕ → ℕ → Type 0
HasGrown old new = (old < new) ⊎ ((old ≡ 18446744073709551615) × (new ≡ old))

-- a fault other than that of memory is counted
abbrev pub IsCounted : UnitFault → ℕ → ℕ → Type 0
IsCounted Memory old new = Unit {0}
IsCounted fault old new = HasGrown old new
