-- What units in memory hold.
use Rattle.std.specs.Prelude.{◌≡◌, ℕ, ◌+◌, List, [], ◌∷◌, ◌++◌, Option, Some, None, length, map, nat_eq, ◌⊎◌, set, if◌then◌else◌, Bool, true, false}
use Rattle.model.specs.Language.Io.{Io}
use Rattle.unit_io.specs.Counts.{failures_at, one_more}
use Rattle.model.specs.Language.Units.{bytes_on, first_of, rest_of}
use Rattle.model.specs.declared.run.UnitFault.{UnitFault}
use Rattle.model.specs.declared.run.UnitFault.TheVariants.{NotOpen, Memory}
use Rattle.unit_io.specs.declared.mem.OpenUnit.{OpenUnit}
use Rattle.unit_io.specs.declared.mem.Side.{Side}
use Rattle.unit_io.specs.declared.mem.Side.TheVariants.{Input, Output}
use Rattle.unit_io.specs.declared.mem.Written.{Written}
use Rattle.unit_io.specs.Ways.{Way, Reading, Writing}

pub record UnitsView : Type 0 where
  -- in the order of opening
  pub opened : List OpenUnit
  pub printed : List Written
  -- by number of unit
  pub failures : List ℕ

abbrev pub side_at : ℕ → List OpenUnit → Option Side
side_at unit [] = None
side_at unit (o ∷ os) = if nat_eq unit o.unit then Some o.side else side_at unit os

abbrev pub left_by : Option Side → List (List ℕ)
left_by (Some (Input records)) = records
left_by _ = []

abbrev pub records_printed : List Written → List (record { unit : ℕ; bytes : List ℕ })
records_printed ws = map (λ w. record { unit = w.unit; bytes = w.bytes }) ws

-- what they tell
abbrev pub io_of : UnitsView → Io
io_of h = record { left = λ unit. left_by (side_at unit h.opened); printed = records_printed h.printed }

abbrev pub failures_of : UnitsView → ℕ → ℕ
failures_of h unit = failures_at h.failures unit

abbrev pub IsReadable : Option Side → Type 0
IsReadable (Some (Input records)) = Unit {0}
IsReadable _ = ⊥

abbrev pub IsWritable : Option Side → Type 0
IsWritable (Some (Output bytes)) = Unit {0}
IsWritable _ = ⊥

-- a unit fails only where it isn't open in the way in which it is used
abbrev pub is_shut : Way → Option Side → Bool
is_shut Reading (Some (Input records)) = false
is_shut Reading _ = true
is_shut Writing (Some (Output bytes)) = false
is_shut Writing _ = true

abbrev pub may_fail_of : UnitsView → Way → ℕ → Bool
may_fail_of h way unit = is_shut way (side_at unit h.opened)

-- the bytes that a unit for output keeps
abbrev pub output_of : Option Side → List ℕ
output_of (Some (Output bytes)) = bytes
output_of _ = []

-- where a unit stands in the list of those that are open, whose first has the place k
abbrev pub place_of : ℕ → ℕ → List OpenUnit → Option ℕ
place_of k unit [] = None
place_of k unit (o ∷ os) = if nat_eq unit o.unit then Some k else place_of (k + 1) unit os

-- with another side of a unit
abbrev pub with_side : ℕ → Side → List OpenUnit → List OpenUnit
with_side unit side [] = []
with_side unit side (o ∷ os) = if nat_eq unit o.unit then record { unit = o.unit; side = side } ∷ os else o ∷ with_side unit side os

-- ---- what calls do

-- one more unit was opened
abbrev pub with_unit : ℕ → Side → UnitsView → UnitsView
with_unit unit side h = record h { opened = h.opened ++ record { unit = unit; side = side } ∷ [] }

-- the first record left on the unit was taken
abbrev pub IsRead : ℕ → Option (List ℕ) → UnitsView → UnitsView → Type 0
IsRead unit got old new =
    (records : List (List ℕ)) × (side_at unit old.opened ≡ Some (Input records)) × (got ≡ first_of records) × (new ≡ record old { opened = with_side unit (Input (rest_of records)) old.opened })

-- the record was written at the end
abbrev pub IsWritten : ℕ → List ℕ → UnitsView → UnitsView → Type 0
IsWritten unit bytes old new =
    (before : List ℕ) × (side_at unit old.opened ≡ Some (Output before)) × (new ≡ record old { opened = with_side unit (Output (before ++ bytes ++ 10 ∷ [])) old.opened; printed = old.printed ++ record { unit = unit; bytes = bytes } ∷ [] })

-- a call was refused
abbrev pub refused : UnitFault → ℕ → UnitsView → UnitsView
refused NotOpen unit h = record h { failures = set h.failures unit (one_more (failures_of h unit)) }
refused fault unit h = h

-- the faults of units in memory
abbrev pub IsOfMemUnits : UnitFault → Type 0
IsOfMemUnits fault = (fault ≡ NotOpen) ⊎ (fault ≡ Memory)

-- what was written to a unit that is open for output
abbrev pub written_by : Option Side → List ℕ → Option (List ℕ)
written_by (Some (Output bytes)) written = Some written
written_by _ written = None

abbrev pub written_to : ℕ → UnitsView → Option (List ℕ)
written_to unit h = written_by (side_at unit h.opened) (bytes_on unit (records_printed h.printed))

-- each unit keeps just what was printed to it
pub record IsKept (h : UnitsView) : Type 0 where
  pub long : length h.failures ≡ 256
  pub kept : (unit : ℕ) → output_of (side_at unit h.opened) ≡ bytes_on unit (records_printed h.printed)
