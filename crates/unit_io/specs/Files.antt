-- What units on standard streams and files hold, as bytes and as records.
use Rattle.std.specs.Prelude.{◌≡◌, ℕ, List, [], ◌++◌, Option, Some, None, Bool, true, false, IsTrue, get_or, nat_eq, if◌then◌else◌}
use Rattle.model.specs.Language.Io.{Io}
use Rattle.model.specs.Language.Units.{bytes_on, records_of}
use Rattle.model.specs.Laws.Agreement.{Records}
use Rattle.unit_io.specs.Counts.{failures_at}
use Rattle.unit_io.specs.Views.{FileView}

-- ---- all units

pub record FilesView (S : Type 0) : Type 0 where
  pub system : S
  -- the bytes that are left on standard input, and of those the first, which were read from the system's stream already
  pub input : Option (List ℕ)
  pub held : List ℕ
  -- those that were written to standard output, the ones that are kept back last, and these alone
  pub output : Option (List ℕ)
  pub back : List ℕ
  -- whether the system refused those
  pub refused : Bool
  -- by number of unit
  pub given : List (Option FileView)
  pub counts : List ℕ
  pub records : Records

abbrev pub file_on : ℕ → List (Option FileView) → Option FileView
file_on unit given = get_or given unit None

abbrev pub left_of : Option FileView → (otherwise : Option (List ℕ)) → Option (List ℕ)
left_of (Some f) otherwise = f.left
left_of None otherwise = otherwise

abbrev pub written_of : Option FileView → (otherwise : Option (List ℕ)) → Option (List ℕ)
written_of (Some f) otherwise = f.written
written_of None otherwise = otherwise

abbrev pub back_of : Option FileView → (otherwise : List ℕ) → List ℕ
back_of (Some f) otherwise = f.back
back_of None otherwise = otherwise

-- standard input and output are units for which no file is given; other such units hold nothing
abbrev pub standard : {A : Type 0} → (number : ℕ) → A → A → (unit : ℕ) → A
standard number stream none unit = if nat_eq number unit then stream else none

-- the bytes that are left on a unit
abbrev pub left_on : ℕ → List (Option FileView) → (input : Option (List ℕ)) → Option (List ℕ)
left_on unit given input = left_of (file_on unit given) (standard 5 input (Some []) unit)

-- the bytes that were written to a unit, those that are kept back last
abbrev pub written_on : ℕ → List (Option FileView) → (output : Option (List ℕ)) → Option (List ℕ)
written_on unit given output = written_of (file_on unit given) (standard 6 output (Some []) unit)

-- those that are kept back
abbrev pub back_on : ℕ → List (Option FileView) → (back : List ℕ) → List ℕ
back_on unit given back = back_of (file_on unit given) (standard 6 back [] unit)

-- ---- what they expose

abbrev pub known : Option (List ℕ) → List ℕ
known (Some bytes) = bytes
known None = []

abbrev pub IsKnown : Option (List ℕ) → Type 0
IsKnown (Some bytes) = Unit {0}
IsKnown None = ⊥

-- on each unit the records of the bytes that are left, and the records that were written
abbrev pub io_of : {S : Type 0} → FilesView S → Io
io_of v = record { left = λ unit. records_of (known (left_on unit v.given v.input)); printed = v.records }

abbrev pub told_if : Bool → Io → Option Io
told_if true io = Some io
told_if false io = None

abbrev pub told_of : {S : Type 0} → (exposes : S → Bool) → FilesView S → Option Io
told_of exposes v = told_if (exposes v.system) (io_of v)

-- where a system exposes the bytes: what is left is known, and those that were written to each unit are those of its records;
-- after a failure of the unit there may be a part of one more behind them
pub record IsKept {S : Type 0} (exposes : S → Bool) (v : FilesView S) : Type 0 where
  pub known : IsTrue (exposes v.system) → (unit : ℕ) → IsKnown (left_on unit v.given v.input)
  pub exact : IsTrue (exposes v.system) → (unit : ℕ) → failures_at v.counts unit ≡ 0 → written_on unit v.given v.output ≡ Some (bytes_on unit v.records)
  pub begun : IsTrue (exposes v.system) → (unit : ℕ) → (more : List ℕ) × (written_on unit v.given v.output ≡ Some (bytes_on unit v.records ++ more))
