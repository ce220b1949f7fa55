-- What a run of a deck writes, in bytes: to standard output and to each file.
use Rattle.std.specs.Prelude.{◌≡◌, ℕ, List, [], ◌++◌, Bool, Option, Some, Result, Ok, Err, IsTrue, OnOk}
use Rattle.model.specs.declared.run.Status.{Status}
use Rattle.model.specs.Deck.Faults.{verdict, Accepted}
use Rattle.model.specs.Deck.Trees.{Stmt}
use Rattle.model.specs.Language.Io.{Io}
use Rattle.model.specs.Language.Units.{HasGrown, bytes_on}
use Rattle.model.specs.Laws.Agreement.{Inputs, Records, Behaviour}
use Rattle.statement_machine.specs.Stopped.{IfRan, ending_of, stop_of_run}
use Rattle.unit_io.specs.Counts.{SameBut, failures_at}
use Rattle.unit_io.specs.Files.{FilesView, back_on, io_of, told_of, written_on}
use Rattle.unit_io.specs.Service.{KeepsCounts}
use Rattle.driver.specs.Finished.{IsFinished}
use Rattle.driver.specs.Whole.{HasPrinted, HasReached, IsMeant}

-- each unit that never failed has the bytes of these records, and one that failed has maybe a part of one more behind them
pub record HasBytes {S : Type 0} (after : FilesView S) (records : Records) : Type 0 where
  pub exact : (unit : ℕ) → failures_at after.counts unit ≡ 0 → written_on unit after.given after.output ≡ Some (bytes_on unit records)
  pub begun : (unit : ℕ) → (more : List ℕ) × (written_on unit after.given after.output ≡ Some (bytes_on unit records ++ more))

-- on a system that exposes the bytes, P holds of the records that the bytes left on each unit had at first, of how the run
-- ended, if it has, and of some records; what the units have are the bytes of the records written before, and of these
abbrev pub OfBytes : {S : Type 0} → (exposes : S → Bool) → Status → (before after : FilesView S) → (Inputs → Behaviour → Type 0) → Type 0
OfBytes exposes status before after P = IsTrue (exposes before.system) → (new : Records) × HasBytes after (before.records ++ new) × P (io_of before).left (record { ending = ending_of status; printed = new })

-- the theorem, in bytes: see RefinesMeaning
pub record WritesMeaning {S : Type 0} (exposes : S → Bool) (deck : List ℕ) (bound : ℕ) (status : Status) (before after : FilesView S) : Type 0 where
  pub statements : List Stmt
  pub accepted : verdict deck ≡ Accepted statements
  pub sound : OfBytes exposes status before after (IsMeant statements)
  pub reaches : IfRan status (OfBytes exposes status before after (HasReached bound statements))
  pub prints : IfRan status (OfBytes exposes status before after (HasPrinted bound statements))

-- ---- the run itself, and then the write of what its units kept back

-- of such a write: no unit failed, or this one failed once more and no other
abbrev pub HasCounted : Result (Unit {0}) ℕ → (before after : List ℕ) → Type 0
HasCounted (Ok done) before after = after ≡ before
HasCounted (Err unit) before after = HasGrown (failures_at before unit) (failures_at after unit) × SameBut unit (failures_at before) (failures_at after)

-- what the units kept back was written, all of it or up to a unit that could not be written; the records that they expose stay
pub record IsWrittenOut {S : Type 0} (exposes : S → Bool) (written : Result (Unit {0}) ℕ) (before after : FilesView S) : Type 0 where
  pub told : told_of exposes after ≡ told_of exposes before
  pub all : OnOk written ((unit : ℕ) → back_on unit after.given after.back ≡ [])
  pub counts : HasCounted written before.counts after.counts

-- a run came out as `ran`, of which P holds, and no unit failed in it but one that stopped it. Then what the units kept back
-- was written, and if a unit could not be written, that stops a run that nothing had stopped
pub record IsRunOnFiles {S : Type 0} (exposes : S → Bool) (P : Status → (before after : Option Io) → Type 0) (status : Status) (before after : FilesView S) : Type 0 where
  pub ran : Status
  pub between : FilesView S
  pub run : P ran (told_of exposes before) (told_of exposes between)
  pub counts : KeepsCounts (stop_of_run ran) (failures_at before.counts) (failures_at between.counts)
  pub written : Result (Unit {0}) ℕ
  pub written_out : IsWrittenOut exposes written between after
  pub finished : IsFinished ran written status
