-- What each word of the program does: which file it reads and writes, and what it reports.
use Rattle.std.specs.Prelude.{◌≡◌, ◌⊎◌, ℕ, List, [], Bool, Option, Some, None, Result, Ok, Err, codes}
use Rattle.std.specs.Io.KnownBytes.{Appends}
use Rattle.model.specs.declared.format.LoadFault.{LoadFault}
use Rattle.model.specs.declared.format.Version.TheVariants as versions
use Rattle.model.specs.declared.image.Image.{Image}
use Rattle.model.specs.Module.Loading.{LoadsIn}
use Rattle.model.specs.Module.Reading.{read_image}
use Rattle.loader.specs.Answers.{IsAnswer, no_memory}
use Rattle.loader.specs.Loaded.{IsLoaded}
use Rattle.driver.specs.Compiled.{IsModuleOf, IsRefusalOf}
use Rattle.driver.specs.Exits.{IsOfBadWords, IsOneOf, exit_of, exit_of_outcome, exits_of}
use Rattle.driver.specs.Lines.{lines_of}
use Rattle.driver.specs.Upgraded.{IsUpgradeOf}
use Rattle.driver.specs.declared.refusal.Refusal.{Refusal}
use Rattle.driver.specs.declared.running.Ran.{Ran}
use Rattle.driver.specs.declared.telling.FinalReport.{FinalReport}
use Rattle.driver.specs.declared.telling.FinalReport.TheVariants as told
use Rattle.driver.specs.declared.words.Job.{Job}
use Rattle.driver.specs.declared.words.Job.TheVariants as job
use Rattle.program.specs.Runs.{HasRunDeck, HasRunModule}

-- ---- of the bytes that were read

-- P holds of some bytes of which this does
abbrev pub OfBytesIn : (holds : List ℕ → Type 0) → (List ℕ → Type 0) → Type 0
OfBytesIn holds P = (bytes : List ℕ) × holds bytes × P bytes

-- bytes are a module that the loader accepts
abbrev pub IsTaken : List ℕ → Type 0
IsTaken bytes = (m : Image) × (read_image bytes ≡ Ok m) × IsLoaded m

-- ---- what is reported

abbrev pub told_of_run : Result Ran FinalReport → Option FinalReport
told_of_run (Ok ran) = Some (told.Ran ran)
told_of_run (Err t) = Some t

abbrev pub told_of_work : Result (Unit {0}) FinalReport → Option FinalReport
told_of_work (Ok done) = None
told_of_work (Err t) = Some t

-- what is reported stands on standard error, of which these are the bytes before and after, and this is the exit status; 6 where
-- standard error took no line
abbrev pub IsReported : Option FinalReport → (status : ℕ) → (before after : Option (List ℕ)) → Type 0
IsReported (Some t) status before after = ((status ≡ exit_of t) × Appends before after (lines_of t)) ⊎ (status ≡ 6)
IsReported None status before after = (status ≡ 0) × (after ≡ before)

abbrev pub IsNamed : Option (List ℕ) → List ℕ → Type 0
IsNamed (Some name) file = file ≡ name
IsNamed None file = ⊥

-- of a word that came to nothing: it was refused so, or the file with this name was not read, or that one not written, or
-- memory was refused
abbrev pub IsFailure : (refused : Refusal → Type 0) → (bad : LoadFault → Type 0) → (read written : Option (List ℕ)) → FinalReport → Type 0
IsFailure refused bad read written (told.Refused refusal) = refused refusal
IsFailure refused bad read written (told.BadModule fault) = bad fault
IsFailure refused bad read written (told.CannotRead file) = IsNamed read file.now
IsFailure refused bad read written (told.CannotWrite file) = IsNamed written file.now
IsFailure refused bad read written told.NoMemory = Unit {0}
IsFailure refused bad read written told.BadCommandLine = ⊥
IsFailure refused bad read written (told.Ran ran) = ⊥

abbrev pub IsNotDone : (read written : Option (List ℕ)) → FinalReport → Type 0
IsNotDone read written = IsFailure (λ _. ⊥) (λ _. ⊥) read written

-- the deck that was read is refused by exactly its faults
abbrev pub IsDeckFailure : (holds : List ℕ → Type 0) → (read written : Option (List ℕ)) → FinalReport → Type 0
IsDeckFailure holds read written = IsFailure (λ refusal. OfBytesIn holds (λ deck. IsRefusalOf deck refusal)) (λ _. ⊥) read written

-- the module that was read is refused by its own fault
abbrev pub IsModuleFailure : (holds : List ℕ → Type 0) → (read written : Option (List ℕ)) → FinalReport → Type 0
IsModuleFailure holds read written = IsFailure (λ _. ⊥) (λ fault. OfBytesIn holds (λ bytes. IsAnswer bytes (Err fault))) read written

-- the same by the rules of version 1 of the format
abbrev pub IsOldFailure : (holds : List ℕ → Type 0) → (read written : Option (List ℕ)) → FinalReport → Type 0
IsOldFailure holds read written = IsFailure (λ _. ⊥) (λ fault. OfBytesIn holds (λ bytes. (fault ≡ no_memory) ⊎ LoadsIn versions.One bytes (Err fault))) read written

-- P holds, unless a write failed, or memory was refused
abbrev pub UnlessWriting : FinalReport → Type 0 → Type 0
UnlessWriting (told.CannotWrite file) P = Unit {0}
UnlessWriting told.NoMemory P = Unit {0}
UnlessWriting other P = P

-- of a program that does no word: its words ask for nothing, or a standard stream could not be held
abbrev pub IsOfNoWord : FinalReport → Type 0
IsOfNoWord (told.CannotRead file) = file.now ≡ codes "standard input"
IsOfNoWord (told.CannotWrite file) = (file.now ≡ codes "standard output") ⊎ (file.now ≡ codes "standard error")
IsOfNoWord t = IsOfBadWords t

-- ---- all words

-- of a word that leads to a run: it came out as the record says, or the word came to nothing
abbrev pub OfRun : (has_run : Ran → Type 0) → (failed : FinalReport → Type 0) → Option FinalReport → Type 0
OfRun has_run failed (Some (told.Ran ran)) = has_run ran
OfRun has_run failed (Some t) = failed t
OfRun has_run failed None = ⊥

-- of another word: its work is done and nothing is reported, or the word came to nothing
abbrev pub OfWork : (done : Type 0) → (failed : FinalReport → Type 0) → Option FinalReport → Type 0
OfWork done failed None = done
OfWork done failed (Some t) = failed t

-- files were read and written from one state to the next, and runs opened theirs on some system: what the word was to do is
-- done, or what is reported says why not
module _ {F S : Type 0} (holds : F → List ℕ → List ℕ → Type 0) (input : F → List ℕ → Type 0) (writes : F → F → List ℕ → List ℕ → Type 0) (exposes : S → Bool) (input_bytes : S → List ℕ) (source_bytes : S → List ℕ → List ℕ) where
  -- these bytes were written to the file with this name
  abbrev pub HasWritten : (old new : F) → List ℕ → (List ℕ → Type 0) → Type 0
  HasWritten old new name P = (bytes : List ℕ) × P bytes × writes old new name bytes

  abbrev pub HasDone : Job → (old new : F) → Option FinalReport → Type 0
  HasDone (job.CompileAndRun steps) old new t =
      OfRun (λ ran. OfBytesIn (input old) (λ deck. HasRunDeck exposes input_bytes source_bytes deck steps [] ran))
      (IsDeckFailure (input old) (Some (codes "standard input")) None) t
  HasDone (job.Go deck steps files) old new t =
      OfRun (λ ran. OfBytesIn (holds old deck.now) (λ text. HasRunDeck exposes input_bytes source_bytes text steps files.items ran))
      (IsDeckFailure (holds old deck.now) (Some deck.now) None) t
  HasDone (job.Run module' steps files) old new t =
      OfRun (λ ran. OfBytesIn (holds old module'.now) (λ bytes. HasRunModule exposes input_bytes source_bytes bytes steps files.items ran))
      (IsModuleFailure (holds old module'.now) (Some module'.now) None) t
  HasDone (job.Compile deck module') old new t =
      OfWork (OfBytesIn (holds old deck.now) (λ text. HasWritten old new module'.now (IsModuleOf text)))
      (λ f. IsDeckFailure (holds old deck.now) (Some deck.now) (Some module'.now) f × UnlessWriting f (new ≡ old)) t
  HasDone (job.Upgrade older newer) old new t =
      OfWork (OfBytesIn (holds old older.now) (λ bytes. HasWritten old new newer.now (IsUpgradeOf bytes)))
      (λ f. IsOldFailure (holds old older.now) (Some older.now) (Some newer.now) f × UnlessWriting f (new ≡ old)) t
  HasDone (job.Check module') old new t = OfWork (OfBytesIn (holds old module'.now) IsTaken) (IsModuleFailure (holds old module'.now) (Some module'.now) (Some (codes "standard output"))) t
  HasDone (job.Show module') old new t = OfWork (OfBytesIn (holds old module'.now) IsTaken) (IsModuleFailure (holds old module'.now) (Some module'.now) (Some (codes "standard output"))) t

  -- a word was done so, with an exit status that the word has
  pub record HasPerformed (old new : F) (t : Option FinalReport) : Type 0 where
    pub job : Job
    pub exit : IsOneOf (exit_of_outcome t) (exits_of job)
    pub done : HasDone job old new t

  -- a word was done so; or the words ask for nothing, or a standard stream could not be held, and then no file is touched
  abbrev pub HasAnswered : (old new : F) → Option FinalReport → Type 0
  HasAnswered old new None = HasPerformed old new None
  HasAnswered old new (Some t) = HasPerformed old new (Some t) ⊎ (IsOfNoWord t × (new ≡ old))
