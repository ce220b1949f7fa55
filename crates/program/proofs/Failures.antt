-- Why a word came to nothing, by what it called.
use Rattle.std.proofs.Common.{◌≡◌, ℕ, List, Option, Some, None, Result, Ok, Err, subst, sym}
use Rattle.std.specs.Prelude.{IfErr}
use Rattle.model.specs.declared.format.LoadFault.{LoadFault}
use Rattle.driver.specs.declared.refusal.Refusal.{Refusal}
use Rattle.driver.specs.declared.telling.FinalReport.{FinalReport}
use Rattle.driver.specs.declared.telling.FinalReport.TheVariants as told
use Rattle.program.specs.Words.{IsFailure, IsNotDone, UnlessWriting}

module _ (refused : Refusal → Type 0) (bad : LoadFault → Type 0) where
  -- a file was not read
  pub not_read : (name : List ℕ) (written : Option (List ℕ)) (t : FinalReport) → IsNotDone (Some name) None t → IsFailure refused bad (Some name) written t
  not_read name written (told.Refused r) h = absurd h
  not_read name written (told.BadModule fault) h = absurd h
  not_read name written (told.CannotRead file) h = h
  not_read name written (told.CannotWrite file) h = absurd h
  not_read name written told.NoMemory h = tt
  not_read name written told.BadCommandLine h = absurd h
  not_read name written (told.Ran r) h = absurd h

  -- a file was not written
  pub not_written : (read : Option (List ℕ)) (name : List ℕ) (t : FinalReport) → IsNotDone None (Some name) t → IsFailure refused bad read (Some name) t
  not_written read name (told.Refused r) h = absurd h
  not_written read name (told.BadModule fault) h = absurd h
  not_written read name (told.CannotRead file) h = absurd h
  not_written read name (told.CannotWrite file) h = h
  not_written read name told.NoMemory h = tt
  not_written read name told.BadCommandLine h = absurd h
  not_written read name (told.Ran r) h = absurd h

  pub not_written_as : {T : Type 0} (read : Option (List ℕ)) (name : List ℕ) (r : Result T FinalReport) → IfErr r (IsNotDone None (Some name)) → IfErr r (IsFailure refused bad read (Some name))
  not_written_as read name (Ok x) h = tt
  not_written_as read name (Err t) h = not_written read name t h

  -- memory was refused
  pub no_memory : (read written : Option (List ℕ)) (t : FinalReport) → t ≡ told.NoMemory → IsFailure refused bad read written t
  no_memory read written t e = subst (IsFailure refused bad read written) (sym e) tt

-- nothing was written
pub untouched : (t : FinalReport) (P : Type 0) → P → UnlessWriting t P
untouched (told.Refused r) P h = h
untouched (told.BadModule fault) P h = h
untouched (told.CannotRead file) P h = h
untouched (told.CannotWrite file) P h = tt
untouched told.NoMemory P h = tt
untouched told.BadCommandLine P h = h
untouched (told.Ran r) P h = h

-- a write that failed
writing : (name : List ℕ) (t : FinalReport) (P : Type 0) → IsNotDone None (Some name) t → UnlessWriting t P
writing name (told.Refused r) P h = absurd h
writing name (told.BadModule fault) P h = absurd h
writing name (told.CannotRead file) P h = absurd h
writing name (told.CannotWrite file) P h = tt
writing name told.NoMemory P h = tt
writing name told.BadCommandLine P h = absurd h
writing name (told.Ran r) P h = absurd h

pub writing_all : {T : Type 0} (name : List ℕ) (r : Result T FinalReport) (P : Type 0) → IfErr r (IsNotDone None (Some name)) → IfErr r (λ t. UnlessWriting t P)
writing_all name (Ok x) P h = tt
writing_all name (Err t) P h = writing name t P h
