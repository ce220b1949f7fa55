-- The exit status of the program, as a function of what it has to report.
use Rattle.std.specs.Prelude.{◌≡◌, ◌⊎◌, ℕ, List, [], ◌∷◌, Option, Some, None}
use Rattle.model.specs.declared.format.FormatRule.{FormatRule}
use Rattle.model.specs.declared.format.FormatRule.TheVariants as rule
use Rattle.model.specs.declared.format.LoadFault.{LoadFault}
use Rattle.model.specs.declared.format.LoadFault.TheVariants as load
use Rattle.model.specs.declared.run.Ending.{Ending}
use Rattle.model.specs.declared.run.Ending.TheVariants as ending
use Rattle.model.specs.declared.run.Status.{Status}
use Rattle.model.specs.declared.run.Status.TheVariants as status
use Rattle.driver.specs.declared.refusal.Refusal.{Refusal}
use Rattle.driver.specs.declared.refusal.Refusal.TheVariants as refusal
use Rattle.driver.specs.declared.telling.FinalReport.{FinalReport}
use Rattle.driver.specs.declared.telling.FinalReport.TheVariants as told
use Rattle.driver.specs.declared.words.Job.{Job}
use Rattle.driver.specs.declared.words.Job.TheVariants as job

-- a run that came to an end
abbrev pub exit_of_ending : Ending → ℕ
exit_of_ending ending.Normal = 0
exit_of_ending (ending.Error code statement) = 1
exit_of_ending (ending.StLimit statement) = 5

-- a run that came to an end, has used its steps up, or was stopped
abbrev pub exit_of_status : Status → ℕ
exit_of_status status.Running = 5
exit_of_status (status.Ended ending) = exit_of_ending ending
exit_of_status (status.Stopped stop) = 6

-- a deck that was refused, or want of memory
abbrev pub exit_of_refusal : Refusal → ℕ
exit_of_refusal (refusal.Card fault) = 3
exit_of_refusal (refusal.Statements faults) = 3
exit_of_refusal refusal.Memory = 6

abbrev pub exit_of_rule : FormatRule → ℕ
exit_of_rule rule.Memory = 6
exit_of_rule other = 4

-- a module that was refused, or want of memory
abbrev pub exit_of_fault : LoadFault → ℕ
exit_of_fault (load.Format fault) = exit_of_rule fault.rule
exit_of_fault (load.Module fault) = 4

abbrev pub exit_of : FinalReport → ℕ
exit_of told.BadCommandLine = 2
exit_of (told.Refused refusal) = exit_of_refusal refusal
exit_of (told.BadModule fault) = exit_of_fault fault
exit_of (told.Ran ran) = exit_of_status ran.status
exit_of (told.CannotRead file) = 6
exit_of (told.CannotWrite file) = 6
exit_of told.NoMemory = 6

-- of what the program has to report, if anything
abbrev pub exit_of_outcome : Option FinalReport → ℕ
exit_of_outcome (Some told) = exit_of told
exit_of_outcome None = 0

-- what is reported of a command line that asks for nothing: it is a bad one, or memory was refused
abbrev pub IsOfBadWords : FinalReport → Type 0
IsOfBadWords told.BadCommandLine = Unit {0}
IsOfBadWords told.NoMemory = Unit {0}
IsOfBadWords _ = ⊥

-- ---- the exit statuses that each word can have

abbrev pub IsOneOf : ℕ → List ℕ → Type 0
IsOneOf n [] = ⊥
IsOneOf n (x ∷ xs) = (n ≡ x) ⊎ IsOneOf n xs

abbrev pub exits_of : Job → List ℕ
exits_of (job.CompileAndRun steps) = 0 ∷ 1 ∷ 3 ∷ 5 ∷ 6 ∷ []
exits_of (job.Compile deck module') = 0 ∷ 3 ∷ 6 ∷ []
exits_of (job.Upgrade old new) = 0 ∷ 4 ∷ 6 ∷ []
exits_of (job.Check module') = 0 ∷ 4 ∷ 6 ∷ []
exits_of (job.Show module') = 0 ∷ 4 ∷ 6 ∷ []
exits_of (job.Run module' steps files) = 0 ∷ 1 ∷ 4 ∷ 5 ∷ 6 ∷ []
exits_of (job.Go deck steps files) = 0 ∷ 1 ∷ 3 ∷ 5 ∷ 6 ∷ []
