-- What the page is handed of a run.
use Rattle.std.specs.Prelude.{◌≡◌, ℕ, List, [], Some, length, nat_eq, take, if◌then◌else◌}
use Rattle.model.specs.declared.run.Ending.TheVariants.{Normal}
use Rattle.model.specs.declared.run.Status.{Status}
use Rattle.model.specs.Deck.Faults.{verdict, Accepted}
use Rattle.model.specs.Deck.Trees.{Stmt}
use Rattle.model.specs.Language.Units.{bytes_on, records_of}
use Rattle.model.specs.Laws.Agreement.{Inputs, Records}
use Rattle.driver.specs.Whole.{IsMeant}
use Rattle.statement_machine.specs.Stopped.{ending_of}

-- what a run on the page can read: on unit 5 the lines of what was typed, on no other unit anything
abbrev pub inputs_of : (input : List ℕ) → Inputs
inputs_of input unit = if nat_eq unit 5 then records_of input else []

-- these bytes are what a run of the deck printed on unit 6: if it ended, its statements mean, on the lines of what was typed,
-- that ending and just these records; else the records are a prefix of what they mean
abbrev pub IsShown : (deck input : List ℕ) → Status → (bytes : List ℕ) → Type 0
IsShown deck input status bytes =
    (ss : List Stmt) → verdict deck ≡ Accepted ss → (new : Records) × (bytes ≡ bytes_on 6 new) × IsMeant ss (inputs_of input) (record { ending = ending_of status; printed = new })

-- the page got as many bytes as fit of a run's, and was told how many they are; where it was told 0, the run ended normally
pub record IsPage (deck input : List ℕ) (status count : ℕ) (before after : List ℕ) : Type 0 where
  pub bytes : List ℕ
  pub came_to : Status
  pub whole : count ≡ length bytes
  pub front : take (length bytes) after ≡ take (length before) bytes
  pub shown : IsShown deck input came_to bytes
  pub normal : status ≡ 0 → ending_of came_to ≡ Some Normal
