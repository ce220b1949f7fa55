-- The card that is reported beside a run's status.
use Rattle.std.specs.Prelude.{ℕ, ℤ, pos, negsuc, List}
use Rattle.model.specs.declared.run.Ending.TheVariants.{Normal, Error, StLimit}
use Rattle.model.specs.declared.run.Status.{Status}
use Rattle.model.specs.declared.run.Status.TheVariants.{Running, Ended, Stopped}
use Rattle.model.specs.Module.Images.{card_of}

-- the number of a statement, as a keyword has it
abbrev pub number_in : ℤ → ℕ
number_in (pos n) = n
number_in (negsuc n) = 0

-- the number of the statement that a status names; 0 where it names none
abbrev pub statement_told : Status → ℕ
statement_told (Ended (Error e k)) = number_in k
statement_told (Ended (StLimit n)) = n
statement_told (Ended Normal) = 0
statement_told Running = 0
statement_told (Stopped s) = 0

-- the card where it begins, of the cards where statements begin; 0 where none is known
abbrev pub card_told : (cards : List ℕ) → Status → ℕ
card_told cards status = card_of cards (statement_told status)
