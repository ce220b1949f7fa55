-- What a matcher is in the definitions.
use Rattle.std.specs.Prelude.{ℕ, List, Bool}
use Rattle.model.specs.Pattern.Patterns.{Event, Asks}
use Rattle.model.specs.Pattern.Steps.{Code, MatchState}

pub record MatchView : Type 0 where
  pub subject : List ℕ
  pub code : Code
  pub state : MatchState
  -- memory was refused
  pub refused : Bool

-- it is a question
abbrev pub IsQuestion : Event ℕ → Type 0
IsQuestion (Asks v) = Unit {0}
IsQuestion _ = ⊥
