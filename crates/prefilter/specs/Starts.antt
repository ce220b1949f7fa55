-- Places from which an instruction fails, and steps that come to no event.
use Rattle.std.specs.Prelude.{◌≡◌, ◌+◌, ◌<◌, ◌≤◌, ℕ, List, [], Some, slice_get}
use Rattle.model.specs.Pattern.Patterns.{Basic, Do, Running}
use Rattle.model.specs.Pattern.BasicEnds.{ends_at}
use Rattle.model.specs.Pattern.Steps.{Code, MatchState, Starting, pattern_steps, event_of}
use Rattle.prefilter.specs.declared.prefilter.Passed.{Passed}

-- the part has no end from any of the n places from b on
abbrev pub FailsFrom : List ℕ → Basic → ℕ → ℕ → Type 0
FailsFrom u i b n = (c : ℕ) → b ≤ c → c < b + n → ends_at u i c ≡ []

-- so has the part at the place q of the code
abbrev pub AreIdle : List ℕ → Code → ℕ → ℕ → ℕ → Type 0
AreIdle u code q b n = (c : ℕ) → b ≤ c → c < b + n → (i : Basic) × (slice_get code q ≡ Some (Do i)) × (ends_at u i c ≡ [])

-- none of the first n steps begins at an event
abbrev pub RunsOn : List ℕ → Code → ℕ → MatchState → Type 0
RunsOn u code n st = (k : ℕ) → k < n → event_of (pattern_steps u code k st) ≡ Running

-- n steps lead from one state to another, and none begins at an event
pub record Leads (u : List ℕ) (code : Code) (n : ℕ) (old new : MatchState) : Type 0 where
  pub steps : pattern_steps u code n old ≡ new
  pub way : RunsOn u code n old

-- starts are passed
pub record ArePassed (u : List ℕ) (code : Code) (b left most : ℕ) (p : Passed) : Type 0 where
  pub starts : p.starts ≤ left
  pub bound : p.steps ≤ most
  pub leads : (rest : ℕ) → left ≡ p.starts + rest → Leads u code p.steps (Starting b left []) (Starting (b + p.starts) rest [])
