-- What the states of a match promise of its result.
use Rattle.std.specs.Prelude.{◌≡◌, ◌≢◌, ℕ, ◌+◌, ◌<◌, List, [], ◌++◌, Option}
use Rattle.model.specs.Pattern.Patterns.{Pat, Running}
use Rattle.model.specs.Pattern.Ends.{first, IsPlain, IsOfLiterals}
use Rattle.model.specs.Pattern.Search.{Script, scan}
use Rattle.model.specs.Pattern.Steps.{Code, Answers, MatchState, pattern_steps, event_of, match_steps, with_more}
use Rattle.model.specs.Pattern.Stands.{Stands, Alike, AlikeEvent}
use Rattle.model.specs.Laws.Patterns.{TellsRight}
use Rattle.model.specs.Deck.Trees.{Expr}

-- the state of a match after m steps under these answers, of which none came to an event before
abbrev pub IsAfter : List ℕ → Code → (left b : ℕ) → Answers → ℕ → MatchState → Type 0
IsAfter s code left b u m st =
    (st ≡ match_steps s code left b u m) × ((k : ℕ) → k < m → event_of (match_steps s code left b u k) ≡ Running)

-- code that stands for p, and answers that are alike
abbrev pub IsMatchOf : (ℕ → Option Expr) → List ℕ → Pat → Code → (left b : ℕ) → Script → Answers → ℕ → MatchState → Type 0
IsMatchOf xs s p code left b t u m st = Stands xs p code × Alike xs t u × IsAfter s code left b u m st

-- the event is that of the scan with this script, at some bound
abbrev pub AnswersAsScan : List ℕ → Code → (old new : MatchState) → Type 0
AnswersAsScan s code old new = (xs : ℕ → Option Expr) (p : Pat) (left b m : ℕ) (t : Script) (u : Answers) → IsMatchOf xs s p code left b t u m old → event_of new ≢ Running → (n : ℕ) × AlikeEvent xs (scan s n p left b t) (event_of new)

-- what the scan with this script returns at some bound, some number of steps comes to
abbrev pub ComesToScan : List ℕ → Code → MatchState → Type 0
ComesToScan s code st = (xs : ℕ → Option Expr) (p : Pat) (left b m : ℕ) (t : Script) (u : Answers) → IsMatchOf xs s p code left b t u m st → (n : ℕ) → scan s n p left b t ≢ Running → (k : ℕ) × AlikeEvent xs (scan s n p left b t) (event_of (pattern_steps s code k st))

-- of a plain pattern, the result is the first end in pattern order with its assignments
abbrev pub AnswersFirstEnd : List ℕ → Code → (old new : MatchState) → Type 0
AnswersFirstEnd s code old new = (xs : ℕ → Option Expr) (p : Pat) (left b m : ℕ) → IsPlain p → IsMatchOf xs s p code left b [] [] m old → event_of new ≢ Running → (n : ℕ) × AlikeEvent xs (first s n p left b) (event_of new)

-- and each first end is come to
abbrev pub ComesToFirstEnd : List ℕ → Code → MatchState → Type 0
ComesToFirstEnd s code st = (xs : ℕ → Option Expr) (p : Pat) (left b m : ℕ) → IsPlain p → IsMatchOf xs s p code left b [] [] m st → (n : ℕ) → first s n p left b ≢ Running → (k : ℕ) × AlikeEvent xs (first s n p left b) (event_of (pattern_steps s code k st))

-- of a pattern of literals, `|` and blank, a match is permitted, and a failure comes only where no end is
abbrev pub AnswersLiterals : List ℕ → Code → (old new : MatchState) → Type 0
AnswersLiterals s code old new = (xs : ℕ → Option Expr) (p : Pat) (left b m : ℕ) → IsOfLiterals p → IsMatchOf xs s p code left b [] [] m old → TellsRight s p left b (event_of new)

-- and some number of steps comes to a result
abbrev pub ComesToAnswer : List ℕ → Code → MatchState → Type 0
ComesToAnswer s code st = (xs : ℕ → Option Expr) (p : Pat) (left b m : ℕ) → IsOfLiterals p → IsMatchOf xs s p code left b [] [] m st → (k : ℕ) × (event_of (pattern_steps s code k st) ≢ Running)

-- all three
pub record Comes (s : List ℕ) (code : Code) (st : MatchState) : Type 0 where
  pub to_scan : ComesToScan s code st
  pub to_first_end : ComesToFirstEnd s code st
  pub to_answer : ComesToAnswer s code st

-- ---- the laws: at each state of a match, for so many steps more
abbrev pub StatesAnswerAsScan : Type 0
StatesAnswerAsScan = (s : List ℕ) (code : Code) (st : MatchState) (n : ℕ) → AnswersAsScan s code st (pattern_steps s code n st)

abbrev pub StatesAnswerFirstEnd : Type 0
StatesAnswerFirstEnd = (s : List ℕ) (code : Code) (st : MatchState) (n : ℕ) → AnswersFirstEnd s code st (pattern_steps s code n st)

abbrev pub StatesAnswerLiterals : Type 0
StatesAnswerLiterals = (s : List ℕ) (code : Code) (st : MatchState) (n : ℕ) → AnswersLiterals s code st (pattern_steps s code n st)

abbrev pub StatesCome : Type 0
StatesCome = (s : List ℕ) (code : Code) (st : MatchState) → Comes s code st

-- steps without an event on the way lead on
abbrev pub StepsLeadOn : Type 0
StepsLeadOn = (s : List ℕ) (code : Code) (left b : ℕ) (u : Answers) (m n : ℕ) (st : MatchState) → IsAfter s code left b u m st → ((k : ℕ) → k < n → event_of (pattern_steps s code k st) ≡ Running) → IsAfter s code left b u (m + n) (pattern_steps s code n st)

-- and so do further answers
abbrev pub AnswersLeadOn : Type 0
AnswersLeadOn = (s : List ℕ) (code : Code) (left b : ℕ) (u v : Answers) (m : ℕ) (st : MatchState) → IsAfter s code left b u m st → IsAfter s code left b (u ++ v) m (with_more v st)
