-- The laws of the definitions, as statements.
use Rattle.std.specs.Prelude.{◌≡◌, ◌≢◌, ℕ, ◌≤◌, ◌<◌, ◌+◌, List, [], ◌∷◌, ◌⊎◌, ◌++◌, Option}
use Rattle.model.specs.Pattern.Patterns.{Pat, Event, Running, Failed, Asks, Matched, Pending}
use Rattle.model.specs.Pattern.Ends.{Item, End, Deep, ends, Permits, first, IsPlain, IsOfLiterals}
use Rattle.model.specs.Pattern.Search as S
use Rattle.model.specs.Pattern.Search.{Goal, Script, search, scan}
use Rattle.model.specs.Pattern.Steps.{Code, Answers, match_steps, event_of, with_more, IsSupplied, MatchState, pattern_steps, IsSound}
use Rattle.model.specs.Pattern.Stands.{Stands, Alike, AlikeEvent}
use Rattle.model.specs.Deck.Trees.{Expr}

-- xs without its Deep is a prefix of ys, and xs without a Deep is ys
abbrev pub Begins : List Item → List Item → Type 0
Begins xs ys = (xs ≡ ys) ⊎ ((zs : List Item) × (more : List Item) × (xs ≡ zs ++ Deep ∷ []) × (ys ≡ zs ++ more))

-- the ends at a greater bound
abbrev pub EndsGrow : Type 0
EndsGrow = (s : List ℕ) (n m : ℕ) → n ≤ m → (p : Pat) (c : ℕ) → Begins (ends s n p c) (ends s m p c)

-- what a scan returns stays
abbrev pub ScanStays : Type 0
ScanStays = (s : List ℕ) (n m : ℕ) → n ≤ m → (p : Pat) (left b : ℕ) (t : Script) → scan s n p left b t ≢ Running → scan s m p left b t ≡ scan s n p left b t

-- what a search finds stays
abbrev pub SearchStays : Type 0
SearchStays = (s : List ℕ) (n m : ℕ) → n ≤ m → (rest : List Goal) (c : ℕ) (a : Pending) (t : Script) → search s n rest c a t ≢ S.Deep → search s m rest c a t ≡ search s n rest c a t

-- one of the items
abbrev pub IsItem : Item → List Item → Type 0
IsItem i [] = ⊥
IsItem i (x ∷ xs) = (i ≡ x) ⊎ IsItem i xs

-- each end is permitted
abbrev pub EndsPermitted : Type 0
EndsPermitted = (s : List ℕ) (n : ℕ) (p : Pat) (c e : ℕ) (a : Pending) → IsItem (End e a) (ends s n p c) → Permits s p c e a

-- code that stands for a pattern comes to what its scan returns, under answers that are alike
abbrev pub StepsOfScan : Type 0
StepsOfScan = (s : List ℕ) (xs : ℕ → Option Expr) (p : Pat) (code : Code) → Stands xs p code → (n left b : ℕ) (t : Script) (u : Answers) → Alike xs t u → scan s n p left b t ≢ Running → (m : ℕ) × AlikeEvent xs (scan s n p left b t) (event_of (match_steps s code left b u m))

-- and the other way round
abbrev pub ScanOfSteps : Type 0
ScanOfSteps = (s : List ℕ) (xs : ℕ → Option Expr) (p : Pat) (code : Code) → Stands xs p code → (m left b : ℕ) (t : Script) (u : Answers) → Alike xs t u → event_of (match_steps s code left b u m) ≢ Running → (n : ℕ) × AlikeEvent xs (scan s n p left b t) (event_of (match_steps s code left b u m))

-- the first end of a plain pattern is what some scan with no answers gives
abbrev pub ScanOfFirst : Type 0
ScanOfFirst = (s : List ℕ) (n : ℕ) (p : Pat) → IsPlain p → (left b : ℕ) → first s n p left b ≢ Running → (m : ℕ) × (scan s m p left b [] ≡ first s n p left b)

-- and the other way round
abbrev pub FirstOfScan : Type 0
FirstOfScan = (s : List ℕ) (m : ℕ) (p : Pat) → IsPlain p → (left b : ℕ) → scan s m p left b [] ≢ Running → (n : ℕ) × (first s n p left b ≡ scan s m p left b [])

-- further answers change nothing before the first question that has none
abbrev pub AnswersComeLater : Type 0
AnswersComeLater = (s : List ℕ) (code : Code) (left b : ℕ) (u v : Answers) (m : ℕ) → ((k : ℕ) → k < m → IsSupplied (match_steps s code left b u k)) → match_steps s code left b (u ++ v) m ≡ with_more v (match_steps s code left b u m)

-- each step keeps cursors and starts within the subject
abbrev pub StepsAreSound : Type 0
StepsAreSound = (s : List ℕ) (code : Code) (m : ℕ) (st : MatchState) → IsSound s st → IsSound s (pattern_steps s code m st)

-- ---- patterns of literals, `|` and blank

-- one of the starts b, b + 1, .. of which left more are to come
abbrev pub IsStart : (left b : ℕ) → ℕ → Type 0
IsStart left b d = (b ≤ d) × (d ≤ b + left)

-- p permits an end from one of them
abbrev pub PermitsSome : List ℕ → Pat → (left b : ℕ) → Type 0
PermitsSome s p left b = (d : ℕ) × (e : ℕ) × (a : Pending) × IsStart left b d × Permits s p d e a

-- a match is permitted, and a failure comes only where none is; nothing is asked
abbrev pub TellsRight : {E : Type 0} → List ℕ → Pat → (left b : ℕ) → Event E → Type 0
TellsRight s p left b Running = Unit {0}
TellsRight s p left b Failed = PermitsSome s p left b → ⊥
TellsRight s p left b (Asks v) = ⊥
TellsRight s p left b (Matched d e a) = IsStart left b d × Permits s p d e a

-- some scan isn't deep
abbrev pub LiteralsScanned : Type 0
LiteralsScanned = (s : List ℕ) (p : Pat) → IsOfLiterals p → (left b : ℕ) → (n : ℕ) × (scan s n p left b [] ≢ Running)

-- what a scan returns is right
abbrev pub LiteralScansRight : Type 0
LiteralScansRight = (s : List ℕ) (p : Pat) → IsOfLiterals p → (n left b : ℕ) → TellsRight s p left b (scan s n p left b [])

-- code that stands for the pattern reaches a result
abbrev pub LiteralsRun : Type 0
LiteralsRun = (s : List ℕ) (xs : ℕ → Option Expr) (p : Pat) (code : Code) → IsOfLiterals p → Stands xs p code → (left b : ℕ) → (m : ℕ) × (event_of (match_steps s code left b [] m) ≢ Running)

-- and its result is right
abbrev pub LiteralRunsRight : Type 0
LiteralRunsRight = (s : List ℕ) (xs : ℕ → Option Expr) (p : Pat) (code : Code) → IsOfLiterals p → Stands xs p code → (m left b : ℕ) → TellsRight s p left b (event_of (match_steps s code left b [] m))
