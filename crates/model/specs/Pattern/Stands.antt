-- Which code stands for which pattern, with expressions by their numbers.
use Rattle.std.specs.Prelude.{◌≡◌, ℕ, List, [], ◌∷◌, Option, Some}
use Rattle.model.specs.Pattern.Patterns.{Want, Told, Pending, Pat, Plain, Succeed, Abort, Fence, Cat, Alt, Arbno, FenceOf, Cond, Imm, At, Defer, DeferBasic, DoSucceed, DoAbort, DoFence, Answer, IsPattern, IsCount, IsBytes, IsFailed, IsSaid, Ask, AskFor, SayThat, Event, Failed, Asks, Matched}
use Rattle.model.specs.Pattern.Steps.{Code}
use Rattle.model.specs.Pattern.Code.{basic_code, cat_code, alt_code, arbno_code, fence_code, cond_code, imm_code, cursor_code, defer_code, defer_basic_code}
use Rattle.model.specs.Deck.Target.{Name}
use Rattle.model.specs.Deck.Trees.{Expr}

-- code stands for a pattern; the expressions xs by their numbers
abbrev pub Stands : (xs : ℕ → Option Expr) → Pat → Code → Type 0
Stands xs (Plain k) code = code ≡ basic_code k
Stands xs Succeed code = code ≡ DoSucceed ∷ []
Stands xs Abort code = code ≡ DoAbort ∷ []
Stands xs Fence code = code ≡ DoFence ∷ []
Stands xs (Cat p q) code = (cp : Code) × (cq : Code) × Stands xs p cp × Stands xs q cq × (code ≡ cat_code cp cq)
Stands xs (Alt p q) code = (cp : Code) × (cq : Code) × Stands xs p cp × Stands xs q cq × (code ≡ alt_code cp cq)
Stands xs (Arbno p) code = (cp : Code) × Stands xs p cp × (code ≡ arbno_code cp)
Stands xs (FenceOf p) code = (cp : Code) × Stands xs p cp × (code ≡ fence_code cp)
Stands xs (Cond p x) code = (cp : Code) × Stands xs p cp × (code ≡ cond_code cp x)
Stands xs (Imm p x) code = (cp : Code) × Stands xs p cp × (code ≡ imm_code cp x)
Stands xs (At x) code = code ≡ cursor_code x
Stands xs (Defer e) code = (k : ℕ) × (xs k ≡ Some e) × (code ≡ defer_code k)
Stands xs (DeferBasic j e) code = (k : ℕ) × (xs k ≡ Some e) × (code ≡ defer_basic_code j k)

-- two answers are alike, with code for the pattern on the right
pub data AlikeAnswer (xs : ℕ → Option Expr) : Answer Pat → Answer Code → Type 0 where
  patterns : {p : Pat} {code : Code} → Stands xs p code → AlikeAnswer xs (IsPattern p) (IsPattern code)
  counts : {n : ℕ} → AlikeAnswer xs (IsCount n) (IsCount n)
  bytes : {w : List ℕ} → AlikeAnswer xs (IsBytes w) (IsBytes w)
  failed : AlikeAnswer xs IsFailed IsFailed
  said : AlikeAnswer xs IsSaid IsSaid

pub data Alike (xs : ℕ → Option Expr) : List (Answer Pat) → List (Answer Code) → Type 0 where
  none : Alike xs [] []
  more : {y : Answer Pat} {z : Answer Code} {t : List (Answer Pat)} {u : List (Answer Code)} → AlikeAnswer xs y z → Alike xs t u → Alike xs (y ∷ t) (z ∷ u)

-- two questions are alike, with an expression's number on the right
pub data AlikeAsk (xs : ℕ → Option Expr) : Ask Expr → Ask ℕ → Type 0 where
  asked : {e : Expr} {k : ℕ} {v : Want} → xs k ≡ Some e → AlikeAsk xs (AskFor e v) (AskFor k v)
  says : {x : Name} {v : Told} → AlikeAsk xs (SayThat x v) (SayThat x v)

pub data AlikeEvent (xs : ℕ → Option Expr) : Event Expr → Event ℕ → Type 0 where
  fail : AlikeEvent xs Failed Failed
  match : {b e : ℕ} {a : Pending} → AlikeEvent xs (Matched b e a) (Matched b e a)
  ask : {v : Ask Expr} {w : Ask ℕ} → AlikeAsk xs v w → AlikeEvent xs (Asks v) (Asks w)
