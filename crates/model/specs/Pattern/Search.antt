-- The ordered search of a pattern, under the answers given so far.
use Rattle.std.specs.Prelude.{ℕ, zero, suc, ◌+◌, List, [], ◌∷◌, ◌++◌}
use Rattle.model.specs.Pattern.Patterns.{Basic, Lit, Pat, Plain, Succeed, Abort, Fence, Cat, Alt, Arbno, FenceOf, Cond, Imm, At, Defer, DeferBasic, Kind, Pending, Answer, IsPattern, IsSaid, Ask, AskFor, SayThat, Text, Number, WantPattern, Event, Running, Failed, Asks, Matched, want_of_kind, with_answer}
use Rattle.model.specs.Pattern.BasicEnds.{ends_at}
use Rattle.model.specs.Pattern.Ends.{between}
use Rattle.model.specs.Deck.Target.{Name}
use Rattle.model.specs.Deck.Trees.{Expr}

-- what a search finds: an end, or nothing (both with the answers that are left), a stop, what it waits for
-- (a V), or that it is deeper than its bound
pub data Found (V P : Type 0) : Type 0 where
  Hit : ℕ → Pending → List (Answer P) → Found V P
  Miss : List (Answer P) → Found V P
  Stop Deep : Found V P
  Wait : V → Found V P

-- goes on where nothing was found, with the answers that are left
abbrev pub on_miss : {V P : Type 0} → Found V P → (List (Answer P) → Found V P) → Found V P
on_miss (Miss t) k = k t
on_miss other k = other

-- goes on from an end that was found
abbrev pub on_hit : {V P : Type 0} → Found V P → (ℕ → Pending → List (Answer P) → Found V P) → Found V P
on_hit (Hit e a t) k = k e a t
on_hit other k = other

-- each end in turn
abbrev pub try_each : {V P : Type 0} → (ℕ → List (Answer P) → Found V P) → List ℕ → List (Answer P) → Found V P
try_each k [] t = Miss t
try_each k (e ∷ es) t = on_miss (k e t) (λ u. try_each k es u)

-- what is still to match: a pattern, or the end of one that began at a place
pub data Goal : Type 0 where
  Part : Pat → Goal
  Closing Saying : Name → ℕ → Goal

abbrev pub Found' : Type 0
Found' = Found (Ask Expr) Pat

abbrev pub Script : Type 0
Script = List (Answer Pat)

abbrev pub SearchOn : Type 0
SearchOn = List Goal → ℕ → Pending → Script → Found'

-- a value is assigned: the next answer says so
abbrev pub told_that : Ask Expr → (Script → Found') → Script → Found'
told_that v k [] = Wait v
told_that v k (IsSaid ∷ t) = k t
told_that v k (_ ∷ t) = Miss t

-- an expression gives a pattern
abbrev pub given_pattern : Expr → (Pat → Script → Found') → Script → Found'
given_pattern x k [] = Wait (AskFor x WantPattern)
given_pattern x k (IsPattern p ∷ t) = k p t
given_pattern x k (_ ∷ t) = Miss t

-- an expression gives the argument of a kind
abbrev pub given_argument : Kind → Expr → (Basic → Script → Found') → Script → Found'
given_argument j x k [] = Wait (AskFor x (want_of_kind j))
given_argument j x k (y ∷ t) = k (with_answer j y) t

-- one rule: on the subject s, with f for the parts
abbrev pub search_rule : List ℕ → SearchOn → Goal → List Goal → ℕ → Pending → Script → Found'
search_rule s f (Part (Plain k)) rest c a t = try_each (λ e u. f rest e a u) (ends_at s k c) t
search_rule s f (Part Succeed) rest c a t = on_miss (f rest c a t) (λ u. f (Part Succeed ∷ rest) c a u)
search_rule s f (Part Abort) rest c a t = Stop
search_rule s f (Part Fence) rest c a t = on_miss (f rest c a t) (λ u. Stop)
search_rule s f (Part (Cat p q)) rest c a t = f (Part p ∷ Part q ∷ rest) c a t
search_rule s f (Part (Alt p q)) rest c a t = on_miss (f (Part p ∷ rest) c a t) (λ u. f (Part q ∷ rest) c a u)
search_rule s f (Part (Arbno p)) rest c a t = f (Part (Alt (Plain (Lit [])) (Cat p (Arbno p))) ∷ rest) c a t
search_rule s f (Part (FenceOf p)) rest c a t = on_hit (f (Part p ∷ []) c a t) (λ e b u. f rest e b u)
search_rule s f (Part (Cond p x)) rest c a t = f (Part p ∷ Closing x c ∷ rest) c a t
search_rule s f (Part (Imm p x)) rest c a t = f (Part p ∷ Saying x c ∷ rest) c a t
search_rule s f (Part (At x)) rest c a t = told_that (SayThat x (Number c)) (λ u. f rest c a u) t
search_rule s f (Part (Defer x)) rest c a t = given_pattern x (λ p u. f (Part p ∷ rest) c a u) t
search_rule s f (Part (DeferBasic k x)) rest c a t = given_argument k x (λ b u. f (Part (Plain b) ∷ rest) c a u) t
search_rule s f (Closing x b) rest c a t = f rest c (a ++ (x, between s b c) ∷ []) t
search_rule s f (Saying x b) rest c a t = told_that (SayThat x (Text (between s b c))) (λ u. f rest c a u) t

-- one level of a search: its end, or a rule
abbrev pub level : List ℕ → SearchOn → SearchOn
level s f [] c a t = Hit c a t
level s f (g ∷ rest) c a t = search_rule s f g rest c a t

abbrev pub search : List ℕ → ℕ → SearchOn
search s zero rest c a t = Deep
search s (suc n) rest c a t = level s (search s n) rest c a t

-- what a start at b gives; later goes on where it found nothing
abbrev pub started : {E P : Type 0} → ℕ → Found (Ask E) P → (List (Answer P) → Event E) → Event E
started b (Hit e a t) later = Matched b e a
started b (Miss t) later = later t
started b Stop later = Failed
started b Deep later = Running
started b (Wait v) later = Asks v

-- over the starts b, b + 1, .. of which left more are to come
abbrev pub over_starts : {E P : Type 0} → (ℕ → List (Answer P) → Found (Ask E) P) → ℕ → ℕ → List (Answer P) → Event E
over_starts f zero b t = started b (f b t) (λ u. Failed)
over_starts f (suc left) b t = started b (f b t) (λ u. over_starts f left (b + 1) u)

-- a match of p from the starts b, b + 1, .. of which left more are to come
abbrev pub scan : List ℕ → ℕ → Pat → ℕ → ℕ → Script → Event Expr
scan s n p left b t = over_starts (λ c u. search s n (Part p ∷ []) c [] u) left b t
