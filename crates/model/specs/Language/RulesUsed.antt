-- How many rules a meaning uses: the count that bounds the steps of a run, and those to what it has printed.
use Rattle.std.specs.Prelude.{ℕ, zero, suc, pred, ◌+◌, List, [], ◌∷◌, ◌++◌, Option, None, Some}
use Rattle.std.specs.Prelude.{if◌then◌else◌}
use Rattle.model.specs.Deck.Trees.{Nil, More, Absent, Given, Stmt, Plain as PlainStmt, End}
use Rattle.model.specs.Language.Programs.{Program, program}
use Rattle.model.specs.Pattern.Patterns.{Basic, Lit, Arb, Bal, Pat, Plain, Succeed, Abort, Fence, Cat, Alt, Arbno, FenceOf, Cond, Imm, At, Defer, DeferBasic, Pending, Want, Answer, IsPattern, IsFailed, IsSaid, AskFor, SayThat, with_answer, Running, Failed, Asks, Matched}
use Rattle.model.specs.Pattern.BasicEnds.{ends_at}
use Rattle.model.specs.Pattern.Ends.{between}
use Rattle.model.specs.Pattern.Search.{Hit, Miss, Goal, Part, Closing, Saying, Found', Script, SearchOn, search, scan}
use Rattle.model.specs.Language.Values.{Pattern, pattern_trees}
use Rattle.model.specs.Language.Conversions.{Conv, Got, Bad, Op, Gives, Refuses, Faults, answer_of}
use Rattle.model.specs.Language.Operators.{assign_op, told_value}
use Rattle.model.specs.Language.Meaning.{Val, W, over_limit, Res, Done, Fails, Ends, Open, Query, QVal, QName, QArgs, QBody, QExec, QMatch, Ans, Rule, Ret, Fail, Stop as Stops, Ask, Seek, SearchEvent, rule, run_rule, meaning}
use Rattle.model.specs.Laws.Agreement.{Inputs, first_w}

-- ---- of a search

-- the count of what follows, where nothing was found
abbrev pub if_missed : Found' → (Script → ℕ) → ℕ
if_missed (Miss t) k = k t
if_missed _ k = 0

-- and where an end was found
abbrev pub if_hit : Found' → (ℕ → Pending → Script → ℕ) → ℕ
if_hit (Hit e a t) k = k e a t
if_hit _ k = 0

-- each end of ARB and BAL counts when it is tried
abbrev pub end_counts : Basic → ℕ
end_counts Arb = 1
end_counts Bal = 1
end_counts k = 0

abbrev pub each_count : (ℕ → Script → Found') → (ℕ → Script → ℕ) → List ℕ → Script → ℕ
each_count found count [] t = 0
each_count found count (e ∷ es) t = count e t + if_missed (found e t) (λ u. each_count found count es u)

abbrev pub told_count : (Script → ℕ) → Script → ℕ
told_count k (IsSaid ∷ t) = k t
told_count k _ = 0

abbrev pub given_count : (Pat → Script → ℕ) → Script → ℕ
given_count k (IsPattern p ∷ t) = k p t
given_count k _ = 0

abbrev pub argument_count : (Answer Pat → Script → ℕ) → Script → ℕ
argument_count k [] = 0
argument_count k (y ∷ t) = k y t

abbrev pub NextCount : Type 0
NextCount = List Goal → ℕ → Pending → Script → ℕ

-- of what follows one rule of the search, where the parts find f and count n
abbrev pub rule_count : List ℕ → SearchOn → NextCount → Goal → List Goal → ℕ → Pending → Script → ℕ
rule_count s f n (Part (Plain k)) rest c a t = each_count (λ e u. f rest e a u) (λ e u. end_counts k + n rest e a u) (ends_at s k c) t
rule_count s f n (Part Succeed) rest c a t = n rest c a t + if_missed (f rest c a t) (λ u. n (Part Succeed ∷ rest) c a u)
rule_count s f n (Part Abort) rest c a t = 0
rule_count s f n (Part Fence) rest c a t = n rest c a t
rule_count s f n (Part (Cat p q)) rest c a t = n (Part p ∷ Part q ∷ rest) c a t
rule_count s f n (Part (Alt p q)) rest c a t = n (Part p ∷ rest) c a t + if_missed (f (Part p ∷ rest) c a t) (λ u. n (Part q ∷ rest) c a u)
rule_count s f n (Part (Arbno p)) rest c a t = n (Part (Alt (Plain (Lit [])) (Cat p (Arbno p))) ∷ rest) c a t
rule_count s f n (Part (FenceOf p)) rest c a t = n (Part p ∷ []) c a t + if_hit (f (Part p ∷ []) c a t) (λ e b u. n rest e b u)
rule_count s f n (Part (Cond p x)) rest c a t = n (Part p ∷ Closing x c ∷ rest) c a t
rule_count s f n (Part (Imm p x)) rest c a t = n (Part p ∷ Saying x c ∷ rest) c a t
rule_count s f n (Part (At x)) rest c a t = told_count (λ u. n rest c a u) t
rule_count s f n (Part (Defer x)) rest c a t = given_count (λ p u. n (Part p ∷ rest) c a u) t
rule_count s f n (Part (DeferBasic k x)) rest c a t = argument_count (λ y u. n (Part (Plain (with_answer k y)) ∷ rest) c a u) t
rule_count s f n (Closing x b) rest c a t = n rest c (a ++ (x, between s b c) ∷ []) t
rule_count s f n (Saying x b) rest c a t = told_count (λ u. n rest c a u) t

abbrev pub level_count : List ℕ → SearchOn → NextCount → NextCount
level_count s f n [] c a t = 1
level_count s f n (g ∷ rest) c a t = suc (rule_count s f n g rest c a t)

abbrev pub search_count : List ℕ → ℕ → NextCount
search_count s zero rest c a t = 0
search_count s (suc n) rest c a t = level_count s (search s n) (search_count s n) rest c a t

-- over the starts, each of which counts one
abbrev pub starts_count : (ℕ → Script → Found') → (ℕ → Script → ℕ) → ℕ → ℕ → Script → ℕ
starts_count found count zero b t = suc (count b t)
starts_count found count (suc left) b t = suc (count b t) + if_missed (found b t) (λ u. starts_count found count left (b + 1) u)

abbrev pub scan_count : List ℕ → ℕ → Pat → ℕ → ℕ → Script → ℕ
scan_count s n p left b t = starts_count (λ c u. search s n (Part p ∷ []) c [] u) (λ c u. search_count s n (Part p ∷ []) c [] u) left b t

-- ---- of a meaning

-- what a search comes to with one more answer, at the depth at which it is asked again
abbrev pub WithAnswer : Type 0
WithAnswer = Answer Pattern → SearchEvent

-- a question that is answered counts one, and the match goes on with one more answer. Where it comes to nothing with that
-- answer, since the depth is used up, this question is the last that it has got past, and its search counts under the
-- script that it has there
abbrev pub onward_count : ℕ → SearchEvent → ℕ
onward_count n Running = n
onward_count n _ = 1

-- so it does where the question isn't answered, for the match ends there, and where what is asked is open, for it stands there
abbrev pub answer_count : WithAnswer → ℕ → Conv (Answer Pattern) → ℕ
answer_count f n (Got y) = onward_count n (f y)
answer_count f n (Bad e) = n

abbrev pub evaluated_count : WithAnswer → ℕ → Want → Res Val → ℕ
evaluated_count f n k (Done v w) = answer_count f n (answer_of pattern_trees k v)
evaluated_count f n k (Fails w) = onward_count n (f IsFailed)
evaluated_count f n k (Ends e w) = n
evaluated_count f n k (Open w) = n

abbrev pub said_count : {A : Type 0} → WithAnswer → ℕ → Op W A → ℕ
said_count f n (Gives a w) = onward_count n (f IsSaid)
said_count f n (Refuses w) = n
said_count f n (Faults e w) = n

abbrev pub Meant : Type 0
Meant = (q : Query) → W → Res (Ans q)

-- where the match ends, the search counts under the script that it ends with; where the depth is used up, it counts with the
-- last question that it has got past
abbrev pub match_count : Meant → WithAnswer → SearchEvent → ℕ → W → ℕ
match_count m f Running n w = 0
match_count m f Failed n w = n
match_count m f (Matched b e a) n w = n
match_count m f (Asks (SayThat x v)) n w = said_count f n (assign_op x (told_value v) w)
match_count m f (Asks (AskFor e k)) n w = evaluated_count f n k (m (QVal e) w)

-- a statement that is run counts one: END doesn't, nor one that the limit keeps from being run; a call and its return count
-- nothing beside the statements and nodes in it
abbrev pub stmt_count : Option Stmt → W → ℕ
stmt_count None w = 0
stmt_count (Some (End e)) w = 0
stmt_count (Some (PlainStmt l b g)) w = if over_limit w then 0 else 1

-- each node of a tree counts one, an absent argument too; the depth is n, what is asked has the meaning m
abbrev pub own_count : Program → ℕ → Meant → Query → W → ℕ
own_count prog n m (QVal e) w = 1
own_count prog n m (QName e) w = 1
own_count prog n m (QArgs Nil) w = 0
own_count prog n m (QArgs (More Absent xs)) w = 1
own_count prog n m (QArgs (More (Given e) xs)) w = 0
own_count prog n m (QBody b) w = 0
own_count prog n m (QExec k) w = stmt_count (prog.at k) w
own_count prog n m (QMatch s p left t) w = match_count m (λ y. scan s (pred n) p left 0 (t ++ y ∷ [])) (scan s n p left 0 t) (scan_count s n p left 0 t) w

-- what follows an answer, or a failure
abbrev pub after_count : {A : Type 0} → Res A → (A → W → ℕ) → (W → ℕ) → ℕ
after_count (Done a w) k f = k a w
after_count (Fails w) k f = f w
after_count (Ends e w) k f = 0
after_count (Open w) k f = 0

abbrev pub event_count : Option SearchEvent → (SearchEvent → ℕ) → ℕ
event_count None k = 0
event_count (Some e) k = k e

-- of a rule at the depth n, where what it asks has this meaning and this count
abbrev pub follow_count : {A : Type 0} → ℕ → Meant → (Query → W → ℕ) → Rule A → ℕ
follow_count n m c (Ret a w) = 0
follow_count n m c (Fail w) = 0
follow_count n m c (Stops e w) = 0
follow_count n m c (Ask q w k f) = c q w + after_count (m q w) (λ a w1. follow_count n m c (k a w1)) (λ w1. follow_count n m c (f w1))
follow_count n m c (Seek g w k) = event_count (g n) (λ e. follow_count n m c (k e))

unfoldable pub query_count : Program → ℕ → Query → W → ℕ
query_count prog zero q w = 0
query_count prog (suc n) q w = own_count prog (suc n) (λ r v. meaning prog n r v) q w + follow_count (suc n) (λ r v. meaning prog n r v) (λ r v. query_count prog n r v) (rule prog q w)

-- how many rules the meaning of a deck's statements uses, to the depth n
abbrev pub rules_used : ℕ → List Stmt → Inputs → ℕ
rules_used n deck inputs = follow_count (suc n) (meaning (program deck) n) (query_count (program deck) n) (run_rule (program deck) (first_w inputs))
