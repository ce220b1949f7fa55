-- Going deeper, the rules used stay where something was found, assigned or answered.
use Rattle.std.proofs.Common.{◌≡◌, ℕ, zero, suc, ◌+◌, ◌-◌, ◌≤◌, List, [], ◌∷◌, ◌++◌, Option, Some, None, refl, sym, ap, ◌∙◌, subst, arith}
use Rattle.model.specs.Deck.Trees.{Nil, More, Absent, Given, Expr}
use Rattle.model.specs.Language.Programs.{Program, program}
use Rattle.model.specs.Pattern.Patterns.{Basic, Pat, Plain, Succeed, Abort, Fence, Cat, Alt, Arbno, FenceOf, Cond, Imm, At, Defer, DeferBasic, Kind, Pending, Want, Answer, IsPattern, IsFailed, IsSaid, Ask, AskFor, SayThat, with_answer, Running, Failed, Asks, Matched}
use Rattle.model.specs.Pattern.BasicEnds.{ends_at}
use Rattle.model.specs.Pattern.Search.{Hit, Miss, Stop, Deep, Wait, on_miss, on_hit, try_each, Goal, Part, Closing, Saying, Found', Script, SearchOn, told_that, given_pattern, given_argument, search_rule as search_rule, search, started, scan}
use Rattle.model.specs.Language.Operators.{assign_op, told_value}
use Rattle.model.specs.Language.Conversions.{Conv, Got, Bad, Op, Gives, Refuses, Faults, answer_of}
use Rattle.model.specs.Language.Values.{pattern_trees}
use Rattle.model.specs.Language.Meaning.{Val, W, Res, Done, Fails, Ends, Open, Settled, Query, QVal, QName, QArgs, QBody, QExec, QMatch, Span, Rule, Ret, Fail, Stop as Stops, Ask as Asking, Seek, SearchEvent, told_at, again, answering, doing, match_rule, sought, rule, run_rule, after, follow, meaning}
use Rattle.model.specs.Laws.Agreement.{first_w}
use Rattle.model.specs.Language.RulesUsed.{if_missed, if_hit, end_counts, each_count, told_count, given_count, argument_count, NextCount, rule_count, search_count, scan_count, said_count, evaluated_count, match_count, own_count, WithAnswer, onward_count, answer_count, after_count, event_count, follow_count, query_count, rules_used}
use Rattle.model.specs.Laws.Meaning.{AnswersStay, MatchesStay, CountsStay, RulesStay}
use Rattle.model.proofs.Pattern.SearchGrows.{Grows as Finds, NextGrows, search_grows, EventGrows, scan_grows}
use Rattle.model.proofs.Language.MeaningGrows.{Before, Goes_on, Later, later, Grows, same, open_to, at_depth, zero_and, suc_and, grows, stays, follow_stays}
use Rattle.model.proofs.Language.MeaningPrints.{on}
use Rattle.model.proofs.Language.EndingsStay.{settled_of, run_on}

-- ---- of a search

-- the counts are the same, where x found something
abbrev Kept : Found' → ℕ → ℕ → Type 0
Kept Deep i j = Unit {0}
Kept x i j = j ≡ i

-- with as many rules more
kept_and : (x : Found') (i j p q : ℕ) → j ≡ i → Kept x p q → Kept x (i + p) (j + q)
kept_and Deep i j p q e h = tt
kept_and (Hit d a t) i j p q e h = omega (arith, e, h)
kept_and (Miss t) i j p q e h = omega (arith, e, h)
kept_and Stop i j p q e h = omega (arith, e, h)
kept_and (Wait v) i j p q e h = omega (arith, e, h)

kept_suc : (x : Found') (i j : ℕ) → Kept x i j → Kept x (suc i) (suc j)
kept_suc Deep i j h = tt
kept_suc (Hit e a t) i j h = ap suc h
kept_suc (Miss t) i j h = ap suc h
kept_suc Stop i j h = ap suc h
kept_suc (Wait v) i j h = ap suc h

missed_kept : (x y : Found') (k : Script → Found') (i j : ℕ) (p q : Script → ℕ) → Finds x y → Kept x i j → ((t : Script) → Kept (k t) (p t) (q t)) → Kept (on_miss x k) (i + if_missed x p) (j + if_missed y q)
missed_kept Deep y k i j p q g h l = tt
missed_kept (Hit e a t) y k i j p q g h l = subst (λ z. j + if_missed z q ≡ i + 0) (sym g) (ap (λ n. n + 0) h)
missed_kept (Miss t) y k i j p q g h l = subst (λ z. Kept (k t) (i + p t) (j + if_missed z q)) (sym g) (kept_and (k t) i j (p t) (q t) h (l t))
missed_kept Stop y k i j p q g h l = subst (λ z. j + if_missed z q ≡ i + 0) (sym g) (ap (λ n. n + 0) h)
missed_kept (Wait v) y k i j p q g h l = subst (λ z. j + if_missed z q ≡ i + 0) (sym g) (ap (λ n. n + 0) h)

hit_kept : (x y : Found') (k : ℕ → Pending → Script → Found') (i j : ℕ) (p q : ℕ → Pending → Script → ℕ) → Finds x y → Kept x i j → ((e : ℕ) (a : Pending) (t : Script) → Kept (k e a t) (p e a t) (q e a t)) → Kept (on_hit x k) (i + if_hit x p) (j + if_hit y q)
hit_kept Deep y k i j p q g h l = tt
hit_kept (Hit e a t) y k i j p q g h l = subst (λ z. Kept (k e a t) (i + p e a t) (j + if_hit z q)) (sym g) (kept_and (k e a t) i j (p e a t) (q e a t) h (l e a t))
hit_kept (Miss t) y k i j p q g h l = subst (λ z. j + if_hit z q ≡ i + 0) (sym g) (ap (λ n. n + 0) h)
hit_kept Stop y k i j p q g h l = subst (λ z. j + if_hit z q ≡ i + 0) (sym g) (ap (λ n. n + 0) h)
hit_kept (Wait v) y k i j p q g h l = subst (λ z. j + if_hit z q ≡ i + 0) (sym g) (ap (λ n. n + 0) h)

fence_kept : (x : Found') (i j : ℕ) → Kept x i j → Kept (on_miss x (λ u. Stop)) i j
fence_kept Deep i j h = tt
fence_kept (Hit e a t) i j h = h
fence_kept (Miss t) i j h = h
fence_kept Stop i j h = h
fence_kept (Wait v) i j h = h

told_kept : (v : Ask Expr) (k : Script → Found') (p q : Script → ℕ) → ((t : Script) → Kept (k t) (p t) (q t)) → (t : Script) → Kept (told_that v k t) (told_count p t) (told_count q t)
told_kept v k p q h [] = refl
told_kept v k p q h (IsSaid ∷ t) = h t
told_kept v k p q h (_ ∷ t) = refl

given_kept : (x : Expr) (k : Pat → Script → Found') (p q : Pat → Script → ℕ) → ((r : Pat) (t : Script) → Kept (k r t) (p r t) (q r t)) → (t : Script) → Kept (given_pattern x k t) (given_count p t) (given_count q t)
given_kept x k p q h [] = refl
given_kept x k p q h (IsPattern r ∷ t) = h r t
given_kept x k p q h (_ ∷ t) = refl

argument_kept : (b : Kind) (x : Expr) (k : Basic → Script → Found') (p q : Answer Pat → Script → ℕ) → ((y : Answer Pat) (t : Script) → Kept (k (with_answer b y) t) (p y t) (q y t)) → (t : Script) → Kept (given_argument b x k t) (argument_count p t) (argument_count q t)
argument_kept b x k p q h [] = refl
argument_kept b x k p q h (y ∷ t) = h y t

abbrev NextKept : SearchOn → NextCount → NextCount → Type 0
NextKept f n m = (rest : List Goal) (c : ℕ) (a : Pending) (t : Script) → Kept (f rest c a t) (n rest c a t) (m rest c a t)

module _ (s : List ℕ) (f g : SearchOn) (n m : NextCount) (gr : NextGrows f g) (h : NextKept f n m) where
  each_kept : (b : Basic) (rest : List Goal) (a : Pending) (es : List ℕ) (t : Script) → Kept (try_each (λ e u. f rest e a u) es t) (each_count (λ e u. f rest e a u) (λ e u. end_counts b + n rest e a u) es t) (each_count (λ e u. g rest e a u) (λ e u. end_counts b + m rest e a u) es t)
  each_kept b rest a [] t = refl
  each_kept b rest a (e ∷ es) t =
      missed_kept (f rest e a t) (g rest e a t) _ _ _ _ _ (gr rest e a t) (kept_and (f rest e a t) (end_counts b) (end_counts b) (n rest e a t) (m rest e a t) refl (h rest e a t)) (λ u. each_kept b rest a es u)

  rule_kept : (x : Goal) (rest : List Goal) (c : ℕ) (a : Pending) (t : Script) → Kept (search_rule s f x rest c a t) (rule_count s f n x rest c a t) (rule_count s g m x rest c a t)
  rule_kept (Part (Plain k)) rest c a t = each_kept k rest a (ends_at s k c) t
  rule_kept (Part Succeed) rest c a t = missed_kept (f rest c a t) (g rest c a t) _ _ _ _ _ (gr rest c a t) (h rest c a t) (λ u. h (Part Succeed ∷ rest) c a u)
  rule_kept (Part Abort) rest c a t = refl
  rule_kept (Part Fence) rest c a t = fence_kept (f rest c a t) (n rest c a t) (m rest c a t) (h rest c a t)
  rule_kept (Part (Cat p q)) rest c a t = h (Part p ∷ Part q ∷ rest) c a t
  rule_kept (Part (Alt p q)) rest c a t = missed_kept (f (Part p ∷ rest) c a t) (g (Part p ∷ rest) c a t) _ _ _ _ _ (gr (Part p ∷ rest) c a t) (h (Part p ∷ rest) c a t) (λ u. h (Part q ∷ rest) c a u)
  rule_kept (Part (Arbno p)) rest c a t = h _ c a t
  rule_kept (Part (FenceOf p)) rest c a t = hit_kept (f (Part p ∷ []) c a t) (g (Part p ∷ []) c a t) _ _ _ _ _ (gr (Part p ∷ []) c a t) (h (Part p ∷ []) c a t) (λ e b u. h rest e b u)
  rule_kept (Part (Cond p x)) rest c a t = h (Part p ∷ Closing x c ∷ rest) c a t
  rule_kept (Part (Imm p x)) rest c a t = h (Part p ∷ Saying x c ∷ rest) c a t
  rule_kept (Part (At x)) rest c a t = told_kept _ _ _ _ (λ u. h rest c a u) t
  rule_kept (Part (Defer x)) rest c a t = given_kept x _ _ _ (λ p u. h (Part p ∷ rest) c a u) t
  rule_kept (Part (DeferBasic k x)) rest c a t = argument_kept k x (λ b u. f (Part (Plain b) ∷ rest) c a u) (λ y u. n (Part (Plain (with_answer k y)) ∷ rest) c a u) (λ y u. m (Part (Plain (with_answer k y)) ∷ rest) c a u) (λ y u. h (Part (Plain (with_answer k y)) ∷ rest) c a u) t
  rule_kept (Closing x b) rest c a t = h rest c _ t
  rule_kept (Saying x b) rest c a t = told_kept _ _ _ _ (λ u. h rest c a u) t

search_kept : (s : List ℕ) (n : ℕ) → NextKept (search s n) (search_count s n) (search_count s (suc n))
search_kept s zero rest c a t = tt
search_kept s (suc n) [] c a t = refl
search_kept s (suc n) (x ∷ rest) c a t =
    kept_suc (search s (suc n) (x ∷ rest) c a t) _ _ (rule_kept s (search s n) (search s (suc n)) (search_count s n) (search_count s (suc n)) (search_grows s n) (search_kept s n) x rest c a t)

-- ---- of a scan

-- the same, where the event is an assignment
abbrev EventKept : SearchEvent → ℕ → ℕ → Type 0
EventKept Running i j = Unit {0}
EventKept x i j = j ≡ i

event_and : (x : SearchEvent) (i j p q : ℕ) → j ≡ i → EventKept x p q → EventKept x (i + p) (j + q)
event_and Running i j p q e h = tt
event_and Failed i j p q e h = omega (arith, e, h)
event_and (Asks v) i j p q e h = omega (arith, e, h)
event_and (Matched b c a) i j p q e h = omega (arith, e, h)

started_kept : (b : ℕ) (x y : Found') (k : Script → SearchEvent) (i j : ℕ) (p q : Script → ℕ) → Finds x y → Kept x i j → ((t : Script) → EventKept (k t) (p t) (q t)) → EventKept (started b x k) (suc i + if_missed x p) (suc j + if_missed y q)
started_kept b Deep y k i j p q g h l = tt
started_kept b (Hit e a t) y k i j p q g h l = subst (λ z. suc j + if_missed z q ≡ suc i + 0) (sym g) (ap (λ n. suc n + 0) h)
started_kept b (Miss t) y k i j p q g h l = subst (λ z. EventKept (k t) (suc i + p t) (suc j + if_missed z q)) (sym g) (event_and (k t) (suc i) (suc j) (p t) (q t) (ap suc h) (l t))
started_kept b Stop y k i j p q g h l = subst (λ z. suc j + if_missed z q ≡ suc i + 0) (sym g) (ap (λ n. suc n + 0) h)
started_kept b (Wait v) y k i j p q g h l = subst (λ z. suc j + if_missed z q ≡ suc i + 0) (sym g) (ap (λ n. suc n + 0) h)

last_kept : (b : ℕ) (x : Found') (i j : ℕ) → Kept x i j → EventKept (started b x (λ u. Failed)) (suc i) (suc j)
last_kept b Deep i j h = tt
last_kept b (Hit e a t) i j h = ap suc h
last_kept b (Miss t) i j h = ap suc h
last_kept b Stop i j h = ap suc h
last_kept b (Wait v) i j h = ap suc h

scan_kept : (s : List ℕ) (n : ℕ) (p : Pat) (left b : ℕ) (t : Script) → EventKept (scan s n p left b t) (scan_count s n p left b t) (scan_count s (suc n) p left b t)
scan_kept s n p zero b t = last_kept b (search s n (Part p ∷ []) b [] t) _ _ (search_kept s n (Part p ∷ []) b [] t)
scan_kept s n p (suc left) b t =
    started_kept b (search s n (Part p ∷ []) b [] t) (search s (suc n) (Part p ∷ []) b [] t) _ _ _ _ _ (search_grows s n (Part p ∷ []) b [] t) (search_kept s n (Part p ∷ []) b [] t) (λ u. scan_kept s n p left (b + 1) u)

-- ---- of a meaning

-- the same, where it is settled
abbrev Same : {A : Type 0} → Res A → ℕ → ℕ → Type 0
Same (Open w) i j = Unit {0}
Same r i j = j ≡ i

same_of : {A : Type 0} (r : Res A) {i j : ℕ} → j ≡ i → Same r i j
same_of (Done a w) h = h
same_of (Fails w) h = h
same_of (Ends e w) h = h
same_of (Open w) h = tt

same_and : {A : Type 0} (r : Res A) (i j p q : ℕ) → Same r i j → Same r p q → Same r (i + p) (j + q)
same_and (Done a w) i j p q h l = omega (arith, h, l)
same_and (Fails w) i j p q h l = omega (arith, h, l)
same_and (Ends e w) i j p q h l = omega (arith, h, l)
same_and (Open w) i j p q h l = tt

same_settled : {A : Type 0} (r : Res A) {i j : ℕ} → Settled r → Same r i j → j ≡ i
same_settled (Done a w) s h = h
same_settled (Fails w) s h = h
same_settled (Ends e w) s h = h
same_settled (Open w) s h = absurd s

after_same : {A B : Type 0} (v : W) {r s : Res A} (k : A → W → Res B) (f : W → Res B) (i j : ℕ) (p q : A → W → ℕ) (x y : W → ℕ) → Grows r s → Later v r → Same r i j → ((a : A) (w : W) → Before v w → Same (k a w) (p a w) (q a w)) → ((w : W) → Before v w → Same (f w) (x w) (y w)) → Same (after r k f) (i + after_count r p x) (j + after_count s q y)
after_same v k f i j p q x y (same {r = Done a w}) b h hk hf = same_and (k a w) i j (p a w) (q a w) (same_of (k a w) h) (hk a w b)
after_same v k f i j p q x y (same {r = Fails w}) b h hk hf = same_and (f w) i j (x w) (y w) (same_of (f w) h) (hf w b)
after_same v k f i j p q x y (same {r = Ends e w}) b h hk hf = ap (λ n. n + 0) h
after_same v k f i j p q x y (same {r = Open w}) b h hk hf = tt
after_same v k f i j p q x y (open_to l) b h hk hf = tt

sought_same : {A : Type 0} (v : W) (o o' : Option SearchEvent) (k : SearchEvent → Res A) (p q : SearchEvent → ℕ) → ((e : SearchEvent) → o ≡ Some e → o' ≡ Some e) → ((e : SearchEvent) → Same (k e) (p e) (q e)) → Same (sought o v k) (event_count o p) (event_count o' q)
sought_same v None o' k p q st h = tt
sought_same v (Some e) o' k p q st h = subst (λ o. Same (k e) (p e) (event_count o q)) (sym (st e refl)) (h e)

module _ (prog : Program) where
  abbrev Counted : ℕ → Type 0
  Counted n = (q : Query) (w : W) → Same (meaning prog n q w) (query_count prog n q w) (query_count prog (suc n) q w)

  follow_same : {A : Type 0} (n : ℕ) → Counted n → (v : W) (p : Rule A) → Goes_on v p → Same (follow (suc n) (λ r u. meaning prog n r u) p) (follow_count (suc n) (λ r u. meaning prog n r u) (λ r u. query_count prog n r u) p) (follow_count (suc (suc n)) (λ r u. meaning prog (suc n) r u) (λ r u. query_count prog (suc n) r u) p)
  follow_same n h v (Ret a w) g = refl
  follow_same n h v (Fail w) g = refl
  follow_same n h v (Stops e w) g = refl
  follow_same n h v (Asking q w k f) g =
      after_same w _ _ _ _ _ _ _ _ (grows prog (on prog) n q w) (later prog (on prog) n q w) (h q w) (λ a u b. follow_same n h u (k a u) (g.1 a u b)) (λ u b. follow_same n h u (f u) (g.2 u b))
  follow_same n h v (Seek s w k) g = sought_same w (s (suc n)) (s (suc (suc n))) _ _ _ (λ e x. g.1 (suc n) e x) (λ e. follow_same n h w (k e) (g.2 e))

  -- where the search with one more answer comes to nothing, the match is open
  not_told : (n : ℕ) (s : List ℕ) (p : Pat) (left : ℕ) (t : Script) (w : W) → scan s n p left 0 t ≡ Running → meaning prog n (QMatch s p left t) w ≡ Open w
  unfolding meaning
  not_told zero s p left t w h = refl
  not_told (suc n) s p left t w h = ap (λ x. sought (told_at x) w (λ e. follow (suc n) (λ r u. meaning prog n r u) (match_rule s p left t w e))) h

  module _ (n : ℕ) (s : List ℕ) (p : Pat) (left : ℕ) (t : Script) (i j : ℕ) (e : j ≡ i) where
    N : WithAnswer
    N y = scan s n p left 0 (t ++ y ∷ [])

    M : WithAnswer
    M y = scan s (suc n) p left 0 (t ++ y ∷ [])

    onward_same : {A : Type 0} (r : Res A) (x y : SearchEvent) → EventGrows x y → (x ≡ Running → Same r (onward_count i x) (onward_count j y)) → Same r (onward_count i x) (onward_count j y)
    onward_same r Running y g h = h refl
    onward_same r Failed y g h = same_of r (ap (onward_count j) g)
    onward_same r (Asks v) y g h = same_of r (ap (onward_count j) g)
    onward_same r (Matched b c a) y g h = same_of r (ap (onward_count j) g)

    again_same : (y : Answer Pat) (w : W) → Same (at_depth prog n (again s p left t y w)) (onward_count i (N y)) (onward_count j (M y))
    unfolding N M
    again_same y w =
        onward_same (at_depth prog n (again s p left t y w)) (N y) (M y) (scan_grows s n p left 0 (t ++ y ∷ []))
        (λ h. subst (λ r. Same (after r (λ a u. Done a u) (λ u. Fails u)) (onward_count i (N y)) (onward_count j (M y))) (sym (not_told n s p left (t ++ y ∷ []) w h)) tt)

    answer_same : (c : Conv (Answer Pat)) (w : W) → Same (at_depth prog n (answering s p left t c w)) (answer_count N i c) (answer_count M j c)
    answer_same (Got y) w = again_same y w
    answer_same (Bad x) w = e

    said_same : (o : Op W (record {})) → Same (at_depth prog n (doing o (λ _ w1. again s p left t IsSaid w1))) (said_count N i o) (said_count M j o)
    said_same (Gives a w) = again_same IsSaid w
    said_same (Refuses w) = e
    said_same (Faults x w) = e

    evaluated_same : (k : Want) {r r' : Res Val} → Grows r r'
        → Same (after r (λ v w1. at_depth prog n (answering s p left t (answer_of pattern_trees k v) w1)) (λ w1. at_depth prog n (again s p left t IsFailed w1))) (evaluated_count N i k r) (evaluated_count M j k r')
    evaluated_same k (same {r = Done v w}) = answer_same (answer_of pattern_trees k v) w
    evaluated_same k (same {r = Fails w}) = again_same IsFailed w
    evaluated_same k (same {r = Ends x w}) = e
    evaluated_same k (same {r = Open w}) = tt
    evaluated_same k (open_to l) = tt

  -- a match's own: where it ends the run at a question, what is asked has ended it
  match_same : (n : ℕ) (s : List ℕ) (p : Pat) (left : ℕ) (t : Script) (w : W) (x y : SearchEvent) (i j : ℕ) → EventGrows x y → EventKept x i j
      → Same (sought (told_at x) w (λ e. follow (suc n) (λ r u. meaning prog n r u) (match_rule s p left t w e)))
      (match_count (λ r u. meaning prog n r u) (λ a. scan s n p left 0 (t ++ a ∷ [])) x i w) (match_count (λ r u. meaning prog (suc n) r u) (λ a. scan s (suc n) p left 0 (t ++ a ∷ [])) y j w)
  unfolding N M
  match_same n s p left t w Running y i j g h = tt
  match_same n s p left t w Failed y i j g h = subst (λ z. match_count (λ r u. meaning prog (suc n) r u) (M n s p left t i j h) z j w ≡ i) (sym g) h
  match_same n s p left t w (Matched b e a) y i j g h =
      same_of _ (subst (λ z. match_count (λ r u. meaning prog (suc n) r u) (M n s p left t i j h) z j w ≡ i) (sym g) h)
  match_same n s p left t w (Asks (SayThat x v)) y i j g h =
      let o : Op W (record {}) = assign_op x (told_value v) w in
      subst (λ z. Same (at_depth prog n (doing o (λ _ w1. again s p left t IsSaid w1))) (said_count (N n s p left t i j h) i o) (match_count (λ r u. meaning prog (suc n) r u) (M n s p left t i j h) z j w)) (sym g) (said_same n s p left t i j h o)
  match_same n s p left t w (Asks (AskFor e k)) y i j g h =
      subst (λ z. Same {A = Span} (sought (told_at (Asks (AskFor e k))) w (λ x. follow (suc n) (λ r u. meaning prog n r u) (match_rule s p left t w x))) (evaluated_count (N n s p left t i j h) i k (meaning prog n (QVal e) w)) (match_count (λ r u. meaning prog (suc n) r u) (M n s p left t i j h) z j w)) (sym g)
      (evaluated_same n s p left t i j h k (grows prog (on prog) n (QVal e) w))

  own_same : (n : ℕ) (q : Query) (w : W) → Same (meaning prog (suc n) q w) (own_count prog (suc n) (λ r u. meaning prog n r u) q w) (own_count prog (suc (suc n)) (λ r u. meaning prog (suc n) r u) q w)
  unfolding meaning
  own_same n (QVal e) w = same_of (meaning prog (suc n) (QVal e) w) refl
  own_same n (QName e) w = same_of (meaning prog (suc n) (QName e) w) refl
  own_same n (QArgs Nil) w = refl
  own_same n (QArgs (More Absent xs)) w = same_of (meaning prog (suc n) (QArgs (More Absent xs)) w) refl
  own_same n (QArgs (More (Given e) xs)) w = same_of (meaning prog (suc n) (QArgs (More (Given e) xs)) w) refl
  own_same n (QBody b) w = same_of (meaning prog (suc n) (QBody b) w) refl
  own_same n (QExec k) w = same_of (meaning prog (suc n) (QExec k) w) refl
  own_same n (QMatch s p left t) w =
      match_same n s p left t w (scan s (suc n) p left 0 t) (scan s (suc (suc n)) p left 0 t) _ _ (scan_grows s (suc n) p left 0 t) (scan_kept s (suc n) p left 0 t)

  counted : (n : ℕ) → Counted n
  unfolding meaning query_count
  counted zero q w = tt
  counted (suc n) q w = same_and (meaning prog (suc n) q w) _ _ _ _ (own_same n q w) (follow_same n (counted n) w (rule prog q w) (on prog q w))

  counts_by : (n d : ℕ) (q : Query) (w : W) → Settled (meaning prog n q w) → query_count prog (d + n) q w ≡ query_count prog n q w
  counts_by n zero q w h = ap (λ k. query_count prog k q w) (zero_and n)
  counts_by n (suc d) q w h =
      let s : Settled (meaning prog (d + n) q w) = subst Settled (sym (stays prog (on prog) n d q w h)) h in
      ap (λ k. query_count prog k q w) (suc_and d n) ∙ same_settled (meaning prog (d + n) q w) s (counted (d + n) q w) ∙ counts_by n d q w h

back : (n m : ℕ) → n ≤ m → (m - n) + n ≡ m
back n m le = omega (arith, le)

pub answers_stay : AnswersStay
answers_stay prog n m le q w h = subst (λ k. meaning prog k q w ≡ meaning prog n q w) (back n m le) (stays prog (on prog) n (m - n) q w h)

pub matches_stay : MatchesStay
matches_stay prog n m le s p left t w h = answers_stay prog n m le (QMatch s p left t) w h

pub counts_stay : CountsStay
counts_stay prog n m le q w h = subst (λ k. query_count prog k q w ≡ query_count prog n q w) (back n m le) (counts_by prog n (m - n) q w h)

pub rules_stay : RulesStay
rules_stay deck inputs n m le e h = subst (λ k. rules_used k deck inputs ≡ rules_used n deck inputs) (back n m le) (by (m - n))
  where
    prog : Program
    prog = program deck

    w : W
    w = first_w inputs

    settled : Settled (at_depth prog n (run_rule prog w))
    settled = settled_of (at_depth prog n (run_rule prog w)) e h

    by : (d : ℕ) → rules_used (d + n) deck inputs ≡ rules_used n deck inputs
    by zero = ap (λ k. rules_used k deck inputs) (zero_and n)
    by (suc d) =
        let s : Settled (at_depth prog (d + n) (run_rule prog w)) = subst Settled (sym (follow_stays prog (on prog) n d w (run_rule prog w) (run_on prog w) settled)) settled in
        ap (λ k. rules_used k deck inputs) (suc_and d n)
        ∙ same_settled (at_depth prog (d + n) (run_rule prog w)) s (follow_same prog (d + n) (counted prog (d + n)) w (run_rule prog w) (run_on prog w))
        ∙ by d
