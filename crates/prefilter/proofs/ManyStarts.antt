-- Starts that fail at the first instruction, and many steps together.
use Rattle.std.proofs.Common.{◌≡◌, ℕ, zero, suc, ◌+◌, ◌-◌, ◌<◌, ◌≤◌, List, [], ◌∷◌, length, get_or, drop, take, refl, sym, ◌∙◌, ap, subst, arith, Bool, true, false}
use Rattle.std.specs.Prelude.{min, not, nat_lt, if◌then◌else◌}
use Rattle.std.specs.List.{prefix_len, starts_with}
use Rattle.std.proofs.Math.Dec.{eqb}
use Rattle.std.proofs.lemmas.Bool.Decides.{nat_tests}
use Rattle.std.proofs.lemmas.List.{drop_more, get_or-drop, get_or-take, length-drop, length-take}
use Rattle.std.proofs.lemmas.List.Sums.{prefix_len_passes, prefix_len-le-length}
use Rattle.model.specs.Pattern.Patterns.{Lit, AnyOf, NotAnyOf, Span}
use Rattle.model.specs.Pattern.BasicEnds.{end_if, one_byte, is_in_set}
use Rattle.model.specs.Pattern.Steps.{Code, MatchState, pattern_step, pattern_steps}
use Rattle.prefilter.specs.Starts.{FailsFrom, RunsOn}

-- ---- parts that fail from many places
pub record Stands (p : ℕ → Bool) (u : List ℕ) (c : ℕ) : Type 0 where
  pub rest : drop c u ≡ get_or u c 0 ∷ drop (c + 1) u
  pub passes : p (get_or u c 0) ≡ true

pub stands : (p : ℕ → Bool) (u : List ℕ) (b r n c : ℕ) → n ≡ prefix_len p (take r (drop b u)) → b ≤ c → c < b + n → Stands p u c
stands p u b r n c h l m =
    let rest : List ℕ = take r (drop b u) in
    let k : ℕ = c - b in
    let e : b + k ≡ c = omega (arith, l) in
    let before : k < prefix_len p rest = omega (arith, h, l, m) in
    let size : length rest ≡ min r (length (drop b u)) = length-take r (drop b u) in
    let inside : k < r = omega (arith, before, prefix_len-le-length p rest, size) in
    let within : c < length u = omega (arith, before, l, prefix_len-le-length p rest, size, length-drop b u) in
    let here : get_or rest k 0 ≡ get_or u c 0 =
    get_or-take r (drop b u) k 0 inside ∙ get_or-drop b u k 0 ∙ ap (λ j. get_or u j 0) e in
    record {
      rest = drop_more u c 0 within;
      passes = ap p (sym here) ∙ prefix_len_passes p rest k 0 before;
    }

pub not_true : (b : Bool) → not b ≡ true → b ≡ false
not_true false h = refl
not_true true h = sym h

not_front : (a x : ℕ) → not (is_in_set (a ∷ []) x) ≡ true → eqb a x ≡ false
not_front a x h = grind (arith, nat_tests, h)

pub first_differs : (x y c : ℕ) (w ys : List ℕ) → eqb x y ≡ false → end_if (starts_with eqb (y ∷ ys) (x ∷ w)) (c + length (x ∷ w)) ≡ []
first_differs x y c w ys e = rw e refl

pub fails_lit : (u w : List ℕ) (a b r n : ℕ) → 1 ≤ length w → a ≡ get_or w 0 0 → n ≡ prefix_len (λ x. not (is_in_set (a ∷ []) x)) (take r (drop b u)) → FailsFrom u (Lit w) b n
fails_lit u [] a b r n z e h c l m = absurd (omega (arith, z))
fails_lit u (x ∷ w) a b r n z e h c l m =
    let at = stands (λ y. not (is_in_set (a ∷ []) y)) u b r n c h l m in
    let y : ℕ = get_or u c 0 in
    ap (λ ys. end_if (starts_with eqb ys (x ∷ w)) (c + length (x ∷ w))) at.rest
    ∙ first_differs x y c w (drop (c + 1) u) (ap (λ k. eqb k y) (sym e) ∙ not_front a y at.passes)

pub fails_any : (u w : List ℕ) (b r n : ℕ) → n ≡ prefix_len (λ x. not (is_in_set w x)) (take r (drop b u)) → FailsFrom u (AnyOf w) b n
fails_any u w b r n h c l m =
    let at = stands (λ x. not (is_in_set w x)) u b r n c h l m in
    ap (λ xs. one_byte (is_in_set w) xs c) at.rest
    ∙ ap (λ t. end_if t (c + 1)) (not_true (is_in_set w (get_or u c 0)) at.passes)

pub fails_not_any : (u w : List ℕ) (b r n : ℕ) → n ≡ prefix_len (is_in_set w) (take r (drop b u)) → FailsFrom u (NotAnyOf w) b n
fails_not_any u w b r n h c l m =
    let at = stands (is_in_set w) u b r n c h l m in
    ap (λ xs. one_byte (λ x. not (is_in_set w x)) xs c) at.rest ∙ ap (λ t. end_if (not t) (c + 1)) at.passes

pub fails_span : (u w : List ℕ) (b r n : ℕ) → n ≡ prefix_len (λ x. not (is_in_set w x)) (take r (drop b u)) → FailsFrom u (Span w) b n
fails_span u w b r n h c l m =
    let at = stands (λ x. not (is_in_set w x)) u b r n c h l m in
    let none : prefix_len (is_in_set w) (drop c u) ≡ 0 =
    ap (prefix_len (is_in_set w)) at.rest
    ∙ ap (λ t. if t then 1 + prefix_len (is_in_set w) (drop (c + 1) u) else 0) (not_true (is_in_set w (get_or u c 0)) at.passes) in
    ap (λ k. end_if (nat_lt 0 k) (c + k)) none

-- ---- many steps, and many more
pub steps_add : (u : List ℕ) (code : Code) (n m k : ℕ) (st : MatchState) → k ≡ n + m → pattern_steps u code k st ≡ pattern_steps u code m (pattern_steps u code n st)
steps_add u code zero m k st e = let f : k ≡ m = omega (arith, e) in ap (λ j. pattern_steps u code j st) f
steps_add u code (suc n) m zero st e = absurd (omega (arith, e))
steps_add u code (suc n) m (suc k) st e =
    let f : k ≡ n + m = omega (arith, e) in steps_add u code n m k (pattern_step u code st) f

-- from a state f to a state g, both seen on a subject that has two names
pub then_steps : (u v : List ℕ) (code : Code) (n m : ℕ) (st : MatchState) (f g : List ℕ → MatchState) → v ≡ u → f u ≡ pattern_steps u code n st → g v ≡ pattern_steps v code m (f v) → g u ≡ pattern_steps u code (n + m) st
then_steps u v code n m st f g e h s =
    subst (λ w. g w ≡ pattern_steps w code m (f w)) e s ∙ ap (pattern_steps u code m) h ∙ sym (steps_add u code n m (n + m) st refl)

pub run_more : (u : List ℕ) (code : Code) (n m t : ℕ) (st : MatchState) → t ≡ n + m → RunsOn u code n st → RunsOn u code m (pattern_steps u code n st) → RunsOn u code t st
run_more u code zero m t st e h g k l = g k (omega (arith, e, l))
run_more u code (suc n) m t st e h g zero l = h zero (omega arith)
run_more u code (suc n) m t st e h g (suc k) l =
    run_more u code n m (n + m) (pattern_step u code st) refl (λ j lt. h (suc j) (omega (arith, lt))) g k (omega (arith, e, l))

pub then_run : (u v : List ℕ) (code : Code) (n m : ℕ) (st : MatchState) (f : List ℕ → MatchState) → v ≡ u → f u ≡ pattern_steps u code n st → RunsOn u code n st → RunsOn v code m (f v) → RunsOn u code (n + m) st
then_run u v code n m st f e h r s =
    run_more u code n m (n + m) st refl r (subst (λ x. RunsOn u code m x) h (subst (λ w. RunsOn w code m (f w)) e s))
