-- What the states of a match promise of its result.
use Rattle.std.proofs.Common.{◌≡◌, ℕ, zero, suc, ◌+◌, List, [], ◌∷◌, refl, sym, ◌∙◌, ap, subst, arith, ◌≤◌, ◌<◌, ◌⊎◌, inl, inr, Option}
use Rattle.std.specs.Prelude.{◌≢◌}
use Rattle.model.specs.Pattern.Patterns.{Event, Running}
use Rattle.model.specs.Pattern.Search.{scan}
use Rattle.model.specs.Pattern.Steps.{Code, Answers, MatchState, Starting, Going, Returning, Waits, Over, pattern_step, pattern_steps, event_of, match_steps, with_more, IsSupplied}
use Rattle.model.specs.Pattern.Stands as St
use Rattle.model.specs.Pattern.Stands.{AlikeEvent}
use Rattle.model.specs.Laws.MatchStates.{IsAfter, ComesToScan, ComesToFirstEnd, ComesToAnswer, StatesAnswerAsScan, StatesAnswerFirstEnd, StatesAnswerLiterals, StatesCome, StepsLeadOn, AnswersLeadOn}
use Rattle.model.specs.Laws.Patterns.{TellsRight}
use Rattle.model.specs.Deck.Trees.{Expr}
use Rattle.model.proofs.Pattern.CodeEvents.{steps_of_scan, scan_of_steps}
use Rattle.model.proofs.Pattern.FirstEnd.{scan_of_first, first_of_scan}
use Rattle.model.proofs.Pattern.Literals.{literals_run, literal_runs_right}
use Rattle.model.proofs.Pattern.AnswersLater.{answers_later}

steps_add : (s : List ℕ) (code : Code) (m n : ℕ) (x : MatchState) → pattern_steps s code (m + n) x ≡ pattern_steps s code n (pattern_steps s code m x)
steps_add s code zero n x = let e : 0 + n ≡ n = omega arith in ap (λ k. pattern_steps s code k x) e
steps_add s code (suc m) n x =
    let e : suc m + n ≡ suc (m + n) = omega arith in
    ap (λ k. pattern_steps s code k x) e ∙ steps_add s code m n (pattern_step s code x)

-- before the m-th, or so many steps behind it
before_or_after : (j m : ℕ) → (j < m) ⊎ ((k : ℕ) × (j ≡ m + k))
before_or_after j zero = inr (j, omega arith)
before_or_after zero (suc m) = inl (omega arith)
before_or_after (suc j) (suc m) = go (before_or_after j m)
  where
    go : (j < m) ⊎ ((k : ℕ) × (j ≡ m + k)) → (suc j < suc m) ⊎ ((k : ℕ) × (suc j ≡ suc m + k))
    go (inl h) = inl (omega (arith, h))
    go (inr (k, e)) = inr (k, omega (arith, e))

alike_tells : (xs : ℕ → Option Expr) (x : Event Expr) (y : Event ℕ) → AlikeEvent xs x y → (x ≢ Running) × (y ≢ Running)
alike_tells xs x y St.fail = ((λ e. cc), (λ e. cc))
alike_tells xs x y St.match = ((λ e. cc), (λ e. cc))
alike_tells xs x y (St.ask v) = ((λ e. cc), (λ e. cc))

module _ (s : List ℕ) (code : Code) (left b : ℕ) (u : Answers) (m : ℕ) (st : MatchState) (h : IsAfter s code left b u m st) where
  -- the state so many steps on
  on : (n : ℕ) → pattern_steps s code n st ≡ match_steps s code left b u (m + n)
  on n = ap (pattern_steps s code n) h.0 ∙ sym (steps_add s code m n (Starting b left u))

  -- an event of the match comes so many steps on
  comes : (j : ℕ) → event_of (match_steps s code left b u j) ≢ Running → (k : ℕ) × (event_of (match_steps s code left b u j) ≡ event_of (pattern_steps s code k st))
  comes j o = go (before_or_after j m)
    where
      go : (j < m) ⊎ ((k : ℕ) × (j ≡ m + k)) → (k : ℕ) × (event_of (match_steps s code left b u j) ≡ event_of (pattern_steps s code k st))
      go (inl l) = absurd (o (h.1 j l))
      go (inr (k, e)) = (k, ap (λ i. event_of (match_steps s code left b u i)) e ∙ sym (ap event_of (on k)))

pub answer_as_scan : StatesAnswerAsScan
answer_as_scan s code st n xs p left b m t u (sp, al, h) o =
    let e = on s code left b u m st h n in
    let r = scan_of_steps s xs p code sp (m + n) left b t u al (subst (λ z. event_of z ≢ Running) e o) in
    (r.0, subst (λ z. AlikeEvent xs (scan s r.0 p left b t) (event_of z)) (sym e) r.1)

come_to_scan : (s : List ℕ) (code : Code) (st : MatchState) → ComesToScan s code st
come_to_scan s code st xs p left b m t u (sp, al, h) n o =
    let r = steps_of_scan s xs p code sp n left b t u al o in
    let k = comes s code left b u m st h r.0 (alike_tells xs (scan s n p left b t) (event_of (match_steps s code left b u r.0)) r.1).1 in
    (k.0, subst (AlikeEvent xs (scan s n p left b t)) k.1 r.1)

pub answer_first_end : StatesAnswerFirstEnd
answer_first_end s code st n xs p left b m pl (sp, al, h) o =
    let r = answer_as_scan s code st n xs p left b m [] [] (sp, al, h) o in
    let f = first_of_scan s r.0 p pl left b (alike_tells xs (scan s r.0 p left b []) (event_of (pattern_steps s code n st)) r.1).0 in
    (f.0, subst (λ z. AlikeEvent xs z (event_of (pattern_steps s code n st))) (sym f.1) r.1)

come_to_first_end : (s : List ℕ) (code : Code) (st : MatchState) → ComesToFirstEnd s code st
come_to_first_end s code st xs p left b m pl (sp, al, h) n o =
    let f = scan_of_first s n p pl left b o in
    let r = come_to_scan s code st xs p left b m [] [] (sp, al, h) f.0 (λ q. o (sym f.1 ∙ q)) in
    (r.0, subst (λ z. AlikeEvent xs z (event_of (pattern_steps s code r.0 st))) f.1 r.1)

pub answer_literals : StatesAnswerLiterals
answer_literals s code st n xs p left b m l (sp, al, h) =
    subst (λ z. TellsRight s p left b (event_of z)) (sym (on s code left b [] m st h n)) (literal_runs_right s xs p code l sp (m + n) left b)

come_to_answer : (s : List ℕ) (code : Code) (st : MatchState) → ComesToAnswer s code st
come_to_answer s code st xs p left b m l (sp, al, h) =
    let r = literals_run s xs p code l sp left b in
    let k = comes s code left b [] m st h r.0 r.1 in
    (k.0, subst (λ z. z ≢ Running) k.1 r.1)

pub come : StatesCome
come s code st = record {
  to_scan = come_to_scan s code st;
  to_first_end = come_to_first_end s code st;
  to_answer = come_to_answer s code st;
}

-- ---- leading on
pub steps_lead_on : StepsLeadOn
steps_lead_on s code left b u m n st h w = (on s code left b u m st h n, (λ k l. go k l (before_or_after k m)))
  where
    go : (k : ℕ) → k < m + n → (k < m) ⊎ ((j : ℕ) × (k ≡ m + j)) → event_of (match_steps s code left b u k) ≡ Running
    go k l (inl g) = h.1 k g
    go k l (inr (j, e)) =
        ap (λ i. event_of (match_steps s code left b u i)) e ∙ ap event_of (sym (on s code left b u m st h j)) ∙ w j (omega (arith, l, e))

supplied : (x : MatchState) → event_of x ≡ Running → IsSupplied x
supplied (Starting b left u) e = tt
supplied (Going t cs b left u) e = tt
supplied (Returning ch cs b left u) e = tt
supplied (Waits w t cs b left []) e = cc
supplied (Waits w t cs b left (y ∷ u)) e = tt
supplied (Over r) e = tt

still_running : (v : Answers) (x : MatchState) → event_of x ≡ Running → event_of (with_more v x) ≡ Running
still_running v (Starting b left u) e = refl
still_running v (Going t cs b left u) e = refl
still_running v (Returning ch cs b left u) e = refl
still_running v (Waits w t cs b left []) e = cc
still_running v (Waits w t cs b left (y ∷ u)) e = refl
still_running v (Over r) e = e

pub answers_lead_on : AnswersLeadOn
answers_lead_on s code left b u v m st h =
    let same = λ (k : ℕ) (le : k ≤ m). answers_later s code left b u v k (λ j l. supplied (match_steps s code left b u j) (h.1 j (omega (arith, l, le)))) in
    (ap (with_more v) h.0 ∙ sym (same m (omega arith)), (λ k l. ap event_of (same k (omega (arith, l))) ∙ still_running v (match_steps s code left b u k) (h.1 k l)))
