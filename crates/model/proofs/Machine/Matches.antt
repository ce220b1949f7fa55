-- A match of the machine, step by step, and the steps of its code.
use Rattle.std.proofs.Common.{◌≡◌, ℕ, zero, suc, ◌+◌, ◌-◌, ◌<◌, List, [], ◌∷◌, ◌++◌, refl, sym, ap, ◌∙◌, subst, arith}
use Rattle.model.specs.Pattern.Patterns.{Instr, Answer, Running, Failed, Asks, Matched, Ask}
use Rattle.model.specs.Pattern.Patterns as Pt
use Rattle.model.specs.Pattern.Steps as S
use Rattle.model.specs.Pattern.Steps.{Won, Lost, Code, Answers, Thread, Choice, Retry, Again, Quit, Starting, Going, Returning, Waits, Over, IsSupplied, Move, Goes, Forks, Fails, Act, Moves, Aborts, Arrives, Asking}
use Rattle.model.specs.Laws.Matches.{MatchRuns, MatchComes}
use Rattle.model.specs.Machine.Steps.{State, step, MW, Module, Matching, Frame, InMatch, on_event, steps}
use Rattle.model.proofs.Pattern.CodeSearch.{IsOver, all_stays, later}
use Rattle.model.proofs.Pattern.AnswersLater.{answers_later}

module _ (s : List ℕ) (code : Code) where
  pub steps_more : (i j : ℕ) (x : S.MatchState) → S.pattern_steps s code (i + j) x ≡ S.pattern_steps s code j (S.pattern_steps s code i x)
  steps_more zero j x = let e : zero + j ≡ j = omega arith in ap (λ k. S.pattern_steps s code k x) e
  steps_more (suc i) j x = let e : suc i + j ≡ suc (i + j) = omega arith in ap (λ k. S.pattern_steps s code k x) e ∙ steps_more i j (S.pattern_step s code x)

  -- what runs later runs now
  pub runs_before : (l : ℕ) (x : S.MatchState) → S.event_of (S.pattern_steps s code l x) ≡ Running → S.event_of x ≡ Running
  runs_before l x h = go (S.event_of x) refl
    where
      over : (e : Pt.Event ℕ) → S.event_of x ≡ e → IsOver s code e → S.event_of x ≡ Running
      over e q o = ap S.event_of (sym (all_stays s code l x (subst (IsOver s code) (sym q) o))) ∙ h

      go : (e : Pt.Event ℕ) → S.event_of x ≡ e → S.event_of x ≡ Running
      go Running q = q
      go Failed q = over Failed q tt
      go (Asks v) q = over (Asks v) q tt
      go (Matched b d a) q = over (Matched b d a) q tt

  -- two events that are over are one
  pub one_event : (i j : ℕ) (x : S.MatchState) → IsOver s code (S.event_of (S.pattern_steps s code i x)) → IsOver s code (S.event_of (S.pattern_steps s code j x)) → S.event_of (S.pattern_steps s code i x) ≡ S.event_of (S.pattern_steps s code j x)
  one_event i j x oi oj =
      sym (later s code i (i + j) x (S.event_of (S.pattern_steps s code i x)) oi (omega arith) refl) ∙ later s code j (i + j) x (S.event_of (S.pattern_steps s code j x)) oj (omega arith) refl

  pub supplied : (x : S.MatchState) → S.event_of x ≡ Running → IsSupplied x
  supplied (Starting b left u) h = tt
  supplied (Going t cs b left u) h = tt
  supplied (Returning ch cs b left u) h = tt
  supplied (Waits w t cs b left []) h = subst (IsOver s code) h tt
  supplied (Waits w t cs b left (y ∷ u)) h = tt
  supplied (Over e) h = tt

  -- one more answer to a question that has none
  IsAsk : Pt.Event ℕ → Type 0
  IsAsk (Asks v) = Unit {0}
  IsAsk _ = ⊥

  pub asks_more : (z : Answer Code) (x : S.MatchState) (v : Ask ℕ) → S.event_of x ≡ Asks v → S.event_of (S.with_more (z ∷ []) x) ≡ Running
  unfolding IsAsk
  asks_more z (Starting b left u) v h = refl
  asks_more z (Going t cs b left u) v h = refl
  asks_more z (Returning ch cs b left u) v h = refl
  asks_more z (Waits k t cs b left []) v h = refl
  asks_more z (Waits k t cs b left (y ∷ u)) v h = refl
  asks_more z (Over Lost) v h = absurd (subst IsAsk (sym h) tt)
  asks_more z (Over (Won b e a)) v h = absurd (subst IsAsk (sym h) tt)

  -- the state with one more answer is that of the longer script
  pub more_at : (left : ℕ) (u : Answers) (z : Answer Code) (n : ℕ) → S.event_of (S.match_steps s code left 0 u n) ≡ Running → S.match_steps s code left 0 (u ++ z ∷ []) (suc n) ≡ S.with_more (z ∷ []) (S.match_steps s code left 0 u (suc n))
  more_at left u z n h = answers_later s code left 0 u (z ∷ []) (suc n) (λ k lt. supplied (S.match_steps s code left 0 u k) (before k lt))
    where
      before : (k : ℕ) → k < suc n → S.event_of (S.match_steps s code left 0 u k) ≡ Running
      before k lt =
          let e : k + (n - k) ≡ n = omega arith in
          runs_before (n - k) (S.match_steps s code left 0 u k)
          (ap S.event_of (sym (steps_more k (n - k) (Starting 0 left u)) ∙ ap (λ i. S.pattern_steps s code i (Starting 0 left u)) e) ∙ h)

-- the machine in a match
module _ (img : Module) (g : Matching) (fs : List Frame) (m : MW) where
  abbrev pub K : ℕ → S.MatchState → S.MatchState
  K n st = S.pattern_steps g.subject g.code n st

  pub busy : (l : ℕ) (st : S.MatchState) → S.event_of (K l st) ≡ Running → steps img l (InMatch g st fs m) ≡ InMatch g (K l st) fs m
  busy zero st h = refl
  busy (suc l) st h =
      ap (λ e. steps img l (on_event img e g (K 1 st) fs m)) (runs_before g.subject g.code l (K 1 st) h) ∙ busy l (K 1 st) h

  -- it has come to its first event after i + 1 steps
  pub record Came (st : S.MatchState) : Type 0 where
    pub i : ℕ
    pub at : steps img (suc i) (InMatch g st fs m) ≡ on_event img (S.event_of (K (suc i) st)) g (K (suc i) st) fs m
    pub over : IsOver g.subject g.code (S.event_of (K (suc i) st))
    pub last : S.event_of (K i st) ≡ Running

  pub come : (d : ℕ) (st : S.MatchState) → S.event_of st ≡ Running → IsOver g.subject g.code (S.event_of (K d st)) → Came st
  come zero st r o = absurd (subst (IsOver g.subject g.code) r o)
  come (suc d) st r o = go (λ e. come d (K 1 st) e o) (S.event_of (K 1 st)) refl
    where
      now : (e : Pt.Event ℕ) → S.event_of (K 1 st) ≡ e → IsOver g.subject g.code e → Came st
      now e q h = record { i = 0; at = refl; over = subst (IsOver g.subject g.code) (sym q) h; last = r }

      go : (S.event_of (K 1 st) ≡ Running → Came (K 1 st)) → (e : Pt.Event ℕ) → S.event_of (K 1 st) ≡ e → Came st
      go f Running q = let c = f q in record { i = suc c.i; at = ap (λ e. steps img (suc c.i) (on_event img e g (K 1 st) fs m)) q ∙ c.at; over = c.over; last = c.last }
      go f Failed q = now Failed q tt
      go f (Asks v) q = now (Asks v) q tt
      go f (Matched b e a) q = now (Matched b e a) q tt

pub machine_more : (img : Module) (i j : ℕ) (c : State) → steps img (i + j) c ≡ steps img j (steps img i c)
machine_more img zero j c = let e : zero + j ≡ j = omega arith in ap (λ k. steps img k c) e
machine_more img (suc i) j c = let e : suc i + j ≡ suc (i + j) = omega arith in ap (λ k. steps img k c) e ∙ machine_more img i j (step img c)

pub match_runs : MatchRuns
match_runs img g fs m l st h = busy img g fs m l st h

pub match_comes : MatchComes
match_comes img g fs m l st h =
    let e : suc l ≡ l + 1 = omega arith in
    let s : S.pattern_steps g.subject g.code (suc l) st ≡ S.pattern_step g.subject g.code (S.pattern_steps g.subject g.code l st) = ap (λ k. S.pattern_steps g.subject g.code k st) e ∙ steps_more g.subject g.code l 1 st in
    ap (λ k. steps img k (InMatch g st fs m)) e ∙ machine_more img l 1 (InMatch g st fs m) ∙ ap (step img) (busy img g fs m l st h)
    ∙ ap (λ x. on_event img (S.event_of x) g x fs m) (sym s)
