-- The machine follows a match in as many steps as its rules allow, those before each question included.
use Rattle.std.proofs.Common.{◌≡◌, ℕ, suc, ◌+◌, ◌*◌, ◌≤◌, ◌<◌, [], ◌∷◌, ◌++◌, Option, Some, ◌⊎◌, inl, inr, refl, sym, ap, ◌∙◌, subst, arith}
use Rattle.model.specs.declared.instr.Instr.TheVariants as op
use Rattle.model.specs.declared.run.Ending.TheVariants as ending
use Rattle.model.specs.Deck.Trees.{Expr}
use Rattle.model.specs.Language.Programs.{Program}
use Rattle.model.specs.Language.Values.{pattern_trees}
use Rattle.model.specs.Language.Conversions.{Conv, Op, answer_of}
use Rattle.model.specs.Pattern.Patterns as Pt
use Rattle.model.specs.Pattern.Patterns.{Answer, IsFailed, IsSaid, Want, Running, Failed, Asks, Matched, AskFor, SayThat}
use Rattle.model.specs.Pattern.Search.{Script, scan}
use Rattle.model.specs.Pattern.Steps as S
use Rattle.model.specs.Pattern.Stands.{Alike, AlikeAnswer, AlikeEvent}
use Rattle.model.specs.Pattern.Stands as St
use Rattle.model.specs.Language.Meaning.{Val, W, Res, Done, Fails, Ends, Open, QVal, QMatch, Span, SearchEvent, told_at, sought, after, again, answering, match_rule, doing, meaning}
use Rattle.model.specs.Machine.Steps.{PCode, codes_of, MW, Module, OV, InEval, on_event, supplied, to_stmt, after_op, State, Run, InMatch, Over, steps}
use Rattle.model.specs.Module.Placed.{Is, CodeV, Placed}
use Rattle.model.specs.Machine.Alike.{WR}
use Rattle.model.specs.Language.RulesUsed.{scan_count, WithAnswer, onward_count, evaluated_count, said_count, answer_count, match_count, event_count, after_count, query_count}
use Rattle.model.specs.Laws.StepBound.{steps_per_rule}
use Rattle.model.proofs.Pattern.CodeSearch.{IsOver, later}
use Rattle.model.proofs.Language.MeaningGrows.{at_depth}
use Rattle.model.proofs.Pattern.JumpsEnd.{below_or}
use Rattle.model.proofs.Pattern.StepsBounded.{pattern_steps_on_law}
use Rattle.model.proofs.Machine.Matches.{one_event, Came, come}
use Rattle.model.proofs.Machine.MatchesFollow.{more_task, alike_over}
use Rattle.model.proofs.Machine.Following.{MatchHere, done, failed, Here}
use Rattle.model.proofs.Machine.OperationsAlike.{ConvR, got, bad, answer_same, assign_same, assign_all_same, told_same, Any, OpR, gives, refuses, faults, keys_same}
use Rattle.model.proofs.Machine.Asking.{one, Fw, answers, op_follows}
use Rattle.model.proofs.Machine.Pacing.{if_told, SimPaced, Reaches, reaches_from, follow_reaches, count_at}

module _ (prog : Program) (img : Module) (trees_at : ℕ → Option Expr) (placed : Placed prog img trees_at) (n : ℕ) (sim : SimPaced prog img trees_at n) (s : _) (p : Pt.Pat) (left : ℕ) (u : Script) (t : MatchHere trees_at s p left u) where
  abbrev R : W → MW → Type 0
  R = WR trees_at

  abbrev Qm : Span → W → State → Type 0
  Qm r w c = done prog img trees_at (QMatch s p left u) t r w c

  abbrev Fm : W → State → Type 0
  Fm w c = failed prog img trees_at (QMatch s p left u) t w c

  abbrev X : ℕ → S.MatchState
  X k = S.match_steps t.g.subject t.g.code left 0 t.answers k

  abbrev at : ℕ → S.MatchState
  at k = S.pattern_steps t.g.subject t.g.code k t.st

  abbrev Rm : (i m : ℕ) → State → Res Span → Type 0
  Rm i m c r = Reaches prog img trees_at i m 0 c Qm Fm r

  as_it_is : (i m m' : ℕ) (c : State) (r : Res Span) → m ≤ m' → Rm i m c r → Rm i m' c (after r (λ a w. Done a w) (λ w. Fails w))
  as_it_is i m m' c (Done a w) le (j, h, x) = (j, omega arith, x)
  as_it_is i m m' c (Fails w) le (j, h, x) = (j, omega arith, x)
  as_it_is i m m' c (Ends e w) le (j, h, x) = (j, omega arith, x)
  as_it_is i m m' c (Open w) le (j, h, x) = (j, omega arith, x)

  -- ---- what follows each event

  C : ℕ
  C = scan_count s (suc n) p left 0 u

  -- the search with one more answer, a level below
  N : WithAnswer
  N y = scan s n p left 0 (u ++ y ∷ [])

  -- the steps so far are counted with that search, or here
  counted_once : (x : SearchEvent) (k : ℕ) → k ≤ 3 * C → k ≤ if_told x k + 3 * onward_count C x
  counted_once Running k le = omega (arith, le)
  counted_once Failed k le = omega arith
  counted_once (Asks v) k le = omega arith
  counted_once (Matched b e a) k le = omega arith

  onward_some : (x : SearchEvent) → 1 ≤ C → 1 ≤ onward_count C x
  onward_some Running h = h
  onward_some Failed h = omega arith
  onward_some (Asks v) h = omega arith
  onward_some (Matched b e a) h = omega arith

  again_paced : {y : Answer Pt.Pat} {z : Answer PCode} {w : W} {m : MW} (i : ℕ) (v : Pt.Ask ℕ) → AlikeAnswer trees_at y z → S.event_of (at i) ≡ Running → S.event_of (at (suc i)) ≡ Asks v → t.so_far + suc i ≤ 3 * C → R w m
      → Rm (t.so_far + suc i) (3 * onward_count C (N y) + steps_per_rule * count_at prog img trees_at n (again s p left u y w)) (InMatch t.g (S.with_more (z ∷ []) (at (suc i))) t.fs m) (at_depth prog n (again s p left u y w))
  unfolding more_task N
  again_paced {y} {z} {w} {m} i v al run is le wr =
      let c : ℕ = query_count prog n (QMatch s p left (u ++ y ∷ [])) w in
      let k : ℕ = t.so_far + suc i in
      let told : ℕ = if_told (N y) k in
      let oc : ℕ = onward_count C (N y) in
      let here : State = InMatch t.g (S.with_more (z ∷ []) (at (suc i))) t.fs m in
      let r : Res Span = meaning prog n (QMatch s p left (u ++ y ∷ [])) w in
      let once : k ≤ told + 3 * oc = counted_once (N y) k le in
      let below : Rm told (steps_per_rule * c + 0) here r = sim (QMatch s p left (u ++ y ∷ [])) (more_task prog img trees_at placed s p left u t i v al run is) w m wr in
      as_it_is k (3 * oc + steps_per_rule * c) (3 * oc + steps_per_rule * count_at prog img trees_at n (again s p left u y w)) here r (omega arith)
      (reaches_from prog img trees_at 0 k told (steps_per_rule * c + 0) (3 * oc + steps_per_rule * c) 0 here Qm Fm r (omega (arith, once)) below)

  answer_paced : {c : Conv (Answer Pt.Pat)} {c' : Conv (Answer PCode)} {w : W} {m : MW} (i : ℕ) (v : Pt.Ask ℕ) → ConvR (AlikeAnswer trees_at) c c' → S.event_of (at i) ≡ Running → S.event_of (at (suc i)) ≡ Asks v → t.so_far + suc i ≤ 3 * C → R w m
      → Rm (t.so_far + suc i) (3 * answer_count N C c + steps_per_rule * count_at prog img trees_at n (answering s p left u c w)) (supplied c' t.g (at (suc i)) t.fs m) (at_depth prog n (answering s p left u c w))
  answer_paced i v (got al) run is le wr = again_paced i v al run is le wr
  answer_paced {m = m} i v (bad e) run is le wr = (0, omega (arith, le), (m, wr, ap (λ k. Over (ending.Error e k.stno) m) (keys_same trees_at wr)))

  said_paced : {o : Op W (record {})} {o' : Op MW (record {})} (i : ℕ) (v : Pt.Ask ℕ) → OpR trees_at Any o o' → S.event_of (at i) ≡ Running → S.event_of (at (suc i)) ≡ Asks v → t.so_far + suc i ≤ 3 * C
      → Rm (t.so_far + suc i) (steps_per_rule * (said_count N C o + count_at prog img trees_at n (doing o (λ _ w1. again s p left u IsSaid w1)))) (after_op o' t.g.hs t.g.ops t.fs (λ _ w1. InMatch t.g (S.with_more (IsSaid ∷ []) (at (suc i))) t.fs w1)) (at_depth prog n (doing o (λ _ w1. again s p left u IsSaid w1)))
  said_paced i v (gives {w = w} {m = m} x wr) run is le =
      let oc : ℕ = onward_count C (N IsSaid) in
      let ca : ℕ = count_at prog img trees_at n (again s p left u IsSaid w) in
      reaches_from prog img trees_at 0 (t.so_far + suc i) (t.so_far + suc i) (3 * oc + steps_per_rule * ca) (steps_per_rule * (oc + ca)) 0 (InMatch t.g (S.with_more (IsSaid ∷ []) (at (suc i))) t.fs m) Qm Fm (at_depth prog n (again s p left u IsSaid w)) (omega arith)
      (again_paced i v St.said run is le wr)
  said_paced i v (refuses {m = m} wr) run is le = (0, omega (arith, le), (m, wr, refl))
  said_paced i v (faults e {m = m} wr) run is le = (0, omega (arith, le), (m, wr, ap (λ k. Over (ending.Error e k.stno) m) (keys_same trees_at wr)))

  answer_some : (c : Conv (Answer Pt.Pat)) → 1 ≤ C → 1 ≤ answer_count N C c
  answer_some (Rattle.model.specs.Language.Conversions.Got y) h = onward_some (N y) h
  answer_some (Rattle.model.specs.Language.Conversions.Bad e) h = h

  abbrev inner : (p' q' : ℕ) → Want → ℕ → Here
  inner p' q' k i = record { p = p'; q = q'; ops = []; hs = []; fs = InEval t.g k (at (suc i)) ∷ t.fs; fit = tt }

  -- an evaluation that a match asked for, and what follows it
  eval_paced : (m : MW) (e : Expr) (w : W) (k : Want) (l i p' q' r' : ℕ) (code : CodeV prog img trees_at e p' q') → Is prog img trees_at q' op.Ret r' → S.event_of (at i) ≡ Running → S.event_of (at (suc i)) ≡ Asks (AskFor l k) → t.so_far + suc i ≤ 3 * C
      → (cq : ℕ) (r : Res Val) → Reaches prog img trees_at 0 (steps_per_rule * cq + 0) 0 (Run p' [] [] (InEval t.g k (at (suc i)) ∷ t.fs) m) (done prog img trees_at (QVal e) (inner p' q' k i, code)) (failed prog img trees_at (QVal e) (inner p' q' k i, code)) r
      → Rm (t.so_far + suc i) (steps_per_rule * (evaluated_count N C k r + (cq + after_count r (λ a w1. count_at prog img trees_at n (answering s p left u (answer_of pattern_trees k a) w1)) (λ w1. count_at prog img trees_at n (again s p left u IsFailed w1)))))
      (Run p' [] [] (InEval t.g k (at (suc i)) ∷ t.fs) m) (after r (λ a w1. at_depth prog n (answering s p left u (answer_of pattern_trees k a) w1)) (λ w1. at_depth prog n (again s p left u IsFailed w1)))
  eval_paced m e w k l i p' q' r' code ret run is le cq (Done a w1) (j, h, (x, m1, ha, r1, e1)) =
      let fs' = InEval t.g k (at (suc i)) ∷ t.fs in
      let c0 : State = Run p' [] [] (InEval t.g k (at (suc i)) ∷ t.fs) m in
      let c1 : State = Run q' (OV x ∷ []) [] (InEval t.g k (at (suc i)) ∷ t.fs) m1 in
      let c2 : State = supplied (answer_of codes_of k x) t.g (at (suc i)) t.fs m1 in
      let y : Res Span = at_depth prog n (answering s p left u (answer_of pattern_trees k a) w1) in
      let ac : ℕ = answer_count N C (answer_of pattern_trees k a) in
      let ca : ℕ = count_at prog img trees_at n (answering s p left u (answer_of pattern_trees k a) w1) in
      let some : 1 ≤ ac = answer_some (answer_of pattern_trees k a) (omega (arith, le)) in
      let q : steps img 1 c1 ≡ c2 = one prog img trees_at placed q' r' op.Ret (OV x ∷ []) [] (InEval t.g k (at (suc i)) ∷ t.fs) m1 ret in
      let last : Rm (t.so_far + suc i) (3 * ac + steps_per_rule * ca) c2 y = answer_paced i (AskFor l k) (answer_same trees_at k ha) run is le r1 in
      let mid : Rm (t.so_far + suc i) (1 + (3 * ac + steps_per_rule * ca)) c1 y = reaches_from prog img trees_at 1 (t.so_far + suc i) (t.so_far + suc i) (3 * ac + steps_per_rule * ca) (1 + (3 * ac + steps_per_rule * ca)) 0 c1 Qm Fm y (omega arith) (subst (λ z. Rm (t.so_far + suc i) (3 * ac + steps_per_rule * ca) z y) (sym q) last) in
      reaches_from prog img trees_at j (t.so_far + suc i) (t.so_far + suc i) (1 + (3 * ac + steps_per_rule * ca)) (steps_per_rule * (ac + (cq + ca))) 0 c0 Qm Fm y (omega (arith, h, some)) (subst (λ z. Rm (t.so_far + suc i) (1 + (3 * ac + steps_per_rule * ca)) z y) (sym e1) mid)
  eval_paced m e w k l i p' q' r' code ret run is le cq (Fails w1) (j, h, (m1, r1, e1)) =
      let c0 : State = Run p' [] [] (InEval t.g k (at (suc i)) ∷ t.fs) m in
      let c1 : State = InMatch t.g (S.with_more (IsFailed ∷ []) (at (suc i))) t.fs m1 in
      let y : Res Span = at_depth prog n (again s p left u IsFailed w1) in
      let ca : ℕ = count_at prog img trees_at n (again s p left u IsFailed w1) in
      let oc : ℕ = onward_count C (N IsFailed) in
      let last : Rm (t.so_far + suc i) (3 * oc + steps_per_rule * ca) c1 y = again_paced i (AskFor l k) St.failed run is le r1 in
      reaches_from prog img trees_at j (t.so_far + suc i) (t.so_far + suc i) (3 * oc + steps_per_rule * ca) (steps_per_rule * (oc + (cq + ca))) 0 c0 Qm Fm y (omega (arith, h)) (subst (λ z. Rm (t.so_far + suc i) (3 * oc + steps_per_rule * ca) z y) (sym e1) last)
  eval_paced m e w k l i p' q' r' code ret run is le cq (Ends x w1) (j, h, y) = (j, omega (arith, h, le), y)
  eval_paced m e w k l i p' q' r' code ret run is le cq (Open w1) (j, h, x) = (j, omega (arith, h, le), x)

  event_paced : {w : W} {m : MW} (i : ℕ) (x : SearchEvent) (y : Pt.Event ℕ) → AlikeEvent trees_at x y → S.event_of (at i) ≡ Running → S.event_of (at (suc i)) ≡ y → t.so_far + suc i ≤ 3 * C → R w m
      → Rm (t.so_far + suc i) (steps_per_rule * (match_count (λ r v. meaning prog n r v) N x C w + count_at prog img trees_at n (match_rule s p left u w x))) (on_event img y t.g (at (suc i)) t.fs m) (at_depth prog n (match_rule s p left u w x))
  event_paced {m = m} i x y St.fail run is le wr = (0, omega (arith, le), (m, wr, refl))
  event_paced {w} {m} i x y (St.match {b = b} {e = e} {a = a}) run is le wr =
      let fw : Fw prog img trees_at placed 1 0 (on_event img (Matched b e a) t.g (at (suc i)) t.fs m) Qm Fm (match_rule s p left u w (Matched b e a)) =
      op_follows prog img trees_at placed Any t.g.hs t.g.ops t.fs _ _ (assign_all_same trees_at a wr) (λ x y w1 m1 hx r1. answers prog img trees_at placed 0 (omega arith) (m1, r1, refl)) (λ w1 m1 r1. (m1, r1, refl)) in
      let ca : ℕ = count_at prog img trees_at n (match_rule s p left u w (Matched b e a)) in
      reaches_from prog img trees_at 0 (t.so_far + suc i) 0 (0 + steps_per_rule * ca) (steps_per_rule * (C + ca)) 0 (on_event img (Matched b e a) t.g (at (suc i)) t.fs m) Qm Fm (at_depth prog n (match_rule s p left u w (Matched b e a))) (omega (arith, le))
      (follow_reaches prog img trees_at n sim 1 0 (omega arith) (on_event img (Matched b e a) t.g (at (suc i)) t.fs m) Qm Fm (match_rule s p left u w (Matched b e a)) fw.by)
  event_paced i x y (St.ask (St.says {x = o} {v = v})) run is le wr =
      said_paced i (SayThat o v) (assign_same trees_at o (told_same trees_at v) wr) run is le
  event_paced {w} {m} i x y (St.ask (St.asked {e = e} {k = l} {v = k} ex)) run is le wr = go (placed.exprs l e ex)
    where
      x' : SearchEvent
      x' = Asks (AskFor e k)

      go : (p' q' r' : ℕ) × (img.expr l ≡ Some p') × CodeV prog img trees_at e p' q' × Is prog img trees_at q' op.Ret r'
          → Rm (t.so_far + suc i) (steps_per_rule * (match_count (λ r v. meaning prog n r v) N (Asks (AskFor e k)) C w + count_at prog img trees_at n (match_rule s p left u w (Asks (AskFor e k))))) (on_event img (Asks (AskFor l k)) t.g (at (suc i)) t.fs m) (at_depth prog n (match_rule s p left u w (Asks (AskFor e k))))
      go (p', q', r', at', code, ret) =
          subst (λ c. Rm (t.so_far + suc i) (steps_per_rule * (match_count (λ r v. meaning prog n r v) N (Asks (AskFor e k)) C w + count_at prog img trees_at n (match_rule s p left u w (Asks (AskFor e k))))) c (at_depth prog n (match_rule s p left u w (Asks (AskFor e k)))))
          (sym (ap (λ o. to_stmt img o (InEval t.g k (at (suc i)) ∷ t.fs) m) at'))
          (eval_paced m e w k l i p' q' r' code ret run is le (query_count prog n (QVal e) w) (meaning prog n (QVal e) w) (sim (QVal e) (inner p' q' k i, code) w m wr))

  -- ---- the first event, within the bound

  law : (scan s (suc n) p left 0 u ≡ Running → ⊥) → (l : ℕ) × (t.so_far + l ≤ 3 * C) × AlikeEvent trees_at (scan s (suc n) p left 0 u) (S.event_of (at l))
  unfolding C
  law =
      subst (λ z. (scan z (suc n) p left 0 u ≡ Running → ⊥) → (l : ℕ) × (t.so_far + l ≤ 3 * scan_count z (suc n) p left 0 u) × AlikeEvent trees_at (scan z (suc n) p left 0 u) (S.event_of (at l))) t.subject
      (λ h. subst (λ y. (l : ℕ) × (t.so_far + l ≤ 3 * scan_count t.g.subject (suc n) p left 0 u) × AlikeEvent trees_at (scan t.g.subject (suc n) p left 0 u) (S.event_of (S.pattern_steps t.g.subject t.g.code l y))) t.at
      (pattern_steps_on_law t.g.subject trees_at p t.g.code t.stands (suc n) left 0 u t.answers t.alike h t.so_far (ap S.event_of t.at ∙ t.runs)))

  abbrev IsEvent : SearchEvent → Type 0
  IsEvent Running = ⊥
  IsEvent _ = Unit {0}

  First : MW → SearchEvent → Type 0
  First m x = (c : Came img t.g t.fs m t.st) × (t.so_far + suc c.i ≤ 3 * C) × AlikeEvent trees_at x (S.event_of (at (suc c.i)))

  first : (m : MW) (x : SearchEvent) → (l : ℕ) × (t.so_far + l ≤ 3 * C) × AlikeEvent trees_at x (S.event_of (at l)) → First m x
  unfolding First
  first m x (l, le, h) =
      let over : IsOver t.g.subject t.g.code (S.event_of (at l)) = alike_over prog img trees_at placed t.g.subject t.g.code x (S.event_of (at l)) h in
      let c = come img t.g t.fs m l t.st t.runs over in
      (c, within c over (below_or c.i l), subst (AlikeEvent trees_at x) (one_event t.g.subject t.g.code l (suc c.i) t.st over c.over) h)
    where
      within : (c : Came img t.g t.fs m t.st) → IsOver t.g.subject t.g.code (S.event_of (at l)) → (c.i < l) ⊎ (l ≤ c.i) → t.so_far + suc c.i ≤ 3 * C
      within c over (inl lt) = omega (arith, le, lt)
      within c over (inr ge) =
          absurd (subst (IsOver t.g.subject t.g.code) (sym (later t.g.subject t.g.code l c.i t.st (S.event_of (at l)) over ge refl) ∙ c.last) over)

  seen_paced : (w : W) (m : MW) → R w m → (x : SearchEvent) → told_at x ≡ Some x → First m x
      → Rm t.so_far (steps_per_rule * (match_count (λ r v. meaning prog n r v) N x C w + count_at prog img trees_at n (match_rule s p left u w x))) (InMatch t.g t.st t.fs m) (at_depth prog n (match_rule s p left u w x))
  unfolding First
  seen_paced w m wr x told (c, le, h) =
      let b : ℕ = steps_per_rule * (match_count (λ r v. meaning prog n r v) N x C w + count_at prog img trees_at n (match_rule s p left u w x)) in
      reaches_from prog img trees_at (suc c.i) t.so_far (t.so_far + suc c.i) b b 0 (InMatch t.g t.st t.fs m) Qm Fm (at_depth prog n (match_rule s p left u w x)) (omega arith)
      (subst (λ z. Rm (t.so_far + suc c.i) b z (at_depth prog n (match_rule s p left u w x))) (sym c.at)
      (event_paced c.i x (S.event_of (at (suc c.i))) h c.last refl le wr))

  pub match_paced : (w : W) (m : MW) → R w m → Rm (if_told (scan s (suc n) p left 0 u) t.so_far) (steps_per_rule * query_count prog (suc n) (QMatch s p left u) w) (InMatch t.g t.st t.fs m) (meaning prog (suc n) (QMatch s p left u) w)
  unfolding meaning query_count C N
  match_paced w m wr = go (scan s (suc n) p left 0 u) (λ o. law o)
    where
      go : (x : SearchEvent) → ((x ≡ Running → ⊥) → (l : ℕ) × (t.so_far + l ≤ 3 * C) × AlikeEvent trees_at x (S.event_of (at l)))
          → Rm (if_told x t.so_far) (steps_per_rule * (match_count (λ r v. meaning prog n r v) N x C w + event_count (told_at x) (λ e. count_at prog img trees_at n (match_rule s p left u w e)))) (InMatch t.g t.st t.fs m) (sought (told_at x) w (λ e. at_depth prog n (match_rule s p left u w e)))
      go Running h = (0, omega arith, ap (λ p. p.printed) (sym wr.io))
      go Failed h = seen_paced w m wr Failed refl (first m Failed (h (λ q. subst IsEvent q tt)))
      go (Asks v) h = seen_paced w m wr (Asks v) refl (first m (Asks v) (h (λ q. subst IsEvent q tt)))
      go (Matched b e a) h = seen_paced w m wr (Matched b e a) refl (first m (Matched b e a) (h (λ q. subst IsEvent q tt)))
