-- The machine follows matches: the steps of pattern code come to what the search of its pattern comes to.
use Rattle.std.proofs.Common.{⊎_elim, ◌≡◌, ℕ, suc, ◌+◌, ◌≤◌, [], ◌∷◌, ◌++◌, Option, Some, None, ◌⊎◌, inl, inr, refl, sym, ap, ◌∙◌, subst, arith, zero-le, le_refl}
use Rattle.std.proofs.lemmas.Bool.{cases_lt}
use Rattle.model.specs.declared.instr.Instr.TheVariants as op
use Rattle.model.specs.Deck.Trees.{Bytes, Expr}
use Rattle.model.specs.Language.Programs.{Program}
use Rattle.model.specs.Language.Conversions.{Conv}
use Rattle.model.specs.Pattern.Patterns as Pt
use Rattle.model.specs.Pattern.Patterns.{Answer, Running, Failed, Asks, Matched, AskFor, SayThat}
use Rattle.model.specs.Pattern.Search.{Script, scan}
use Rattle.model.specs.Pattern.Steps as S
use Rattle.model.specs.Pattern.Stands.{Alike, AlikeAnswer, AlikeEvent}
use Rattle.model.specs.Pattern.Stands as St
use Rattle.model.specs.Language.Meaning.{W, QVal, QMatch, Span, SearchEvent, told_at, again, answering, match_rule, rule}
use Rattle.model.specs.Machine.Steps.{PCode, MW, Module, OV, InEval, on_event, supplied, to_stmt, State, InMatch, steps}
use Rattle.model.specs.Module.Placed.{Is, CodeV, Placed}
use Rattle.model.specs.Machine.Alike.{WR}
use Rattle.model.proofs.Pattern.CodeSearch.{IsOver, later}
use Rattle.model.proofs.Pattern.CodeEvents.{steps_of_scan, scan_of_steps}
use Rattle.model.proofs.Machine.Matches.{steps_more, one_event, asks_more, more_at, busy, Came, come}
use Rattle.model.proofs.Language.MeaningPrints.{told_some}
use Rattle.model.proofs.Machine.Following.{MatchHere, done, failed, Still, rank, Follows}
use Rattle.model.proofs.Machine.OperationsAlike.{ConvR, got, bad, answer_same, assign_same, assign_all_same, told_same, Any}
use Rattle.model.proofs.Machine.Asking.{one, Fw, from, same, answers, fails, faulted, op_follows, ask_val}

module _ (prog : Program) (img : Module) (trees_at : ℕ → Option Expr) (placed : Placed prog img trees_at) where
  abbrev R : W → MW → Type 0
  R = WR trees_at

  pub next_suc : (n i : ℕ) → suc (n + i) ≡ n + suc i
  next_suc n i = omega arith

  pub alike_end : {t : Script} {u : S.Answers} {y : Answer Pt.Pat} {z : Answer PCode} → Alike trees_at t u → AlikeAnswer trees_at y z → Alike trees_at (t ++ y ∷ []) (u ++ z ∷ [])
  alike_end St.none h = St.more h St.none
  alike_end (St.more k r) h = St.more k (alike_end r h)

  pub alike_over : (s : Bytes) (code : PCode) (x : SearchEvent) (y : Pt.Event ℕ) → AlikeEvent trees_at x y → IsOver s code y
  alike_over s code x y St.fail = tt
  alike_over s code x y St.match = tt
  alike_over s code x y (St.ask h) = tt

  alike_runs : (x : SearchEvent) (y : Pt.Event ℕ) → AlikeEvent trees_at x y → told_at x ≡ Some x
  alike_runs x y St.fail = refl
  alike_runs x y St.match = refl
  alike_runs x y (St.ask h) = refl

  from_some : SearchEvent → Option SearchEvent → SearchEvent
  from_some d None = d
  from_some d (Some e) = e

  told_is : (x e : SearchEvent) → told_at x ≡ Some e → x ≡ e
  unfolding from_some
  told_is Running e h = ap (from_some Running) h
  told_is Failed e h = ap (from_some Failed) h
  told_is (Asks v) e h = ap (from_some Failed) h
  told_is (Matched b c a) e h = ap (from_some Failed) h

  module _ (s : Bytes) (p : Pt.Pat) (left : ℕ) (u : Script) (t : MatchHere trees_at s p left u) where
    abbrev Qm : Span → W → State → Type 0
    Qm r w c = done prog img trees_at (QMatch s p left u) t r w c

    abbrev Fm : W → State → Type 0
    Fm w c = failed prog img trees_at (QMatch s p left u) t w c

    abbrev X : ℕ → S.MatchState
    X n = S.match_steps t.g.subject t.g.code left 0 t.answers n

    pub from_there : (j : ℕ) → X (t.so_far + j) ≡ S.pattern_steps t.g.subject t.g.code j t.st
    from_there j = steps_more t.g.subject t.g.code t.so_far j (S.Starting 0 left t.answers) ∙ ap (S.pattern_steps t.g.subject t.g.code j) t.at

    -- the first event, and the match with one more answer
    unfoldable pub more_task : {y : Answer Pt.Pat} {z : Answer PCode} (i : ℕ) (v : Pt.Ask ℕ) → AlikeAnswer trees_at y z → S.event_of (S.pattern_steps t.g.subject t.g.code i t.st) ≡ Running → S.event_of (S.pattern_steps t.g.subject t.g.code (suc i) t.st) ≡ Asks v → MatchHere trees_at s p left (u ++ y ∷ [])
    more_task {z = z} i v al run is = record {
      g = t.g;
      fs = t.fs;
      fit = t.fit;
      subject = t.subject;
      stands = t.stands;
      answers = t.answers ++ z ∷ [];
      alike = alike_end t.alike al;
      st = S.with_more (z ∷ []) (S.pattern_steps t.g.subject t.g.code (suc i) t.st);
      so_far = t.so_far + suc i;
      at = subst (λ k. S.match_steps t.g.subject t.g.code left 0 (t.answers ++ z ∷ []) k ≡ S.with_more (z ∷ []) (S.pattern_steps t.g.subject t.g.code (suc i) t.st)) (next_suc t.so_far i)
          (more_at t.g.subject t.g.code left t.answers z (t.so_far + i) (ap S.event_of (from_there i) ∙ run) ∙ ap (S.with_more (z ∷ [])) (ap X (next_suc t.so_far i) ∙ from_there (suc i)));
      runs = asks_more t.g.subject t.g.code z (S.pattern_steps t.g.subject t.g.code (suc i) t.st) v is;
    }

    again_follows : {y : Answer Pt.Pat} {z : Answer PCode} {n b : ℕ} {w : W} {m : MW} (i : ℕ) (v : Pt.Ask ℕ) → AlikeAnswer trees_at y z → S.event_of (S.pattern_steps t.g.subject t.g.code i t.st) ≡ Running → S.event_of (S.pattern_steps t.g.subject t.g.code (suc i) t.st) ≡ Asks v → 1 ≤ n → R w m
        → Fw prog img trees_at placed n b (InMatch t.g (S.with_more (z ∷ []) (S.pattern_steps t.g.subject t.g.code (suc i) t.st)) t.fs m) Qm Fm (again s p left u y w)
    unfolding more_task
    again_follows {n = n} {b} {m = m} i v al run is le wr = record {
      by = (0, more_task i v al run is, m, refl, wr, n, le, inr (le_refl n), b, (omega arith, omega arith), (λ r w1 d h. (0, zero-le, h)), (λ w1 d h. (0, zero-le, h)));
    }

    answer_follows : {c : Conv (Answer Pt.Pat)} {c' : Conv (Answer PCode)} {n b : ℕ} {w : W} {m : MW} (i : ℕ) (v : Pt.Ask ℕ) → ConvR (AlikeAnswer trees_at) c c' → S.event_of (S.pattern_steps t.g.subject t.g.code i t.st) ≡ Running → S.event_of (S.pattern_steps t.g.subject t.g.code (suc i) t.st) ≡ Asks v → 1 ≤ n → R w m
        → Fw prog img trees_at placed n b (supplied c' t.g (S.pattern_steps t.g.subject t.g.code (suc i) t.st) t.fs m) Qm Fm (answering s p left u c w)
    answer_follows i v (got al) run is le wr = again_follows i v al run is le wr
    answer_follows i v (bad e) run is le wr = faulted prog img trees_at placed e wr

    -- what follows each event
    event_follows : {w : W} {m : MW} (i : ℕ) (x : SearchEvent) (y : Pt.Event ℕ) → AlikeEvent trees_at x y → S.event_of (S.pattern_steps t.g.subject t.g.code i t.st) ≡ Running → S.event_of (S.pattern_steps t.g.subject t.g.code (suc i) t.st) ≡ y → R w m
        → (n : ℕ) × Fw prog img trees_at placed n 1 (on_event img y t.g (S.pattern_steps t.g.subject t.g.code (suc i) t.st) t.fs m) Qm Fm (match_rule s p left u w x)
    event_follows {m = m} i x y St.fail run is wr = (0, fails prog img trees_at placed 0 (omega arith) (m, wr, refl))
    event_follows i x y (St.match {a = a}) run is wr =
        (0, op_follows prog img trees_at placed Any t.g.hs t.g.ops t.fs _ _ (assign_all_same trees_at a wr) (λ x y w1 m1 hx r1. answers prog img trees_at placed 0 (omega arith) (m1, r1, refl)) (λ w1 m1 r1. (m1, r1, refl)))
    event_follows i x y (St.ask (St.says {x = n} {v = v})) run is wr =
        (1, op_follows prog img trees_at placed Any t.g.hs t.g.ops t.fs _ _ (assign_same trees_at n (told_same trees_at v) wr) (λ a b w1 m1 ha r1. again_follows i (SayThat n v) St.said run is (le_refl 1) r1) (λ w1 m1 r1. (m1, r1, refl)))
    event_follows {w} {m} i x y (St.ask (St.asked {e = e} {k = l} {v = k} at)) run is wr = go (placed.exprs l e at)
      where
        n : ℕ
        n = suc (rank (QVal e))

        st : S.MatchState
        st = S.pattern_steps t.g.subject t.g.code (suc i) t.st

        go : (p' q' r' : ℕ) × (img.expr l ≡ Some p') × CodeV prog img trees_at e p' q' × Is prog img trees_at q' op.Ret r' → (n : ℕ) × Fw prog img trees_at placed n 1 (on_event img (Asks (AskFor l k)) t.g st t.fs m) Qm Fm (match_rule s p left u w (Asks (AskFor e k)))
        go (p', q', r', ex, code, ret) = (
          n,
          same prog img trees_at placed (ap (λ o. to_stmt img o (InEval t.g k st ∷ t.fs) m) ex)
              (ask_val prog img trees_at placed (record { p = p'; q = q'; ops = []; hs = []; fs = InEval t.g k st ∷ t.fs; fit = tt }) code wr (le_refl n)
              (λ a w1 x m1 ha r1. from prog img trees_at placed 1 (omega arith) (one prog img trees_at placed q' r' op.Ret (OV x ∷ []) [] (InEval t.g k st ∷ t.fs) m1 ret) (answer_follows i (AskFor l k) (answer_same trees_at k ha) run is (omega arith) r1))
              (λ w1 m1 r1. again_follows i (AskFor l k) St.failed run is (omega arith) r1)),
        )

    -- the events of the two
    follows_scan : (n : ℕ) → (scan s n p left 0 u ≡ Running → ⊥) → (k : ℕ) × AlikeEvent trees_at (scan s n p left 0 u) (S.event_of (X k))
    follows_scan n = subst (λ z. (scan z n p left 0 u ≡ Running → ⊥) → (k : ℕ) × AlikeEvent trees_at (scan z n p left 0 u) (S.event_of (X k))) t.subject (λ h. steps_of_scan t.g.subject trees_at p t.g.code t.stands n left 0 u t.answers t.alike h)

    scan_follows : (k : ℕ) → (S.event_of (X k) ≡ Running → ⊥) → (n : ℕ) × AlikeEvent trees_at (scan s n p left 0 u) (S.event_of (X k))
    scan_follows k = subst (λ z. (S.event_of (X k) ≡ Running → ⊥) → (n : ℕ) × AlikeEvent trees_at (scan z n p left 0 u) (S.event_of (X k))) t.subject (λ h. scan_of_steps t.g.subject trees_at p t.g.code t.stands k left 0 u t.answers t.alike h)

    abbrev Is_over : ℕ → Type 0
    Is_over j = IsOver t.g.subject t.g.code (S.event_of (S.pattern_steps t.g.subject t.g.code j t.st))

    -- where the scan comes to an event, so does the match, and first to that one
    came_at : (m : MW) (n : ℕ) (e : SearchEvent) → told_at (scan s n p left 0 u) ≡ Some e → (c : Came img t.g t.fs m t.st) × AlikeEvent trees_at e (S.event_of (S.pattern_steps t.g.subject t.g.code (suc c.i) t.st))
    came_at m n e h =
        let k = follows_scan n (told_some (scan s n p left 0 u) e h) in
        let o : IsOver t.g.subject t.g.code (S.event_of (X k.0)) = alike_over t.g.subject t.g.code (scan s n p left 0 u) (S.event_of (X k.0)) k.1 in
        let same : S.event_of (X (t.so_far + k.0)) ≡ S.event_of (X k.0) = later t.g.subject t.g.code k.0 (t.so_far + k.0) (S.Starting 0 left t.answers) (S.event_of (X k.0)) o (omega arith) refl in
        let there : S.event_of (S.pattern_steps t.g.subject t.g.code k.0 t.st) ≡ S.event_of (X k.0) = ap S.event_of (sym (from_there k.0)) ∙ same in
        let o2 : Is_over k.0 = subst (IsOver t.g.subject t.g.code) (sym there) o in
        let c = come img t.g t.fs m k.0 t.st t.runs o2 in
        (c, subst (AlikeEvent trees_at e) (sym there ∙ one_event t.g.subject t.g.code k.0 (suc c.i) t.st o2 c.over) (subst (λ x. AlikeEvent trees_at x (S.event_of (X k.0))) (told_is (scan s n p left 0 u) e h) k.1))

    abbrev G : ℕ → Option SearchEvent
    G n = told_at (scan s n p left 0 u)

    found : (w : W) (m : MW) → R w m → (n : ℕ) (e : SearchEvent) → G n ≡ Some e → (j r' : ℕ) × ((1 ≤ j) ⊎ (r' ≤ 0)) × Follows prog img trees_at r' 1 (steps img j (InMatch t.g t.st t.fs m)) Qm Fm (match_rule s p left u w e)
    found w m wr n e h =
        let c = came_at m n e h in
        let st : S.MatchState = S.pattern_steps t.g.subject t.g.code (suc c.0.i) t.st in
        let f = event_follows c.0.i e (S.event_of st) c.1 c.0.last refl wr in
        (suc c.0.i, f.0, inl (omega arith), (same prog img trees_at placed c.0.at f.1).by)

    late : (w : W) (m : MW) (wr : R w m) (l : ℕ) → S.event_of (S.pattern_steps t.g.subject t.g.code l t.st) ≡ Running → (n : ℕ) (e : SearchEvent) (h : G n ≡ Some e) → l ≤ (found w m wr n e h).0
    unfolding found
    late w m wr l run n e h =
        let c = came_at m n e h in
        ⊎_elim (λ lt. absurd (subst (IsOver t.g.subject t.g.code) (sym (later t.g.subject t.g.code (suc c.0.i) l t.st (S.event_of (S.pattern_steps t.g.subject t.g.code (suc c.0.i) t.st)) c.0.over (omega arith) refl) ∙ run) c.0.over)) (λ le. le) (cases_lt (suc c.0.i) l)

    still_now : (w : W) (m : MW) → R w m → (l : ℕ) → S.event_of (S.pattern_steps t.g.subject t.g.code l t.st) ≡ Running → Still prog img trees_at (steps img l (InMatch t.g t.st t.fs m)) w
    still_now w m wr l run = subst (λ s. Still prog img trees_at s w) (sym (busy img t.g t.fs m l t.st run)) (ap (λ p. p.printed) (sym wr.io))

    known : (w : W) (m : MW) (wr : R w m) (l : ℕ) → ((n : ℕ) × (e : SearchEvent) × (G n ≡ Some e)) ⊎ ((i : ℕ) × (l ≤ i) × Still prog img trees_at (steps img i (InMatch t.g t.st t.fs m)) w × ((n : ℕ) (e : SearchEvent) (h : G n ≡ Some e) → l ≤ (found w m wr n e h).0))
    known w m wr l = go (S.event_of (S.pattern_steps t.g.subject t.g.code l t.st)) refl
      where
        is_over : (y : Pt.Event ℕ) → IsOver t.g.subject t.g.code y → S.event_of (S.pattern_steps t.g.subject t.g.code l t.st) ≡ y → (n : ℕ) × (e : SearchEvent) × (G n ≡ Some e)
        is_over y o q =
            let a = scan_follows (t.so_far + l) (λ r. subst (IsOver t.g.subject t.g.code) (sym q ∙ ap S.event_of (sym (from_there l)) ∙ r) o) in
            (a.0, scan s a.0 p left 0 u, alike_runs (scan s a.0 p left 0 u) (S.event_of (X (t.so_far + l))) a.1)

        go : (y : Pt.Event ℕ) → S.event_of (S.pattern_steps t.g.subject t.g.code l t.st) ≡ y → ((n : ℕ) × (e : SearchEvent) × (G n ≡ Some e)) ⊎ ((i : ℕ) × (l ≤ i) × Still prog img trees_at (steps img i (InMatch t.g t.st t.fs m)) w × ((n : ℕ) (e : SearchEvent) (h : G n ≡ Some e) → l ≤ (found w m wr n e h).0))
        go Running q = inr (l, le_refl l, still_now w m wr l q, late w m wr l q)
        go Failed q = inl (is_over Failed tt q)
        go (Asks v) q = inl (is_over (Asks v) tt q)
        go (Matched b e a) q = inl (is_over (Matched b e a) tt q)

    pub match_local : (w : W) (m : MW) → R w m → Follows prog img trees_at 0 0 (InMatch t.g t.st t.fs m) Qm Fm (rule prog (QMatch s p left u) w)
    match_local w m wr = (zero-le, found w m wr, known w m wr, (0, ap (λ p. p.printed) (sym wr.io)))
