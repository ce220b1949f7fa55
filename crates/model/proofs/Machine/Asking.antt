-- How the machine comes to what a rule asks, from where the code of it stands.
use Rattle.std.proofs.Common.{⊎_elim, le_trans, le-add_left, ◌≡◌, ℕ, suc, ◌+◌, ◌-◌, ◌≤◌, List, [], ◌∷◌, ◌++◌, length, drop, Bool, Option, ◌⊎◌, inl, inr, refl, sym, ap, ◌∙◌, subst, arith, le_refl, append-nil}
use Rattle.model.specs.declared.instr.Instr.{Instr}
use Rattle.model.specs.declared.run.ErrorCode.{ErrorCode}
use Rattle.model.specs.declared.run.ErrorCode.TheVariants as error
use Rattle.model.specs.declared.run.Ending.{Ending}
use Rattle.model.specs.declared.run.Ending.TheVariants as ending
use Rattle.model.specs.Deck.Trees.{Expr, Args}
use Rattle.model.specs.Deck.Target.{Name}
use Rattle.model.specs.Language.Programs.{Program}
use Rattle.model.specs.Language.Values.{Pattern}
use Rattle.model.specs.Language.Conversions.{Op}
use Rattle.model.specs.Language.Operators.{Begun}
use Rattle.model.specs.Language.Meaning.{Val, W, QVal, QName, QArgs, QMatch, Span, Rule, Ret, Fail, Stop, Ask, Seek, error_rule, doing}
use Rattle.model.specs.Machine.Steps.{PCode, MVal, MW, Module, Operand, OV, ON, Frame, InCall, InEval, found_as, Handler, OnBegin, OnTry, State, Run, InMatch, Over, cut, error_at, fail_to, after_op, pop_many, act, step_at, steps}
use Rattle.model.specs.Module.Placed.{Is, CodeV, CodeN, CodeA, Placed}
use Rattle.model.specs.Machine.Alike.{VR, VRs, WR}
use Rattle.model.specs.Pattern.Steps as S
use Rattle.model.specs.Pattern.Stands as St
use Rattle.model.proofs.Machine.Following.{Base, Fit, Here, push_all, failed_at, Stopped, Still, rank, extra, spare, Follows, steps_add}
use Rattle.model.proofs.Machine.OperationsAlike.{OpR, gives, refuses, faults, keys_same, BegunR, Any}

pub fit_more : (hs : List Handler) (o : Operand) (ops : List Operand) → Fit hs ops → Fit hs (o ∷ ops)
fit_more [] o ops f = tt
fit_more (OnBegin t ∷ hs) o ops f = tt
fit_more (OnTry t d ∷ hs) o ops f = omega arith

pub fail_more : (hs : List Handler) (o : Operand) (ops : List Operand) (fs : List Frame) (w : MW) → Fit hs ops → fail_to hs (o ∷ ops) fs w ≡ fail_to hs ops fs w
fail_more [] o ops [] w f = refl
fail_more [] o ops (InCall k c ∷ fs) w f = refl
fail_more [] o ops (InEval g k st ∷ fs) w f = refl
fail_more (OnBegin t ∷ hs) o ops fs w f = refl
fail_more (OnTry t d ∷ hs) o ops fs w f =
    let e : length (o ∷ ops) - d ≡ suc (length ops - d) = omega arith in
    ap (λ n. Run t (drop n (o ∷ ops)) hs fs w) e

pub base_fail : (fs : List Frame) → Base fs → (m : MW) → fail_to [] [] fs m ≡ error_at error.FailureInGoto m
base_fail [] b m = refl
base_fail (InCall k c ∷ fs) b m = refl
base_fail (InEval g k st ∷ fs) b m = absurd b

abbrev pub more : (h : Here) (p q : ℕ) (o : Operand) → Here
more h p q o = record { p = p; q = q; ops = o ∷ h.ops; hs = h.hs; fs = h.fs; fit = fit_more h.hs o h.ops h.fit }

abbrev pub at_place : (h : Here) (p q : ℕ) → Here
at_place h p q = record { p = p; q = q; ops = h.ops; hs = h.hs; fs = h.fs; fit = h.fit }

pub cut_all : (ops : List Operand) → cut (length ops) ops ≡ ops
cut_all ops = let e : length ops - length ops ≡ 0 = omega arith in ap (λ n. drop n ops) e

pub pop_more : (xs : List MVal) (ops : List Operand) (n : ℕ) (acc : List MVal) (m : MW) (f : List MVal → List Operand → State) → pop_many (length xs + n) (push_all xs ops) acc m f ≡ pop_many n ops (xs ++ acc) m f
pop_more [] ops n acc m f = let e : 0 + n ≡ n = omega arith in ap (λ k. pop_many k ops acc m f) e
pop_more (x ∷ xs) ops n acc m f =
    let e : suc (length xs) + n ≡ length xs + suc n = omega arith in
    ap (λ k. pop_many k (push_all xs (OV x ∷ ops)) acc m f) e ∙ pop_more xs (OV x ∷ ops) (suc n) acc m f

-- values that were pushed are popped again
pub pop_pushed : (xs : List MVal) (ops : List Operand) (m : MW) (f : List MVal → List Operand → State) → pop_many (length xs) (push_all xs ops) [] m f ≡ f xs ops
pop_pushed xs ops m f =
    let e : length xs ≡ length xs + 0 = omega arith in
    ap (λ k. pop_many k (push_all xs ops) [] m f) e ∙ pop_more xs ops 0 [] m f ∙ ap (λ vs. f vs ops) (append-nil xs)

pub moved_dec : (j i r' r : ℕ) → (1 ≤ i) ⊎ (r' ≤ r) → (1 ≤ j + i) ⊎ (r' ≤ r)
moved_dec j i r' r (inl le) = inl (omega arith)
moved_dec j i r' r (inr le) = inr le

module _ (prog : Program) (img : Module) (trees_at : ℕ → Option Expr) (placed : Placed prog img trees_at) where
  abbrev pub R : W → MW → Type 0
  R = WR trees_at

  pub one : (p q : ℕ) (i : Instr) (ops : List Operand) (hs : List Handler) (fs : List Frame) (w : MW) → Is prog img trees_at p i q → steps img 1 (Run p ops hs fs w) ≡ act img i q p ops hs fs w
  one p q i ops hs fs w is = ap (λ f. step_at img f p ops hs fs w) is

  -- the machine follows a rule of the rank r in b steps, as a type that does not unfold
  pub record Fw {A : Type 0} (r b : ℕ) (c : State) (Q : A → W → State → Type 0) (F : W → State → Type 0) (p : Rule A) : Type 0 where
    pub by : Follows prog img trees_at r b c Q F p

  pub answers : {A : Type 0} {r b : ℕ} {c : State} {Q : A → W → State → Type 0} {F : W → State → Type 0} {a : A} {w : W} (j : ℕ) → j ≤ b → Q a w (steps img j c) → Fw r b c Q F (Ret a w)
  answers j le x = record { by = (j, le, x) }

  pub fails : {A : Type 0} {r b : ℕ} {c : State} {Q : A → W → State → Type 0} {F : W → State → Type 0} {w : W} (j : ℕ) → j ≤ b → F w (steps img j c) → Fw r b c Q F (Fail w)
  fails j le x = record { by = (j, le, x) }

  pub stops : {A : Type 0} {r b : ℕ} {c : State} {Q : A → W → State → Type 0} {F : W → State → Type 0} {e : Ending} {w : W} (j : ℕ) → j ≤ suc b → Stopped prog img trees_at e w (steps img j c) → Fw r b c Q F (Stop e w)
  stops j le x = record { by = (j, le, x) }

  -- the same from some steps before
  pub shift : {A : Type 0} {r b : ℕ} {c : State} {Q : A → W → State → Type 0} {F : W → State → Type 0} {p : Rule A} (j b' : ℕ) {d : State} → j + b' ≤ b → steps img j c ≡ d → Fw r b' d Q F p → Fw r b c Q F p
  shift {r = r} {b} {c} {Q} {F} {p} j b' {d} le e x = record { by = go p x.by }
    where
      go : (p : Rule _) → Follows prog img trees_at r b' d Q F p → Follows prog img trees_at r b c Q F p
      go (Ret a w) (i, h, x) = (j + i, omega arith, subst (Q a w) (sym (steps_add prog img trees_at j i c ∙ ap (steps img i) e)) x)
      go (Fail w) (i, h, x) = (j + i, omega arith, subst (F w) (sym (steps_add prog img trees_at j i c ∙ ap (steps img i) e)) x)
      go (Stop n w) (i, h, x) = (j + i, omega arith, subst (Stopped prog img trees_at n w) (sym (steps_add prog img trees_at j i c ∙ ap (steps img i) e)) x)
      go (Ask q w k f) x =
          let first : x.0 + extra q ≤ b' = x.9.0 in
          let both : x.0 + extra q + x.8 ≤ b' + spare q = x.9.1 in
          (j + x.0, x.1, x.2, steps_add prog img trees_at j x.0 c ∙ ap (steps img x.0) e ∙ x.3, x.4, x.5, x.6, moved_dec j x.0 x.5 r x.7, x.8, (omega (arith, first), omega (arith, both)), x.10, x.11)
      go (Seek g w k) x = (
        x.0,
        (λ n e' h. let y = x.1 n e' h in (j + y.0, y.1, moved_dec j y.0 y.1 r y.2, subst (λ s. Follows prog img trees_at y.1 1 s Q F (k e')) (sym (steps_add prog img trees_at j y.0 c ∙ ap (steps img y.0) e)) y.3)),
        (λ l. ⊎_elim inl (λ p. inr (j + p.0, le_trans p.1 (le-add_left p.0 j), subst (λ s. Still prog img trees_at s w) (sym (steps_add prog img trees_at j p.0 c ∙ ap (steps img p.0) e)) p.2, (λ n e' h. le_trans (p.3 n e' h) (le-add_left (x.1 n e' h).0 j)))) (x.2 l)),
        (j + x.3.0, subst (λ s. Still prog img trees_at s w) (sym (steps_add prog img trees_at j x.3.0 c ∙ ap (steps img x.3.0) e)) x.3.1),
      )

  pub from : {A : Type 0} {r b : ℕ} {c : State} {Q : A → W → State → Type 0} {F : W → State → Type 0} {p : Rule A} (j : ℕ) {d : State} → j ≤ b → steps img j c ≡ d → Fw r (b - j) d Q F p → Fw r b c Q F p
  from {b = b} j le e x = shift j (b - j) (omega arith) e x

  pub same : {A : Type 0} {r b : ℕ} {c : State} {Q : A → W → State → Type 0} {F : W → State → Type 0} {p : Rule A} {d : State} → c ≡ d → Fw r b d Q F p → Fw r b c Q F p
  same {b = b} e x = shift 0 b (omega arith) e x

  -- an operation, and what follows it
  pub op_follows : {A B C : Type 0} (S : A → B → Type 0) {r n : ℕ} {Q : C → W → State → Type 0} {F : W → State → Type 0} {o : Op W A} {o' : Op MW B} (hs : List Handler) (ops : List Operand) (fs : List Frame) (k : A → W → Rule C) (k' : B → MW → State)
      → OpR trees_at S o o' → ((a : A) (b : B) (w : W) (m : MW) → S a b → R w m → Fw r n (k' b m) Q F (k a w)) → ((w : W) (m : MW) → R w m → F w (fail_to hs ops fs m)) → Fw r n (after_op o' hs ops fs k') Q F (doing o k)
  op_follows S hs ops fs k k' (gives {a} {b} {w} {m} x wr) hk hf = hk a b w m x wr
  op_follows S hs ops fs k k' (refuses {w} {m} wr) hk hf = fails 0 (omega arith) (hf w m wr)
  op_follows S hs ops fs k k' (faults e {w} {m} wr) hk hf = stops 0 (omega arith) (m, wr, ap (λ k. Over (ending.Error e k.stno) m) (keys_same trees_at wr))

  -- a fault of the meaning is one of the machine
  pub faulted : {A : Type 0} {r n : ℕ} (e : ErrorCode) {Q : A → W → State → Type 0} {F : W → State → Type 0} {w : W} {m : MW} → R w m → Fw r n (error_at e m) Q F (error_rule e w)
  faulted e {m = m} wr = stops 0 (omega arith) (m, wr, ap (λ k. Over (ending.Error e k.stno) m) (keys_same trees_at wr))

  -- what is done where a value, a name or nothing is left
  abbrev pub Qv : Here → Val → W → State → Type 0
  Qv h v w c = (m : MVal) × (w' : MW) × VR trees_at v m × R w w' × (c ≡ Run h.q (OV m ∷ h.ops) h.hs h.fs w')

  abbrev pub Fv : Here → W → State → Type 0
  Fv h w c = failed_at prog img trees_at h.hs h.ops h.fs w c

  abbrev pub Qn : Here → Name → W → State → Type 0
  Qn h n w c = (w' : MW) × R w w' × (c ≡ Run h.q (ON n ∷ h.ops) h.hs h.fs w')

  abbrev pub Qu : Here → record {} → W → State → Type 0
  Qu h _ w c = (w' : MW) × R w w' × (c ≡ Run h.q h.ops h.hs h.fs w')

  -- asking, where the machine stands at the code of what is asked
  pub ask_val : {A : Type 0} {r n : ℕ} {e : Expr} {w : W} {m : MW} {Q : A → W → State → Type 0} {F : W → State → Type 0} {k : Val → W → Rule A} {f : W → Rule A} (g : Here)
      → CodeV prog img trees_at e g.p g.q → R w m → suc (rank (QVal e)) ≤ r
      → ((u : Val) (w1 : W) (x : MVal) (m1 : MW) → VR trees_at u x → R w1 m1 → Fw r n (Run g.q (OV x ∷ g.ops) g.hs g.fs m1) Q F (k u w1))
      → ((w1 : W) (m1 : MW) → R w1 m1 → Fw r n (fail_to g.hs g.ops g.fs m1) Q F (f w1))
      → Fw r n (Run g.p g.ops g.hs g.fs m) Q F (Ask (QVal e) w k f)
  ask_val {r = r} {n} {m = m} g code wr le hk hf = record {
    by = (0, (g, code), m, refl, wr, r, le, inr (le_refl r), n, (omega arith, omega arith), (λ u w1 s (x, m1, hu, r1, e1). (same e1 (hk u w1 x m1 hu r1)).by), (λ w1 s (m1, r1, e1). (same e1 (hf w1 m1 r1)).by));
  }

  -- a name leaves two steps
  pub ask_name : {A : Type 0} {r n : ℕ} {e : Expr} {w : W} {m : MW} {Q : A → W → State → Type 0} {F : W → State → Type 0} {k : Name → W → Rule A} {f : W → Rule A} (g : Here)
      → CodeN prog img trees_at e g.p g.q → R w m → suc (rank (QName e)) ≤ r
      → ((u : Name) (w1 : W) (m1 : MW) → R w1 m1 → Fw r (n + 2) (Run g.q (ON u ∷ g.ops) g.hs g.fs m1) Q F (k u w1))
      → ((w1 : W) (m1 : MW) → R w1 m1 → Fw r n (fail_to g.hs g.ops g.fs m1) Q F (f w1))
      → Fw r n (Run g.p g.ops g.hs g.fs m) Q F (Ask (QName e) w k f)
  ask_name {r = r} {n} {m = m} g code wr le hk hf = record {
    by = (0, (g, code), m, refl, wr, r, le, inr (le_refl r), n + 2, (omega arith, omega arith), (λ u w1 s (m1, r1, e1). (same e1 (hk u w1 m1 r1)).by), (λ w1 s (m1, r1, e1). (shift 0 n (omega arith) e1 (hf w1 m1 r1)).by));
  }

  pub ask_args : {A : Type 0} {r n : ℕ} {e : Args} {w : W} {m : MW} {Q : A → W → State → Type 0} {F : W → State → Type 0} {k : List Val → W → Rule A} {f : W → Rule A} (g : Here) (l : ℕ)
      → CodeA prog img trees_at e l g.p g.q → R w m → suc (rank (QArgs e)) ≤ r
      → ((us : List Val) (w1 : W) (xs : List MVal) (m1 : MW) → VRs trees_at us xs → length xs ≡ l → R w1 m1 → Fw r n (Run g.q (push_all xs g.ops) g.hs g.fs m1) Q F (k us w1))
      → ((w1 : W) (m1 : MW) → R w1 m1 → Fw r n (fail_to g.hs g.ops g.fs m1) Q F (f w1))
      → Fw r n (Run g.p g.ops g.hs g.fs m) Q F (Ask (QArgs e) w k f)
  ask_args {r = r} {n} {m = m} g l code wr le hk hf = record {
    by = (0, (g, l, code), m, refl, wr, r, le, inr (le_refl r), n, (omega arith, omega arith), (λ us w1 s (xs, m1, hu, len, r1, e1). (same e1 (hk us w1 xs m1 hu len r1)).by), (λ w1 s (m1, r1, e1). (same e1 (hf w1 m1 r1)).by));
  }

  -- ending with an operation that the instruction at p makes
  pub fin_val : {r n p : ℕ} {ops : List Operand} {m : MW} {o : Op W Val} {o' : Op MW MVal} (h : Here) (i : Instr) → 1 ≤ n → Is prog img trees_at p i h.q
      → act img i h.q p ops h.hs h.fs m ≡ after_op o' h.hs h.ops h.fs (λ v w1. Run h.q (OV v ∷ h.ops) h.hs h.fs w1) → OpR trees_at (VR trees_at) o o'
      → Fw r n (Run p ops h.hs h.fs m) (Qv h) (Fv h) (doing o Ret)
  fin_val {p = p} {ops} {m} h i le is acts alike =
      from 1 le (one p h.q i ops h.hs h.fs m is ∙ acts)
      (op_follows (VR trees_at) h.hs h.ops h.fs Ret (λ v w1. Run h.q (OV v ∷ h.ops) h.hs h.fs w1) alike (λ z z' w3 m3 hz r3. answers 0 (omega arith) (z', m3, hz, r3, refl)) (λ w3 m3 r3. (m3, r3, refl)))

  pub fin_name : {r n p : ℕ} {ops : List Operand} {m : MW} {o : Op W Name} {o' : Op MW Name} (h : Here) (i : Instr) → 1 ≤ n → Is prog img trees_at p i h.q
      → act img i h.q p ops h.hs h.fs m ≡ after_op o' h.hs h.ops h.fs (λ v w1. Run h.q (ON v ∷ h.ops) h.hs h.fs w1) → OpR trees_at ◌≡◌ o o'
      → Fw r n (Run p ops h.hs h.fs m) (Qn h) (Fv h) (doing o Ret)
  fin_name {p = p} {ops} {m} h i le is acts alike =
      from 1 le (one p h.q i ops h.hs h.fs m is ∙ acts)
      (op_follows ◌≡◌ h.hs h.ops h.fs Ret (λ v w1. Run h.q (ON v ∷ h.ops) h.hs h.fs w1) alike (λ z z' w3 m3 hz r3. answers 0 (omega arith) (m3, r3, ap (λ x. Run h.q (ON x ∷ h.ops) h.hs h.fs m3) (sym hz))) (λ w3 m3 r3. (m3, r3, refl)))

  pub fin_unit : {r n p : ℕ} {ops : List Operand} {m : MW} {o : Op W (record {})} {o' : Op MW (record {})} (h : Here) (i : Instr) → 1 ≤ n → Is prog img trees_at p i h.q
      → act img i h.q p ops h.hs h.fs m ≡ after_op o' h.hs h.ops h.fs (λ _ w1. Run h.q h.ops h.hs h.fs w1) → OpR trees_at Any o o'
      → Fw r n (Run p ops h.hs h.fs m) (Qu h) (Fv h) (doing o Ret)
  fin_unit {p = p} {ops} {m} h i le is acts alike =
      from 1 le (one p h.q i ops h.hs h.fs m is ∙ acts)
      (op_follows Any h.hs h.ops h.fs Ret (λ _ w1. Run h.q h.ops h.hs h.fs w1) alike (λ z z' w3 m3 hz r3. answers 0 (omega arith) (m3, r3, refl)) (λ w3 m3 r3. (m3, r3, refl)))

  pub fail_here : (h : Here) {r n : ℕ} {A : Type 0} {Q : A → W → State → Type 0} (w : W) (m : MW) → R w m → Fw r n (fail_to h.hs h.ops h.fs m) Q (Fv h) (Fail w)
  fail_here h w m wr = fails 0 (omega arith) (m, wr, refl)

  pub fail_one : (h : Here) {r n : ℕ} {A : Type 0} {Q : A → W → State → Type 0} (o : Operand) (w : W) (m : MW) → R w m → Fw r n (fail_to h.hs (o ∷ h.ops) h.fs m) Q (Fv h) (Fail w)
  fail_one h o w m wr = fails 0 (omega arith) (m, wr, fail_more h.hs o h.ops h.fs m h.fit)

  pub fail_two : (h : Here) {r n : ℕ} {A : Type 0} {Q : A → W → State → Type 0} (o o' : Operand) (w : W) (m : MW) → R w m → Fw r n (fail_to h.hs (o ∷ o' ∷ h.ops) h.fs m) Q (Fv h) (Fail w)
  fail_two h o o' w m wr = fails 0 (omega arith) (m, wr, fail_more h.hs o (o' ∷ h.ops) h.fs m (fit_more h.hs o' h.ops h.fit) ∙ fail_more h.hs o' h.ops h.fs m h.fit)

  -- a match from its beginning
  pub ask_match : {A : Type 0} {r n : ℕ} {w : W} {m : MW} {Q : A → W → State → Type 0} {F : W → State → Type 0} {k : Span → W → Rule A} {f : W → Rule A} (h : Here) (g : Begun Pattern) (g' : Begun PCode) (keep : Bool) → BegunR trees_at g g' → R w m → 1 ≤ r
      → ((s : Span) (w1 : W) (m1 : MW) → R w1 m1 → Fw r n (Run h.q (found_as keep g'.subject s.start s.end h.ops) h.hs h.fs m1) Q F (k s w1))
      → ((w1 : W) (m1 : MW) → R w1 m1 → Fw r n (fail_to h.hs h.ops h.fs m1) Q F (f w1))
      → Fw r n (InMatch (record { subject = g'.subject; code = g'.pattern; place = h.q; ops = h.ops; hs = h.hs; keep = keep }) (S.Starting 0 g'.left []) h.fs m) Q F (Ask (QMatch g.subject g.pattern g.left []) w k f)
  ask_match {r = r} {n} {m = m} h g g' keep hg wr le hk hf = record {
    by = (
      0,
      record {
        g = record { subject = g'.subject; code = g'.pattern; place = h.q; ops = h.ops; hs = h.hs; keep = keep };
        fs = h.fs;
        fit = h.fit;
        subject = hg.subject;
        stands = hg.stands;
        answers = [];
        alike = St.none;
        st = S.Starting 0 g'.left [];
        so_far = 0;
        at = ap (λ z. S.Starting 0 z []) (sym hg.left);
        runs = refl;
      },
      m,
      refl,
      wr,
      r,
      le,
      inr (le_refl r),
      n,
      (omega arith, omega arith),
      (λ s w1 d (m1, r1, e1). (same e1 (hk s w1 m1 r1)).by),
      (λ w1 d (m1, r1, e1). (same e1 (hf w1 m1 r1)).by),
    );
  }
