-- The machine follows calls, primitives and references.
use Rattle.std.proofs.Common.{◌≡◌, ℕ, suc, ◌+◌, ◌≤◌, List, [], ◌∷◌, length, Option, Some, None, Bool, inr, refl, sym, ap, ◌∙◌, arith, le_refl}
use Rattle.model.specs.declared.instr.Instr.{Instr}
use Rattle.model.specs.declared.instr.Instr.TheVariants as op
use Rattle.model.specs.declared.instr.ReturnKind.{ReturnKind}
use Rattle.model.specs.declared.primitives.PrimId.{PrimId}
use Rattle.model.specs.declared.run.ErrorCode.TheVariants as error
use Rattle.model.specs.Deck.Trees.{Bytes, Expr, Args}
use Rattle.model.specs.Deck.Target.{Name, Variable}
use Rattle.model.specs.Language.Names.{prim_named}
use Rattle.model.specs.Language.Programs.{Program}
use Rattle.model.specs.Language.Values.{Pattern, Function, Defined, Constructor, Field}
use Rattle.model.specs.Language.Operators.{fetch_op}
use Rattle.model.specs.Language.Aggregates.{element_op}
use Rattle.model.specs.Language.Calls.{Kept, return_of, kept_of}
use Rattle.model.specs.Language.Primitives.{Outcome, prim_op}
use Rattle.model.specs.Language.Meaning.{Val, W, Back, QArgs, Rule, ask, doing, function_op, entered, call_rule, after_primitive, function_rule}
use Rattle.model.specs.Machine.Steps as machine
use Rattle.model.specs.Machine.Steps.{PCode, codes_of, MVal, MW, MBack, Module, Operand, OV, ON, Frame, InCall, Caller, State, Run, fail_to, resume, to_stmt, go_to_known, go_to_return, load, pop, pop_many, call_function, calls, primitive, put_name, act, steps}
use Rattle.model.specs.Module.Placed.{Is, TextAt, CallAt, CodeA, Placed}
use Rattle.model.specs.Machine.Alike.{VR, VRs, GR, WR}
use Rattle.model.proofs.Machine.Following.{Here, push_all, rank}
use Rattle.model.proofs.Machine.OperationsAlike.{by_plain, fetch_same}
use Rattle.model.proofs.Machine.PrimitivesAlike.{OutcomeR, returns, calls as calling, element_same, prim_same, KeptR, kept_same, enter_call_same, leave_same, construct_same, select_same}
use Rattle.model.proofs.Machine.Asking.{more, at_place, pop_pushed, one, Fw, shift, from, same, op_follows, faulted, Fv, ask_args, fail_here, fail_one}

module _ (prog : Program) (img : Module) (trees_at : ℕ → Option Expr) (placed : Placed prog img trees_at) where
  abbrev R : W → MW → Type 0
  R = WR trees_at

  -- a function from its entry label on
  entered_follows : {A : Type 0} {rk : ℕ} {Q : A → W → State → Type 0} {F : W → State → Type 0} {w : W} {m : MW} (c : Caller) (fs : List Frame) (k : Kept Pattern Expr) (k' : Kept PCode ℕ) (f : Back → W → Rule A) (entry : Bytes) (r : Option ReturnKind)
      → KeptR trees_at k k' → R w m → 2 ≤ rk
      → ((g : Back) (g' : MBack) (w1 : W) (m1 : MW) → GR trees_at g g' → R w1 m1 → Fw prog img trees_at placed rk 0 (resume c fs g' m1) Q F (f g w1))
      → ((w1 : W) (m1 : MW) → R w1 m1 → F w1 (fail_to c.hs c.ops fs m1))
      → Fw prog img trees_at placed rk 1 (go_to_return img entry r (InCall k' c ∷ fs) m) Q F (entered prog k r (prog.label entry) w f)
  entered_follows c fs k k' f entry (Some r) hk wr up hg hf = op_follows prog img trees_at placed (GR trees_at) c.hs c.ops fs f (λ g w1. resume c fs g w1) (leave_same trees_at r hk wr) (λ g g' w1 m1 x r1. shift prog img trees_at placed 0 0 (omega arith) refl (hg g g' w1 m1 x r1)) hf
  entered_follows {A} {rk} {Q} {F} {w} {m} c fs k k' f entry None hk wr up hg hf =
      same prog img trees_at placed (ap (λ o. go_to_known img o (InCall k' c ∷ fs) m) (placed.labels entry)) (go (prog.label entry) refl)
    where
      go : (o : Option ℕ) → prog.label entry ≡ o → Fw prog img trees_at placed rk 1 (go_to_known img o (InCall k' c ∷ fs) m) Q F (entered prog k None o w f)
      go None e = faulted prog img trees_at placed error.UndefinedLabel wr
      go (Some j) e =
          let g = placed.gone_to entry j e in
          same prog img trees_at placed (ap (λ o. to_stmt img o (InCall k' c ∷ fs) m) g.1) (record {
            by = (
              0,
              (g.0, InCall k' c ∷ fs, g.1, tt),
              m,
              refl,
              wr,
              rk,
              up,
              inr (le_refl rk),
              1,
              (omega arith, omega arith),
              (λ r w1 s (m1, r1, e1). (from prog img trees_at placed {b = 1} 1 (omega arith) e1 (op_follows prog img trees_at placed (GR trees_at) c.hs c.ops fs f (λ g w1. resume c fs g w1) (leave_same trees_at r hk r1) (λ g g' w2 m2 x r2. hg g g' w2 m2 x r2) hf)).by),
              (λ w1 s b. absurd b),
            );
          })

  call_follows : {A : Type 0} {rk : ℕ} {Q : A → W → State → Type 0} {F : W → State → Type 0} {w : W} {m : MW} {vs : List Val} {ms : List MVal} (c : Caller) (fs : List Frame) (k : Back → W → Rule A) (f : Bytes) (d : Option Function)
      → VRs trees_at vs ms → R w m → 2 ≤ rk
      → ((g : Back) (g' : MBack) (w1 : W) (m1 : MW) → GR trees_at g g' → R w1 m1 → Fw prog img trees_at placed rk 0 (resume c fs g' m1) Q F (k g w1))
      → ((w1 : W) (m1 : MW) → R w1 m1 → F w1 (fail_to c.hs c.ops fs m1))
      → Fw prog img trees_at placed rk 1 (call_function img f ms d c fs m) Q F (call_rule prog f vs d w k)
  call_follows c fs k f None hs wr up hg hf = faulted prog img trees_at placed error.UndefinedFunction wr
  call_follows {w = w} {m} c fs k f (Some (Defined entry xs ys)) hs wr up hg hf =
      entered_follows c fs (kept_of f xs ys w) (kept_of f xs ys m) k entry (return_of entry) (kept_same trees_at f xs ys wr) (enter_call_same trees_at f xs ys hs wr) up hg hf
  call_follows c fs k f (Some (Constructor fields)) hs wr up hg hf = op_follows prog img trees_at placed (GR trees_at) c.hs c.ops fs k (λ g w1. resume c fs g w1) (construct_same trees_at f fields hs wr) (λ g g' w1 m1 x r1. shift prog img trees_at placed 0 0 (omega arith) refl (hg g g' w1 m1 x r1)) hf
  call_follows c fs k f (Some Field) hs wr up hg hf = op_follows prog img trees_at placed (GR trees_at) c.hs c.ops fs k (λ g w1. resume c fs g w1) (select_same trees_at f hs wr) (λ g g' w1 m1 x r1. shift prog img trees_at placed 0 0 (omega arith) refl (hg g g' w1 m1 x r1)) hf

  -- what a primitive came to
  finish_follows : {A : Type 0} {rk : ℕ} {Q : A → W → State → Type 0} {F : W → State → Type 0} {w : W} {m : MW} {r : Outcome Pattern Expr} {r' : Outcome PCode ℕ} (c : Caller) (fs : List Frame) (k : Back → W → Rule A)
      → OutcomeR trees_at r r' → R w m → 2 ≤ rk
      → ((g : Back) (g' : MBack) (w1 : W) (m1 : MW) → GR trees_at g g' → R w1 m1 → Fw prog img trees_at placed rk 0 (resume c fs g' m1) Q F (k g w1))
      → ((w1 : W) (m1 : MW) → R w1 m1 → F w1 (fail_to c.hs c.ops fs m1))
      → Fw prog img trees_at placed rk 1 (machine.finish_primitive img r' c fs m) Q F (after_primitive prog r w k)
  finish_follows c fs k (returns x) wr up hg hf = shift prog img trees_at placed 0 0 (omega arith) refl (hg _ _ _ _ x wr)
  finish_follows {rk = rk} {Q} {F} {w} {m} c fs k (calling f {vs} {ms} hs) wr up hg hf =
      by_plain trees_at (λ m. Fw prog img trees_at placed rk 1 (call_function img f ms (m.plain.functions f) c fs m) Q F (call_rule prog f vs (w.plain.functions f) w k)) wr (λ wr'. call_follows c fs k f (w.plain.functions f) hs wr' up hg hf)

  abbrev pub caller_at : Here → Bool → Caller
  caller_at h want = record { ops = h.ops; hs = h.hs; place = h.q; want_name = want }

  -- a function with its arguments
  pub function_follows : {A : Type 0} {rk : ℕ} {Q : A → W → State → Type 0} {w : W} {m : MW} (want : Bool) (h : Here) (f : Bytes) (args : Args) (k : Back → W → Rule A) (prim : PrimId → ℕ → Instr) (call' : ℕ → ℕ → Instr)
      → ((x : PrimId) (n p : ℕ) (ops : List Operand) (m : MW) → act img (prim x n) h.q p ops h.hs h.fs m ≡ pop_many n ops [] m (λ vs rest. primitive img want (prim_op codes_of x vs m) h.q rest h.hs h.fs))
      → ((i n p : ℕ) (ops : List Operand) (m : MW) → act img (call' i n) h.q p ops h.hs h.fs m ≡ load (img.string i) m (λ f. calls img want f n h.q ops h.hs h.fs m))
      → (r n : ℕ) → CodeA prog img trees_at args n h.p r → CallAt prog img trees_at prim call' (prim_named f) f n r h.q → R w m → suc (rank (QArgs args)) ≤ rk
      → ((g : Back) (g' : MBack) (w1 : W) (m1 : MW) → GR trees_at g g' → R w1 m1 → Fw prog img trees_at placed rk 0 (resume (caller_at h want) h.fs g' m1) Q (Fv prog img trees_at placed h) (k g w1))
      → Fw prog img trees_at placed rk 2 (Run h.p h.ops h.hs h.fs m) Q (Fv prog img trees_at placed h) (function_rule prog f args w k)
  function_follows {A} {rk} {Q} want h f args k prim call' does_prim does_call r n code at wr up hg =
      ask_args prog img trees_at placed (at_place h h.p r) n code wr up (λ us w1 xs m1 hu len r1. go us w1 xs m1 hu len r1 (prim_named f) at) (fail_here prog img trees_at placed h)
    where
      fails : (w : W) (m : MW) → R w m → Fv prog img trees_at placed h w (fail_to h.hs h.ops h.fs m)
      fails w m r = (m, r, refl)

      asks : 2 ≤ rk
      asks = omega (arith, up)

      go : (us : List Val) (w1 : W) (xs : List MVal) (m1 : MW) → VRs trees_at us xs → length xs ≡ n → R w1 m1 → (o : Option PrimId) → CallAt prog img trees_at prim call' o f n r h.q
          → Fw prog img trees_at placed rk 2 (Run r (push_all xs h.ops) h.hs h.fs m1) Q (Fv prog img trees_at placed h) (doing (function_op o f us w1) (λ r w2. after_primitive prog r w2 k))
      go us w1 xs m1 hu len r1 (Some x) is =
          shift prog img trees_at placed 1 1 (omega arith)
          (one prog img trees_at placed r h.q (prim x n) (push_all xs h.ops) h.hs h.fs m1 is ∙ does_prim x n r (push_all xs h.ops) m1
          ∙ ap (λ n. pop_many n (push_all xs h.ops) [] m1 (λ vs rest. primitive img want (prim_op codes_of x vs m1) h.q rest h.hs h.fs)) (sym len)
          ∙ pop_pushed xs h.ops m1 (λ vs rest. primitive img want (prim_op codes_of x vs m1) h.q rest h.hs h.fs))
          (op_follows prog img trees_at placed (OutcomeR trees_at) h.hs h.ops h.fs _ _ (prim_same trees_at x hu r1) (λ a b w2 m2 ho r2. finish_follows (caller_at h want) h.fs k ho r2 asks hg fails) fails)
      go us w1 xs m1 hu len r1 None (i, str, is) =
          shift prog img trees_at placed 1 1 (omega arith)
          (one prog img trees_at placed r h.q (call' i n) (push_all xs h.ops) h.hs h.fs m1 is ∙ does_call i n r (push_all xs h.ops) m1
          ∙ ap (λ o. load o m1 (λ f. calls img want f n h.q (push_all xs h.ops) h.hs h.fs m1)) str
          ∙ ap (λ n. calls img want f n h.q (push_all xs h.ops) h.hs h.fs m1) (sym len)
          ∙ pop_pushed xs h.ops m1 (λ vs rest. call_function img f vs (m1.plain.functions f) (record { ops = rest; hs = h.hs; place = h.q; want_name = want }) h.fs m1))
          (finish_follows (caller_at h want) h.fs k (calling f hu) r1 asks hg fails)

  -- the name of a variable, put on the stack
  pub var_at : (x : Bytes) (p q : ℕ) (h : Here) (m : MW) → TextAt prog img trees_at op.Var x p q → steps img 1 (Run p h.ops h.hs h.fs m) ≡ Run q (ON (Variable x) ∷ h.ops) h.hs h.fs m
  var_at x p q h m (k, str, is) = one prog img trees_at placed p q (op.Var k) h.ops h.hs h.fs m is ∙ ap (λ o. load o m (λ s. Run q (ON (Variable s) ∷ h.ops) h.hs h.fs m)) str

  -- the name of an element, in three steps, and what follows it at e, in i
  pub element_follows : {A : Type 0} {rk i : ℕ} {Q : A → W → State → Type 0} {w : W} {m : MW} (h : Here) (x : Bytes) (args : Args) (k : Name → W → Rule A) (r s t n e : ℕ)
      → TextAt prog img trees_at op.Var x h.p r → Is prog img trees_at r op.Fetch s → CodeA prog img trees_at args n s t → Is prog img trees_at t (op.Elem n) e → R w m → suc (rank (QArgs args)) ≤ rk
      → ((a : Name) (w1 : W) (m1 : MW) → R w1 m1 → Fw prog img trees_at placed rk i (Run e (ON a ∷ h.ops) h.hs h.fs m1) Q (Fv prog img trees_at placed h) (k a w1))
      → Fw prog img trees_at placed rk (3 + i) (Run h.p h.ops h.hs h.fs m) Q (Fv prog img trees_at placed h) (doing (fetch_op (Variable x) w) (λ a w1. ask (QArgs args) w1 (λ vs w2. doing (element_op a vs w2) k)))
  element_follows {i = i} {m = m} h x args k r s t n e var fetch code elem wr up hk =
      from prog img trees_at placed 2 (omega arith) (ap (steps img 1) (var_at x h.p r h m var) ∙ one prog img trees_at placed r s op.Fetch (ON (Variable x) ∷ h.ops) h.hs h.fs m fetch)
      (op_follows prog img trees_at placed (VR trees_at) h.hs h.ops h.fs _ _ (fetch_same trees_at (Variable x) wr)
      (λ a y w1 m1 ha r1. ask_args prog img trees_at placed (more h s t (OV y)) n code r1 up
      (λ us w2 zs m2 hus len r2. from prog img trees_at placed 1 (omega arith)
      (one prog img trees_at placed t e (op.Elem n) (push_all zs (OV y ∷ h.ops)) h.hs h.fs m2 elem
      ∙ ap (λ n. pop_many n (push_all zs (OV y ∷ h.ops)) [] m2 (λ vs r1. pop r1 m2 (λ a rest. put_name img (element_op a vs m2) e rest h.hs h.fs))) (sym len)
      ∙ pop_pushed zs (OV y ∷ h.ops) m2 (λ vs r1. pop r1 m2 (λ a rest. put_name img (element_op a vs m2) e rest h.hs h.fs)))
      (op_follows prog img trees_at placed ◌≡◌ h.hs h.ops h.fs k (λ a w1. Run e (ON a ∷ h.ops) h.hs h.fs w1) (element_same trees_at ha hus r2)
      (λ z z' w3 m3 hz r3. shift prog img trees_at placed 0 i (omega arith) (ap (λ x. Run e (ON x ∷ h.ops) h.hs h.fs m3) (sym hz)) (hk z w3 m3 r3)) (λ w3 m3 r3. (m3, r3, refl))))
      (fail_one prog img trees_at placed h (OV y)))
      (λ w1 m1 r1. (m1, r1, refl)))
