-- The machine follows the rules of expressions.
use Rattle.std.proofs.Common.{◌≡◌, ℕ, suc, List, [], ◌∷◌, length, Option, Some, None, true, false, refl, sym, ap, ◌∙◌, arith, le_refl}
use Rattle.model.specs.declared.instr.Instr.{Instr}
use Rattle.model.specs.declared.instr.Instr.TheVariants as op
use Rattle.model.specs.declared.instr.ArithOp.TheVariants as a
use Rattle.model.specs.declared.instr.SignOp.{SignOp}
use Rattle.model.specs.declared.instr.SignOp.TheVariants as sign
use Rattle.model.specs.declared.keys.KeyId.{KeyId}
use Rattle.model.specs.declared.trees.Unary.{Unary}
use Rattle.model.specs.declared.trees.Unary.TheVariants as u
use Rattle.model.specs.declared.trees.Binary.{Binary}
use Rattle.model.specs.declared.trees.Binary.TheVariants as b
use Rattle.model.specs.Deck.Trees.{Expr, Name, Integer, Literal, Keyword, Call, Reference, Apply, Combine, Args, Nil, More, Absent, Given}
use Rattle.model.specs.Deck.Target as target
use Rattle.model.specs.Language.Names.{key_named}
use Rattle.model.specs.Language.Programs.{Program}
use Rattle.model.specs.Language.Values.{Str, Int, Pat, Nam, Exp, pattern_trees}
use Rattle.model.specs.Language.Conversions.{Op}
use Rattle.model.specs.Language.Operators.{arith_op, sign_op, cat_op, alt_op, cond_op, imm_op}
use Rattle.model.specs.Language.Meaning.{Val, W, QVal, QName, QArgs, Ret, ask, doing, two_values, value_and_name, key_rule, rule}
use Rattle.model.specs.Machine.Steps.{codes_of, MVal, MW, Module, OV, ON, OnTry, State, Run, after_op, load, act, steps}
use Rattle.model.specs.Module.Placed.{Is, KeyAt, CodeV, CodeN, CodeA, Placed}
use Rattle.model.specs.Machine.Alike.{VR, rstr, rint, rpat, rnam, rexp, VRs, rnil, rcons, WR}
use Rattle.model.proofs.Machine.Following.{Here, push_all, rank, own_steps}
use Rattle.model.proofs.Machine.OperationsAlike.{OpR, arith_same, sign_same, cat_same, alt_same, cond_same, imm_same, indir_same, fetch_same, keyget_same}
use Rattle.model.proofs.Machine.PrimitivesAlike.{as_value_same, as_name_same}
use Rattle.model.proofs.Machine.Asking.{more, at_place, cut_all, one, Fw, shift, from, same, answers, fails, op_follows, Qv, Fv, Qn, ask_val, ask_name, ask_args, fin_val, fin_name, fail_here, fail_one}
use Rattle.model.proofs.Machine.CallsFollow.{function_follows, var_at, element_follows}

module _ (prog : Program) (img : Module) (trees_at : ℕ → Option Expr) (placed : Placed prog img trees_at) where
  abbrev R : W → MW → Type 0
  R = WR trees_at

  binary : {x y : Expr} {w : W} {w' : MW} (o : Binary) (h : Here) (r s : ℕ) (f : Val → Val → W → Op W Val) (f' : MVal → MVal → MW → Op MW MVal) (i : Instr)
      → ((x y : MVal) (m : MW) → act img i h.q s (OV y ∷ OV x ∷ h.ops) h.hs h.fs m ≡ after_op (f' x y m) h.hs h.ops h.fs (λ v w1. Run h.q (OV v ∷ h.ops) h.hs h.fs w1))
      → ((u v : Val) (x y : MVal) (w : W) (m : MW) → VR trees_at u x → VR trees_at v y → R w m → OpR trees_at (VR trees_at) (f u v w) (f' x y m))
      → CodeV prog img trees_at x h.p r → CodeV prog img trees_at y r s → Is prog img trees_at s i h.q → R w w'
      → Fw prog img trees_at placed (rank (QVal (Combine o x y))) 5 (Run h.p h.ops h.hs h.fs w') (Qv prog img trees_at placed h) (Fv prog img trees_at placed h) (two_values x y w f)
  binary o h r s f f' i acts same cx cy is wr =
      ask_val prog img trees_at placed (at_place h h.p r) cx wr (omega arith)
      (λ u w1 x m1 hu r1. ask_val prog img trees_at placed (more h r s (OV x)) cy r1 (omega arith)
      (λ v w2 y m2 hv r2. fin_val prog img trees_at placed h i (omega arith) is (acts x y m2) (same u v x y w2 m2 hu hv r2))
      (fail_one prog img trees_at placed h (OV x)))
      (fail_here prog img trees_at placed h)

  with_name : {x y : Expr} {w : W} {w' : MW} (o : Binary) (h : Here) (r s : ℕ) (f : Val → target.Name → W → Op W Val) (f' : MVal → target.Name → MW → Op MW MVal) (i : Instr)
      → ((x : MVal) (a : target.Name) (m : MW) → act img i h.q s (ON a ∷ OV x ∷ h.ops) h.hs h.fs m ≡ after_op (f' x a m) h.hs h.ops h.fs (λ v w1. Run h.q (OV v ∷ h.ops) h.hs h.fs w1))
      → ((u : Val) (x : MVal) (a : target.Name) (w : W) (m : MW) → VR trees_at u x → R w m → OpR trees_at (VR trees_at) (f u a w) (f' x a m))
      → CodeV prog img trees_at x h.p r → CodeN prog img trees_at y r s → Is prog img trees_at s i h.q → R w w'
      → Fw prog img trees_at placed (rank (QVal (Combine o x y))) 5 (Run h.p h.ops h.hs h.fs w') (Qv prog img trees_at placed h) (Fv prog img trees_at placed h) (value_and_name x y w f)
  with_name o h r s f f' i acts same cx cy is wr =
      ask_val prog img trees_at placed (at_place h h.p r) cx wr (omega arith)
      (λ u w1 x m1 hu r1. ask_name prog img trees_at placed (more h r s (OV x)) cy r1 (omega arith)
      (λ n w2 m2 r2. fin_val prog img trees_at placed h i (omega arith) is (acts x n m2) (same u x n w2 m2 hu r2))
      (fail_one prog img trees_at placed h (OV x)))
      (fail_here prog img trees_at placed h)

  signed : {x : Expr} {w : W} {w' : MW} (u : Unary) (h : Here) (r : ℕ) (o : SignOp) → CodeV prog img trees_at x h.p r → Is prog img trees_at r (op.Sign o) h.q → R w w'
      → Fw prog img trees_at placed (rank (QVal (Apply u x))) 5 (Run h.p h.ops h.hs h.fs w') (Qv prog img trees_at placed h) (Fv prog img trees_at placed h) (ask (QVal x) w (λ v w1. doing (sign_op o v w1) Ret))
  signed u h r o code is wr =
      ask_val prog img trees_at placed (at_place h h.p r) code wr (omega arith) (λ u w1 x m1 hu r1. fin_val prog img trees_at placed h (op.Sign o) (omega arith) is refl (sign_same trees_at o hu r1)) (fail_here prog img trees_at placed h)

  key_local : (o : Option KeyId) (h : Here) → KeyAt prog img trees_at op.KeyGet o h.p h.q → {rk : ℕ} (w : W) (m : MW) → R w m
      → Fw prog img trees_at placed rk 5 (Run h.p h.ops h.hs h.fs m) (Qv prog img trees_at placed h) (Fv prog img trees_at placed h) (key_rule o w)
  key_local None h x w m wr = absurd x
  key_local (Some k) h is w m wr = fin_val prog img trees_at placed h (op.KeyGet k) (omega arith) is refl (keyget_same trees_at k wr)

  abbrev under : (h : Here) (r s t : ℕ) → Here
  under h r s t = record { p = r; q = s; ops = h.ops; hs = OnTry t (length h.ops) ∷ h.hs; fs = h.fs; fit = le_refl (length h.ops) }

  pub val_local : (e : Expr) (h : Here) → CodeV prog img trees_at e h.p h.q → (w : W) (m : MW) → R w m
      → Fw prog img trees_at placed (rank (QVal e)) 5 (Run h.p h.ops h.hs h.fs m) (Qv prog img trees_at placed h) (Fv prog img trees_at placed h) (rule prog (QVal e) w)
  val_local (Name x) h (r, var, is) w m wr = from prog img trees_at placed 1 (omega arith) (var_at prog img trees_at placed x h.p r h m var) (fin_val prog img trees_at placed h op.Fetch (omega arith) is refl (fetch_same trees_at (target.Variable x) wr))
  val_local (Integer z) h is w m wr = answers prog img trees_at placed 1 (omega arith) (Int z, m, rint z, wr, one prog img trees_at placed h.p h.q (op.Int z) h.ops h.hs h.fs m is)
  val_local (Literal s) h (k, str, is) w m wr =
      answers prog img trees_at placed 1 (omega arith) (Str s, m, rstr s, wr, one prog img trees_at placed h.p h.q (op.Str k) h.ops h.hs h.fs m is ∙ ap (λ o. load o m (λ s. Run h.q (OV (Str s) ∷ h.ops) h.hs h.fs m)) str)
  val_local (Keyword s) h code w m wr = key_local (key_named s) h code w m wr
  val_local (Call f args) h (r, n, code, at) w m wr =
      shift prog img trees_at placed 0 2 (omega arith) refl (function_follows prog img trees_at placed false h f args _ op.PrimV op.CallV (λ x n p ops m. refl) (λ i n p ops m. refl) r n code at wr (omega arith)
      (λ g g' w1 m1 hg r1. op_follows prog img trees_at placed (VR trees_at) h.hs h.ops h.fs Ret (λ v w1. Run h.q (OV v ∷ h.ops) h.hs h.fs w1) (as_value_same trees_at hg r1) (λ z z' w3 m3 hz r3. answers prog img trees_at placed 0 (omega arith) (z', m3, hz, r3, refl)) (λ w3 m3 r3. (m3, r3, refl))))
  val_local (Reference x args) h (r, s, t, v, n, var, fetch, code, elem, is) w m wr =
      element_follows prog img trees_at placed {i = 2} h x args _ r s t n v var fetch code elem wr (omega arith) (λ n w1 m1 r1. fin_val prog img trees_at placed h op.Fetch (omega arith) is refl (fetch_same trees_at n r1))
  val_local (Apply u.NameOf e) h (r, code, is) w m wr =
      ask_name prog img trees_at placed (at_place h h.p r) code wr (omega arith)
      (λ n w1 m1 r1. answers prog img trees_at placed 1 (omega arith) (Nam n, m1, rnam n, r1, one prog img trees_at placed r h.q op.NameV (ON n ∷ h.ops) h.hs h.fs m1 is)) (fail_here prog img trees_at placed h)
  val_local (Apply u.Indirect e) h (r, s, code, is, is') w m wr =
      ask_val prog img trees_at placed (at_place h h.p r) code wr (omega arith)
      (λ u w1 x m1 hu r1. from prog img trees_at placed 1 (omega arith) (one prog img trees_at placed r s op.Indir (OV x ∷ h.ops) h.hs h.fs m1 is)
      (op_follows prog img trees_at placed ◌≡◌ h.hs h.ops h.fs _ (λ n w1. Run s (ON n ∷ h.ops) h.hs h.fs w1) (indir_same trees_at hu r1)
      (λ n n' w2 m2 hn r2. same prog img trees_at placed (ap (λ x. Run s (ON x ∷ h.ops) h.hs h.fs m2) (sym hn)) (fin_val prog img trees_at placed h op.Fetch (omega arith) is' refl (fetch_same trees_at n r2)))
      (λ w2 m2 r2. (m2, r2, refl))))
      (fail_here prog img trees_at placed h)
  val_local (Apply u.Unevaluated e) h (k, at, is) w m wr = answers prog img trees_at placed 1 (omega arith) (Exp k, m, rexp at, wr, one prog img trees_at placed h.p h.q (op.Expr k) h.ops h.hs h.fs m is)
  val_local (Apply u.Cursor e) h (r, code, is) w m wr =
      ask_name prog img trees_at placed (at_place h h.p r) code wr (omega arith)
      (λ n w1 m1 r1. answers prog img trees_at placed 1 (omega arith) (Pat (codes_of.cursor n), m1, rpat refl, r1, one prog img trees_at placed r h.q op.Cursor (ON n ∷ h.ops) h.hs h.fs m1 is)) (fail_here prog img trees_at placed h)
  val_local (Apply u.Plus e) h (r, code, is) w m wr = signed u.Plus h r sign.Plus code is wr
  val_local (Apply u.Minus e) h (r, code, is) w m wr = signed u.Minus h r sign.Minus code is wr
  val_local (Apply u.Interrogate e) h (r, s, code, is, is') w m wr =
      ask_val prog img trees_at placed (at_place h h.p r) code wr (omega arith)
      (λ u w1 x m1 hu r1. answers prog img trees_at placed 2 (omega arith) (Str [], m1, rstr [], r1, ap (steps img 1) (one prog img trees_at placed r s op.Drop (OV x ∷ h.ops) h.hs h.fs m1 is) ∙ one prog img trees_at placed s h.q op.Null h.ops h.hs h.fs m1 is'))
      (fail_here prog img trees_at placed h)
  val_local (Apply u.Negate e) h (r, s, t, v, x, y, is, code, is1, is2, is3, is4) w m wr =
      from prog img trees_at placed 1 (omega arith) (one prog img trees_at placed h.p r (op.Try t) h.ops h.hs h.fs m is) (ask_val prog img trees_at placed (under h r s t) code wr (omega arith)
      (λ c w1 z m1 hz r1. fails prog img trees_at placed 3 (omega arith) (
        m1,
        r1,
        ap (steps img 2) (one prog img trees_at placed s v op.Drop (OV z ∷ h.ops) (OnTry t (length h.ops) ∷ h.hs) h.fs m1 is1)
            ∙ ap (steps img 1) (one prog img trees_at placed v x op.Untry h.ops (OnTry t (length h.ops) ∷ h.hs) h.fs m1 is2)
            ∙ one prog img trees_at placed x y op.Fail h.ops h.hs h.fs m1 is3,
      ))
      (λ w1 m1 r1. answers prog img trees_at placed 1 (omega arith) (
        Str [],
        m1,
        rstr [],
        r1,
        ap (λ o. steps img 1 (Run t o h.hs h.fs m1)) (cut_all h.ops) ∙ one prog img trees_at placed t h.q op.Null h.ops h.hs h.fs m1 is4,
      )))
  val_local (Combine b.Conditional x y) h (r, s, cx, cy, is) w m wr =
      with_name b.Conditional h r s (cond_op pattern_trees) (cond_op codes_of) op.Cond (λ x n m. refl) (λ u x n w m hu r. cond_same trees_at n hu r) cx cy is wr
  val_local (Combine b.Immediate x y) h (r, s, cx, cy, is) w m wr =
      with_name b.Immediate h r s (imm_op pattern_trees) (imm_op codes_of) op.Imm (λ x n m. refl) (λ u x n w m hu r. imm_same trees_at n hu r) cx cy is wr
  val_local (Combine b.Power x y) h (r, s, cx, cy, is) w m wr =
      binary b.Power h r s (arith_op a.Power) (arith_op a.Power) (op.Arith a.Power) (λ x y m. refl) (λ u v x y w m hu hv r. arith_same trees_at a.Power hu hv r) cx cy is wr
  val_local (Combine b.Multiply x y) h (r, s, cx, cy, is) w m wr =
      binary b.Multiply h r s (arith_op a.Multiply) (arith_op a.Multiply) (op.Arith a.Multiply) (λ x y m. refl) (λ u v x y w m hu hv r. arith_same trees_at a.Multiply hu hv r) cx cy is wr
  val_local (Combine b.Divide x y) h (r, s, cx, cy, is) w m wr =
      binary b.Divide h r s (arith_op a.Divide) (arith_op a.Divide) (op.Arith a.Divide) (λ x y m. refl) (λ u v x y w m hu hv r. arith_same trees_at a.Divide hu hv r) cx cy is wr
  val_local (Combine b.Add x y) h (r, s, cx, cy, is) w m wr =
      binary b.Add h r s (arith_op a.Add) (arith_op a.Add) (op.Arith a.Add) (λ x y m. refl) (λ u v x y w m hu hv r. arith_same trees_at a.Add hu hv r) cx cy is wr
  val_local (Combine b.Subtract x y) h (r, s, cx, cy, is) w m wr =
      binary b.Subtract h r s (arith_op a.Subtract) (arith_op a.Subtract) (op.Arith a.Subtract) (λ x y m. refl) (λ u v x y w m hu hv r. arith_same trees_at a.Subtract hu hv r) cx cy is wr
  val_local (Combine b.Concatenate x y) h (r, s, cx, cy, is) w m wr =
      binary b.Concatenate h r s (cat_op pattern_trees) (cat_op codes_of) op.Cat (λ x y m. refl) (λ u v x y w m hu hv r. cat_same trees_at hu hv r) cx cy is wr
  val_local (Combine b.Alternate x y) h (r, s, cx, cy, is) w m wr =
      binary b.Alternate h r s (alt_op pattern_trees) (alt_op codes_of) op.Alt (λ x y m. refl) (λ u v x y w m hu hv r. alt_same trees_at hu hv r) cx cy is wr

  pub name_local : (e : Expr) (h : Here) → CodeN prog img trees_at e h.p h.q → (w : W) (m : MW) → R w m
      → Fw prog img trees_at placed (rank (QName e)) 3 (Run h.p h.ops h.hs h.fs m) (Qn prog img trees_at placed h) (Fv prog img trees_at placed h) (rule prog (QName e) w)
  name_local (Name x) h var w m wr = answers prog img trees_at placed 1 (omega arith) (m, wr, var_at prog img trees_at placed x h.p h.q h m var)
  name_local (Apply u.Indirect e) h (r, code, is) w m wr =
      ask_val prog img trees_at placed (at_place h h.p r) code wr (omega arith) (λ u w1 x m1 hu r1. fin_name prog img trees_at placed h op.Indir (omega arith) is refl (indir_same trees_at hu r1)) (fail_here prog img trees_at placed h)
  name_local (Reference x args) h (r, s, t, n, var, fetch, code, elem) w m wr =
      element_follows prog img trees_at placed {i = 0} h x args _ r s t n h.q var fetch code elem wr (omega arith) (λ n w1 m1 r1. answers prog img trees_at placed 0 (omega arith) (m1, r1, refl))
  name_local (Call f args) h (r, n, code, at) w m wr =
      shift prog img trees_at placed 0 2 (omega arith) refl (function_follows prog img trees_at placed true h f args _ op.PrimN op.CallN (λ x n p ops m. refl) (λ i n p ops m. refl) r n code at wr (omega arith)
      (λ g g' w1 m1 hg r1. op_follows prog img trees_at placed ◌≡◌ h.hs h.ops h.fs Ret (λ v w1. Run h.q (ON v ∷ h.ops) h.hs h.fs w1) (as_name_same trees_at hg r1)
      (λ z z' w3 m3 hz r3. answers prog img trees_at placed 0 (omega arith) (m3, r3, ap (λ x. Run h.q (ON x ∷ h.ops) h.hs h.fs m3) (sym hz))) (λ w3 m3 r3. (m3, r3, refl))))
  name_local _ h x w m wr = absurd x

  abbrev pub Qa : Here → ℕ → List Val → W → State → Type 0
  Qa h n vs w c = (ms : List MVal) × (w' : MW) × VRs trees_at vs ms × (length ms ≡ n) × R w w' × (c ≡ Run h.q (push_all ms h.ops) h.hs h.fs w')

  pub args_local : (args : Args) (h : Here) (n : ℕ) → CodeA prog img trees_at args n h.p h.q → (w : W) (m : MW) → R w m
      → Fw prog img trees_at placed (rank (QArgs args)) (own_steps prog img trees_at (QArgs args) w) (Run h.p h.ops h.hs h.fs m) (Qa h n) (Fv prog img trees_at placed h) (rule prog (QArgs args) w)
  args_local Nil h n (len, at) w m wr = answers prog img trees_at placed 0 (omega arith) ([], m, rnil, sym len, wr, ap (λ p. Run p h.ops h.hs h.fs m) (sym at))
  args_local (More Absent args) h n (r, l, is, codes, len) w m wr =
      from prog img trees_at placed 1 (omega arith) (one prog img trees_at placed h.p r op.Null h.ops h.hs h.fs m is) (ask_args prog img trees_at placed (more h r h.q (OV (Str []))) l codes wr (omega arith)
      (λ us w2 xs m2 hus len2 r2. answers prog img trees_at placed 0 (omega arith) (Str [] ∷ xs, m2, rcons (rstr []) hus, ap suc len2 ∙ sym len, r2, refl))
      (fail_one prog img trees_at placed h (OV (Str []))))
  args_local (More (Given e) args) h n (r, l, code, codes, len) w m wr =
      ask_val prog img trees_at placed (at_place h h.p r) code wr (omega arith)
      (λ u w1 x m1 hu r1. ask_args prog img trees_at placed (more h r h.q (OV x)) l codes r1 (omega arith)
      (λ us w2 xs m2 hus len2 r2. answers prog img trees_at placed 0 (omega arith) (x ∷ xs, m2, rcons hu hus, ap suc len2 ∙ sym len, r2, refl))
      (fail_one prog img trees_at placed h (OV x)))
      (fail_here prog img trees_at placed h)
