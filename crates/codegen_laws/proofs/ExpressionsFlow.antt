-- The code of an expression is sound: that for its value leaves one value more, that for its name one name more.
use Rattle.std.proofs.Common.{◌≡◌, ℕ, zero, suc, ◌<◌, ◌≤◌, ◌^◌, List, [], ◌∷◌, ◌++◌, length, drop, refl, sym, ap, ◌∙◌, subst, arith, true, false, not, Some, None, Option, slice_get}
use Rattle.std.specs.Prelude.{replicate, nat_lt}
use Rattle.std.proofs.lemmas.Bool.Decides.{nat_tests}
use Rattle.model.specs.declared.image.Image.{Image}
use Rattle.model.specs.declared.instr.Instr.{Instr}
use Rattle.model.specs.declared.instr.Instr.TheVariants as op
use Rattle.model.specs.declared.instr.ArithOp.TheVariants as arith
use Rattle.model.specs.declared.instr.SignOp.TheVariants as sign
use Rattle.model.specs.declared.keys.KeyId.{KeyId}
use Rattle.model.specs.declared.primitives.PrimId.{PrimId}
use Rattle.model.specs.declared.trees.Unary.TheVariants as u
use Rattle.model.specs.declared.trees.Binary.TheVariants as b
use Rattle.model.specs.Deck.Faults.{count, is_target, at_most}
use Rattle.model.specs.Module.Flow.{OperandKind, V, N, Shape, shape, Asks, Above, floor_of}
use Rattle.model.specs.Language.Names.{key_named, prim_named, most_args}
use Rattle.model.specs.Deck.Trees.{Bytes, Expr, Name, Integer, Literal, Keyword, Call, Reference, Apply, Combine, Args, Nil, More, Absent, Given}
use Rattle.model.specs.Module.WellFormed.{is_nonnull, indices_fit}
use Rattle.expr_codegen.specs.Code.{Part, one, with_string, ◌>>◌, call, with_key, value, name, arguments}
use Rattle.codegen_laws.specs.Fit.{Named, Fit, FitArgs}
use Rattle.codegen_laws.proofs.Flows.{Fits, Small, push, tried, Flows, flows_nothing, flows_one, flows_string, flows_later, flows_join, flows_as, flows_try}
use Rattle.codegen_laws.proofs.Offsets.{within}
use Rattle.codegen_laws.proofs.Shapes.{next_shape, Targets}

-- the newest handler keeps no more than there is
abbrev pub Floors : Shape → Type 0
Floors s = floor_of s.handlers ≤ length s.kinds

up : (k : OperandKind) (s : Shape) → Floors s → Floors (push k s)
up k s f = omega (arith, f)

abbrev pushes : ℕ → Shape → Shape
pushes n s = shape s.mode (replicate n V ++ s.kinds) s.handlers

vs_snoc : (n : ℕ) (ks : List OperandKind) → replicate n V ++ (V ∷ ks) ≡ V ∷ (replicate n V ++ ks)
vs_snoc zero ks = refl
vs_snoc (suc n) ks = ap (λ x. V ∷ x) (vs_snoc n ks)

vs_dropped : (n : ℕ) (ks : List OperandKind) → drop (length (replicate n V)) (replicate n V ++ ks) ≡ ks
vs_dropped zero ks = refl
vs_dropped (suc n) ks = vs_dropped n ks

more_pushed : (n : ℕ) (s : Shape) → pushes n (push V s) ≡ pushes (suc n) s
more_pushed n s = ap (λ x. shape s.mode x s.handlers) (vs_snoc n s.kinds)

at_most_fits : (p : PrimId) (n : ℕ) → at_most (Some p) n ≡ true → not (nat_lt (most_args p) n) ≡ true
at_most_fits p n h = let g : n ≤ most_args p = grind (arith, nat_tests, h) in let e : nat_lt (most_args p) n ≡ false = grind (arith, g) in rw e refl

module _ (im : Image) where
  text_fits : (s : Bytes) (k : ℕ) → slice_get im.strings k ≡ Some s → Fits im (op.Str k)
  text_fits s k e = (let h = within im.strings k s e in let g : nat_lt k (length im.strings) ≡ true = grind (arith, h) in g, tt)

  name_is : (x : Bytes) → Named x → (k : ℕ) → slice_get im.strings k ≡ Some x → is_nonnull (slice_get im.strings k) ≡ true
  name_is x n k e = ap is_nonnull e ∙ n

  -- ---- instructions

  var_flows : (x : Bytes) → Named x → (s : Shape) → Floors s → Flows im s (push N s) (with_string op.Var x)
  var_flows x n s f = flows_string im op.Var x (λ k e. (name_is x n k e, tt)) (λ k. (s.kinds, refl, f)) (λ k p. tt) (λ k. refl)

  fetch_flows : (s : Shape) → Floors s → Flows im (push N s) (push V s) (one op.Fetch)
  fetch_flows s f = flows_one im op.Fetch (refl, tt) (s.kinds, refl, f) (λ p. tt)

  -- from one operand to another
  unary_flows : (i : Instr) (k l : OperandKind) → indices_fit im i ≡ true → Small i → ((s : Shape) → Asks i s ≡ Above (k ∷ []) s) → ((p : ℕ) (s : Shape) → Targets im.statements i p s [])
      → ((s : Shape) → next_shape i s ≡ shape s.mode (l ∷ drop 1 s.kinds) s.handlers) → (s : Shape) → Floors s → Flows im (push k s) (push l s) (one i)
  unary_flows i k l a b c t n s f = flows_as im (n (push k s)) (flows_one im i (a, b) (subst (λ T. T) (sym (c (push k s))) (s.kinds, refl, f)) (λ p. t p (push k s)))

  -- two operands to a value
  binary_flows : (i : Instr) (k : OperandKind) → indices_fit im i ≡ true → Small i → ((s : Shape) → Asks i s ≡ Above (k ∷ V ∷ []) s) → ((p : ℕ) (s : Shape) → Targets im.statements i p s [])
      → ((s : Shape) → next_shape i s ≡ shape s.mode (V ∷ drop 2 s.kinds) s.handlers) → (s : Shape) → Floors s → Flows im (push k (push V s)) (push V s) (one i)
  binary_flows i k a b c t n s f = flows_as im (n (push k (push V s))) (flows_one im i (a, b) (subst (λ T. T) (sym (c (push k (push V s)))) (s.kinds, refl, f)) (λ p. t p (push k (push V s))))

  pub drop_flows : (s : Shape) → Floors s → Flows im (push V s) s (one op.Drop)
  drop_flows s f = flows_one im op.Drop (refl, tt) (s.kinds, refl, f) (λ p. tt)

  pub null_flows : (s : Shape) → Floors s → Flows im s (push V s) (one op.Null)
  null_flows s f = flows_one im op.Null (refl, tt) (s.kinds, refl, f) (λ p. tt)

  untry_flows : (t : ℕ) (s : Shape) → Flows im (tried t s) s (one op.Untry)
  untry_flows t s = flows_one im op.Untry (refl, tt) tt (λ p. tt)

  fail_flows : (s : Shape) → Floors s → Flows im s s (one op.Fail)
  fail_flows s f = flows_one im op.Fail (refl, tt) (s.kinds, refl, f) (λ p. tt)

  tried_floors : (t : ℕ) (s : Shape) → Floors (tried t s)
  tried_floors t s = omega arith

  int_flows : (z : _) → Fit (Integer z) → (s : Shape) → Floors s → Flows im s (push V s) (one (op.Int z))
  int_flows z n s f = flows_one im (op.Int z) (refl, n) (s.kinds, refl, f) (λ p. tt)

  str_flows : (x : Bytes) → (s : Shape) → Floors s → Flows im s (push V s) (with_string op.Str x)
  str_flows x s f = flows_string im op.Str x (λ k e. text_fits x k e) (λ k. (s.kinds, refl, f)) (λ k p. tt) (λ k. refl)

  keyget_flows : (o : Option KeyId) (k : KeyId) → o ≡ Some k → (s : Shape) → Floors s → Flows im s (push V s) (with_key op.KeyGet o)
  keyget_flows o k e s f = subst (λ x. Flows im s (push V s) (with_key op.KeyGet x)) (sym e) (flows_one im (op.KeyGet k) (refl, tt) (s.kinds, refl, f) (λ p. tt))

  elem_flows : (n : ℕ) → n < 2 ^ 16 → (s : Shape) → Floors s → Flows im (pushes (suc n) s) (push N s) (one (op.Elem n))
  elem_flows n few s f = flows_as im (ap (λ x. shape s.mode (N ∷ x) s.handlers) (vs_dropped (suc n) s.kinds)) (flows_one im (op.Elem n) (refl, few) (s.kinds, refl, f) (λ p. tt))

  -- calls for a value, and for a name
  value_called : (o : Option PrimId) (g : Bytes) (n : ℕ) → Named g → at_most o n ≡ true → n < 2 ^ 16 → (s : Shape) → Floors s → Flows im (pushes n s) (push V s) (call op.PrimV op.CallV o g n)
  value_called None g n na m c s f = flows_string im (λ k. op.CallV k n) g (λ k e. (name_is g na k e, c)) (λ k. (s.kinds, refl, f)) (λ k p. tt) (λ k. ap (λ x. shape s.mode (V ∷ x) s.handlers) (vs_dropped n s.kinds))
  value_called (Some p) g n na m c s f = flows_as im (ap (λ x. shape s.mode (V ∷ x) s.handlers) (vs_dropped n s.kinds)) (flows_one im (op.PrimV p n) (at_most_fits p n m, tt) (s.kinds, refl, f) (λ q. tt))

  name_called : (o : Option PrimId) (g : Bytes) (n : ℕ) → Named g → at_most o n ≡ true → n < 2 ^ 16 → (s : Shape) → Floors s → Flows im (pushes n s) (push N s) (call op.PrimN op.CallN o g n)
  name_called None g n na m c s f = flows_string im (λ k. op.CallN k n) g (λ k e. (name_is g na k e, c)) (λ k. (s.kinds, refl, f)) (λ k p. tt) (λ k. ap (λ x. shape s.mode (N ∷ x) s.handlers) (vs_dropped n s.kinds))
  name_called (Some p) g n na m c s f = flows_as im (ap (λ x. shape s.mode (N ∷ x) s.handlers) (vs_dropped n s.kinds)) (flows_one im (op.PrimN p n) (at_most_fits p n m, tt) (s.kinds, refl, f) (λ q. tt))

  -- ---- expressions

  -- after both operands
  pub after_both : {s : Shape} {a b c : Part} (k : OperandKind) → Flows im s (push V s) a → Flows im (push V s) (push k (push V s)) b → Flows im (push k (push V s)) (push V s) c → Flows im s (push V s) (a >> b >> c)
  after_both {s} {a} {b} {c} k x y z = flows_join im x (flows_join im y z)

  mutual
    pub value_flows : (e : Expr) → Fit e → (s : Shape) → Floors s → Flows im s (push V s) (value e)
    value_flows (Name x) n s f = flows_join im (var_flows x n s f) (fetch_flows s f)
    value_flows (Integer z) n s f = int_flows z n s f
    value_flows (Literal x) n s f = str_flows x s f
    value_flows (Keyword x) (k, e) s f = keyget_flows (key_named x) k e s f
    value_flows (Call g args) (n, m, c, a) s f = flows_join im (arguments_flow args a s f) (value_called (prim_named g) g (count args) n m c s f)
    value_flows (Reference x args) (n, c, a) s f =
        flows_join im (var_flows x n s f) (flows_join im (fetch_flows s f) (flows_join im (flows_as im (more_pushed (count args) s) (arguments_flow args a (push V s) (up V s f)))
        (flows_join im (elem_flows (count args) c s f) (fetch_flows s f))))
    value_flows (Apply u.NameOf e) (t, g) s f = flows_join im (name_flows e t g s f) (unary_flows op.NameV N V refl tt (λ x. refl) (λ p x. tt) (λ x. refl) s f)
    value_flows (Apply u.Indirect e) (t, g) s f = flows_join im (value_flows e g s f) (flows_join im (unary_flows op.Indir V N refl tt (λ x. refl) (λ p x. tt) (λ x. refl) s f) (fetch_flows s f))
    value_flows (Apply u.Unevaluated e) (t, g) s f = flows_later im e f
    value_flows (Apply u.Cursor e) (t, g) s f = flows_join im (name_flows e t g s f) (unary_flows op.Cursor N V refl tt (λ x. refl) (λ p x. tt) (λ x. refl) s f)
    value_flows (Apply u.Plus e) (t, g) s f = flows_join im (value_flows e g s f) (unary_flows (op.Sign sign.Plus) V V refl tt (λ x. refl) (λ p x. tt) (λ x. refl) s f)
    value_flows (Apply u.Minus e) (t, g) s f = flows_join im (value_flows e g s f) (unary_flows (op.Sign sign.Minus) V V refl tt (λ x. refl) (λ p x. tt) (λ x. refl) s f)
    value_flows (Apply u.Interrogate e) (t, g) s f = flows_join im (value_flows e g s f) (flows_join im (drop_flows s f) (null_flows s f))
    value_flows (Apply u.Negate e) (t, g) s f = flows_try im (value e >> one op.Drop >> one op.Untry >> one op.Fail) f (λ x.
        flows_join im (value_flows e g (tried x s) (tried_floors x s)) (flows_join im (drop_flows (tried x s) (tried_floors x s)) (flows_join im (untry_flows x s) (fail_flows s f))))
    value_flows (Combine b.Conditional x y) (t, g, h) s f = after_both N (value_flows x g s f) (name_flows y t h (push V s) (up V s f)) (binary_flows op.Cond N refl tt (λ x. refl) (λ p x. tt) (λ x. refl) s f)
    value_flows (Combine b.Immediate x y) (t, g, h) s f = after_both N (value_flows x g s f) (name_flows y t h (push V s) (up V s f)) (binary_flows op.Imm N refl tt (λ x. refl) (λ p x. tt) (λ x. refl) s f)
    value_flows (Combine b.Power x y) (t, g, h) s f = after_both V (value_flows x g s f) (value_flows y h (push V s) (up V s f)) (binary_flows (op.Arith arith.Power) V refl tt (λ x. refl) (λ p x. tt) (λ x. refl) s f)
    value_flows (Combine b.Multiply x y) (t, g, h) s f = after_both V (value_flows x g s f) (value_flows y h (push V s) (up V s f)) (binary_flows (op.Arith arith.Multiply) V refl tt (λ x. refl) (λ p x. tt) (λ x. refl) s f)
    value_flows (Combine b.Divide x y) (t, g, h) s f = after_both V (value_flows x g s f) (value_flows y h (push V s) (up V s f)) (binary_flows (op.Arith arith.Divide) V refl tt (λ x. refl) (λ p x. tt) (λ x. refl) s f)
    value_flows (Combine b.Add x y) (t, g, h) s f = after_both V (value_flows x g s f) (value_flows y h (push V s) (up V s f)) (binary_flows (op.Arith arith.Add) V refl tt (λ x. refl) (λ p x. tt) (λ x. refl) s f)
    value_flows (Combine b.Subtract x y) (t, g, h) s f = after_both V (value_flows x g s f) (value_flows y h (push V s) (up V s f)) (binary_flows (op.Arith arith.Subtract) V refl tt (λ x. refl) (λ p x. tt) (λ x. refl) s f)
    value_flows (Combine b.Concatenate x y) (t, g, h) s f = after_both V (value_flows x g s f) (value_flows y h (push V s) (up V s f)) (binary_flows op.Cat V refl tt (λ x. refl) (λ p x. tt) (λ x. refl) s f)
    value_flows (Combine b.Alternate x y) (t, g, h) s f = after_both V (value_flows x g s f) (value_flows y h (push V s) (up V s f)) (binary_flows op.Alt V refl tt (λ x. refl) (λ p x. tt) (λ x. refl) s f)

    pub name_flows : (e : Expr) → is_target e ≡ true → Fit e → (s : Shape) → Floors s → Flows im s (push N s) (name e)
    name_flows (Name x) t n s f = var_flows x n s f
    name_flows (Apply u.Indirect e) t (o, g) s f = flows_join im (value_flows e g s f) (unary_flows op.Indir V N refl tt (λ x. refl) (λ p x. tt) (λ x. refl) s f)
    name_flows (Reference x args) t (n, c, a) s f =
        flows_join im (var_flows x n s f) (flows_join im (fetch_flows s f) (flows_join im (flows_as im (more_pushed (count args) s) (arguments_flow args a (push V s) (up V s f))) (elem_flows (count args) c s f)))
    name_flows (Call g args) t (n, m, c, a) s f = flows_join im (arguments_flow args a s f) (name_called (prim_named g) g (count args) n m c s f)
    name_flows _ t n s f = absurd (cc)

    pub arguments_flow : (args : Args) → FitArgs args → (s : Shape) → Floors s → Flows im s (pushes (count args) s) (arguments args)
    arguments_flow Nil a s f = flows_nothing im
    arguments_flow (More Absent args) a s f = flows_as im (more_pushed (count args) s) (flows_join im (null_flows s f) (arguments_flow args a (push V s) (up V s f)))
    arguments_flow (More (Given e) args) (g, a) s f = flows_as im (more_pushed (count args) s) (flows_join im (value_flows e g s f) (arguments_flow args a (push V s) (up V s f)))
