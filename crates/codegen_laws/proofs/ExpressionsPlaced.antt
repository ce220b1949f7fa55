-- The code of expressions means them, wherever it stands.
use Rattle.std.proofs.Common.{◌≡◌, ℕ, List, refl, sym, subst, true, Some, None, Option, slice_get}
use Rattle.model.specs.declared.instr.Instr.{Instr}
use Rattle.model.specs.declared.instr.Instr.TheVariants as op
use Rattle.model.specs.declared.instr.ArithOp.TheVariants as arith
use Rattle.model.specs.declared.instr.SignOp.TheVariants as sign
use Rattle.model.specs.declared.keys.KeyId.{KeyId}
use Rattle.model.specs.declared.primitives.PrimId.{PrimId}
use Rattle.model.specs.declared.trees.Unary.TheVariants as u
use Rattle.model.specs.declared.trees.Binary.TheVariants as b
use Rattle.model.specs.Deck.Faults.{count, is_target}
use Rattle.model.specs.Machine.Steps.{Module}
use Rattle.model.specs.Language.Names.{key_named, prim_named}
use Rattle.model.specs.Module.Placed.{CodeV, CodeN, CodeA, CallAt, KeyAt, Is}
use Rattle.model.specs.Language.Programs.{Program}
use Rattle.model.specs.Deck.Trees.{Bytes, Expr, Name, Integer, Literal, Keyword, Call, Reference, Apply, Combine, Args, Nil, More, Absent, Given}
use Rattle.expr_codegen.specs.Code.{Part, one, call, with_key, value, name, arguments}
use Rattle.codegen_laws.specs.Fit.{Fit, FitArgs}
use Rattle.codegen_laws.proofs.Standing.{Means, means_nothing, means_one, means_string, means_later, means_join, means_join3, means_handled, means_as}

module _ (prog : Program) (img : Module) (texts : List Bytes) (strings : (k : ℕ) → img.string k ≡ slice_get texts k) (trees_at : ℕ → Option Expr) where
  abbrev Part_means : (ℕ → ℕ → Type 0) → Part → Type 0
  Part_means C a = Means img texts strings trees_at C a

  one_is : (i : Instr) → Part_means (λ p q. Is prog img trees_at p i q) (one i)
  one_is i = means_one img texts strings trees_at i

  call_placed : (prim : PrimId → ℕ → Instr) (own : ℕ → ℕ → Instr) (o : Option PrimId) (f : Bytes) (n : ℕ) → Part_means (CallAt prog img trees_at prim own o f n) (call prim own o f n)
  call_placed prim own None f n = means_string img texts strings trees_at (λ k. own k n) f
  call_placed prim own (Some x) f n = one_is (prim x n)

  pub key_placed : (i : KeyId → Instr) (o : Option KeyId) (k : KeyId) → o ≡ Some k → Part_means (KeyAt prog img trees_at i o) (with_key i o)
  key_placed i o k e = subst (λ x. Part_means (KeyAt prog img trees_at i x) (with_key i x)) (sym e) (one_is (i k))

  mutual
    pub value_placed : (e : Expr) → Fit e → Part_means (CodeV prog img trees_at e) (value e)
    value_placed (Name x) f = means_join img texts strings trees_at (means_string img texts strings trees_at op.Var x) (one_is op.Fetch)
    value_placed (Integer z) f = one_is (op.Int z)
    value_placed (Literal s) f = means_string img texts strings trees_at op.Str s
    value_placed (Keyword s) (k, e) = key_placed op.KeyGet (key_named s) k e
    value_placed (Call g args) (n, m, c, f) = means_as img texts strings trees_at (λ p q (r, x, y). (r, count args, x, y))
        (means_join img texts strings trees_at (arguments_placed args f) (call_placed op.PrimV op.CallV (prim_named g) g (count args)))
    value_placed (Reference x args) (n, c, f) = means_as img texts strings trees_at (λ p q (r, h, (s, i, (t, j, (v, k, l)))). (r, s, t, v, count args, h, i, j, k, l))
        (means_join img texts strings trees_at (means_string img texts strings trees_at op.Var x) (means_join img texts strings trees_at (one_is op.Fetch)
        (means_join img texts strings trees_at (arguments_placed args f) (means_join img texts strings trees_at (one_is (op.Elem (count args))) (one_is op.Fetch)))))
    value_placed (Apply u.NameOf e) (t, f) = means_join img texts strings trees_at (name_placed e t f) (one_is op.NameV)
    value_placed (Apply u.Indirect e) (t, f) = means_join3 img texts strings trees_at (value_placed e f) (one_is op.Indir) (one_is op.Fetch)
    value_placed (Apply u.Unevaluated e) (t, f) = means_later img texts strings trees_at e
    value_placed (Apply u.Cursor e) (t, f) = means_join img texts strings trees_at (name_placed e t f) (one_is op.Cursor)
    value_placed (Apply u.Plus e) (t, f) = means_join img texts strings trees_at (value_placed e f) (one_is (op.Sign sign.Plus))
    value_placed (Apply u.Minus e) (t, f) = means_join img texts strings trees_at (value_placed e f) (one_is (op.Sign sign.Minus))
    value_placed (Apply u.Interrogate e) (t, f) = means_join3 img texts strings trees_at (value_placed e f) (one_is op.Drop) (one_is op.Null)
    value_placed (Apply u.Negate e) (t, f) = means_as img texts strings trees_at (λ p q (t1, r, i, (s, v, (x, d, (y, c, h))), w). (r, s, t1, x, y, t1, i, v, d, c, h, w))
        (means_handled img texts strings trees_at op.Try (λ x. refl)
        (means_join img texts strings trees_at (value_placed e f) (means_join img texts strings trees_at (one_is op.Drop) (means_join img texts strings trees_at (one_is op.Untry) (one_is op.Fail)))) (one_is op.Null))
    value_placed (Combine b.Conditional x y) (t, f, g) = means_join3 img texts strings trees_at (value_placed x f) (name_placed y t g) (one_is op.Cond)
    value_placed (Combine b.Immediate x y) (t, f, g) = means_join3 img texts strings trees_at (value_placed x f) (name_placed y t g) (one_is op.Imm)
    value_placed (Combine b.Power x y) (t, f, g) = means_join3 img texts strings trees_at (value_placed x f) (value_placed y g) (one_is (op.Arith arith.Power))
    value_placed (Combine b.Multiply x y) (t, f, g) = means_join3 img texts strings trees_at (value_placed x f) (value_placed y g) (one_is (op.Arith arith.Multiply))
    value_placed (Combine b.Divide x y) (t, f, g) = means_join3 img texts strings trees_at (value_placed x f) (value_placed y g) (one_is (op.Arith arith.Divide))
    value_placed (Combine b.Add x y) (t, f, g) = means_join3 img texts strings trees_at (value_placed x f) (value_placed y g) (one_is (op.Arith arith.Add))
    value_placed (Combine b.Subtract x y) (t, f, g) = means_join3 img texts strings trees_at (value_placed x f) (value_placed y g) (one_is (op.Arith arith.Subtract))
    value_placed (Combine b.Concatenate x y) (t, f, g) = means_join3 img texts strings trees_at (value_placed x f) (value_placed y g) (one_is op.Cat)
    value_placed (Combine b.Alternate x y) (t, f, g) = means_join3 img texts strings trees_at (value_placed x f) (value_placed y g) (one_is op.Alt)

    pub name_placed : (e : Expr) → is_target e ≡ true → Fit e → Part_means (CodeN prog img trees_at e) (name e)
    name_placed (Name x) t f = means_string img texts strings trees_at op.Var x
    name_placed (Apply u.Indirect e) t (o, f) = means_join img texts strings trees_at (value_placed e f) (one_is op.Indir)
    name_placed (Reference x args) t (n, c, f) = means_as img texts strings trees_at (λ p q (r, h, (s, i, (v, j, l))). (r, s, v, count args, h, i, j, l))
        (means_join img texts strings trees_at (means_string img texts strings trees_at op.Var x) (means_join img texts strings trees_at (one_is op.Fetch)
        (means_join img texts strings trees_at (arguments_placed args f) (one_is (op.Elem (count args))))))
    name_placed (Call g args) t (n, m, c, f) = means_as img texts strings trees_at (λ p q (r, x, y). (r, count args, x, y))
        (means_join img texts strings trees_at (arguments_placed args f) (call_placed op.PrimN op.CallN (prim_named g) g (count args)))
    name_placed _ t f = absurd (cc)

    pub arguments_placed : (args : Args) → FitArgs args → Part_means (CodeA prog img trees_at args (count args)) (arguments args)
    arguments_placed Nil f = means_nothing img texts strings trees_at (λ p. (refl, refl))
    arguments_placed (More Absent args) f = means_as img texts strings trees_at (λ p q (r, x, y). (r, count args, x, y, refl)) (means_join img texts strings trees_at (one_is op.Null) (arguments_placed args f))
    arguments_placed (More (Given e) args) (f, g) = means_as img texts strings trees_at (λ p q (r, x, y). (r, count args, x, y, refl)) (means_join img texts strings trees_at (value_placed e f) (arguments_placed args g))
