-- Code of each construct, from that of its parts.
use Rattle.std.proofs.Common.{◌≡◌, ℕ, ◌+◌, List, ◌++◌, length, refl, sym, ap, ◌∙◌, subst, arith, Bool, true, false, append_assoc, Option, Some, None, if◌then◌else◌, length-append, ℤ, ◌⊎◌, inl, inr, Vec, Box, Global}
use Rattle.model.specs.declared.instr.Instr.{Instr}
use Rattle.model.specs.declared.instr.Instr.TheVariants as op
use Rattle.model.specs.declared.keys.KeyId.{KeyId}
use Rattle.model.specs.declared.primitives.PrimId.{PrimId}
use Rattle.model.specs.declared.trees.Binary.{Binary}
use Rattle.model.specs.declared.trees.Binary.TheVariants as b
use Rattle.model.specs.Language.Names.{prim_named}
use Rattle.model.specs.Module.Images.{code_size}
use Rattle.model.specs.Module.Spelling.{code_bytes}
use Rattle.model.specs.declared.trees.Expr.{Expr as Tree}
use Rattle.model.specs.declared.trees.Expr.TheVariants as e
use Rattle.model.specs.declared.trees.Unary.{Unary}
use Rattle.model.specs.declared.trees.Unary.TheVariants as u
use Rattle.model.specs.Deck.Trees.{Bytes, Expr, Apply, Combine}
use Rattle.model.specs.Deck.TreeViews.{expr_of}
use Rattle.model.proofs.Module.CodeBytes.{total_append}
use Rattle.expr_codegen.specs.Code.{Part, nothing, one, with_key, call, ◌>>◌, value, name}
use Rattle.expr_codegen.specs.Texts.{with_texts}
use Rattle.expr_codegen.specs.Emitting.{Gen, Emits, Numbered, with_instr}
use Rattle.expr_codegen.specs.Views.{takes_target, instr_of, wanted, call_of}
use Rattle.expr_codegen.proofs.Joins.{instr, text, nothing_put}

-- ---- the same of equal parts
pub as_part : {p q : Part} {g h : Gen} → Emits p g h → p ≡ q → Emits q g h
as_part {p} {q} {g} {h} x e = subst (λ p. Emits p g h) e x

-- ---- parts that differ in how they are grouped

record Same (p q : Part) : Type 0 where
  code : (texts : List Bytes) (k at : ℕ) → p.code texts k at ≡ q.code texts k at
  texts : p.texts ≡ q.texts
  later : p.later ≡ q.later

as_same : {g h : Gen} (p q : Part) → Same p q → Emits p g h → Emits q g h
as_same {g} {h} p q s x = record {
  code = λ texts l. x.code texts l ∙ ap (λ c. g.code ++ code_bytes c) (s.code texts (length g.waiting) (length g.code));
  texts = x.texts ∙ ap (λ t. with_texts t g.texts) s.texts;
  waiting = x.waiting ∙ ap (λ w. g.waiting ++ w) s.later;
  taken = x.taken;
}

trans : (p q r : Part) → Same p q → Same q r → Same p r
trans p q r a b = record { code = λ texts k at. a.code texts k at ∙ b.code texts k at; texts = a.texts ∙ b.texts; later = a.later ∙ b.later }

behind : (a p q : Part) → Same p q → Same (a >> p) (a >> q)
unfolding ◌>>◌
behind a p q s = record {
  code = λ texts k at. ap (λ c. a.code texts k at ++ c) (s.code texts (k + length a.later) (at + code_size (a.code texts k at)));
  texts = ap (λ t. a.texts ++ t) s.texts;
  later = ap (λ w. a.later ++ w) s.later;
}

grouped : (a b c : Part) → Same ((a >> b) >> c) (a >> b >> c)
unfolding ◌>>◌
grouped a b c = record {
  code = λ texts k at.
      let u : List Instr = a.code texts k at in
      let v : List Instr = b.code texts (k + length a.later) (at + code_size u) in
      ap (λ n. (u ++ v) ++ c.code texts n (at + code_size (u ++ v))) (waits k a.later b.later)
      ∙ ap (λ n. (u ++ v) ++ c.code texts (k + length a.later + length b.later) n) (ap (λ n. at + n) (total_append u v) ∙ sum at (code_size u) (code_size v))
      ∙ append_assoc u v (c.code texts (k + length a.later + length b.later) (at + code_size u + code_size v));
  texts = append_assoc a.texts b.texts c.texts;
  later = append_assoc a.later b.later c.later;
}
  where
    sum : (a b c : ℕ) → a + (b + c) ≡ a + b + c
    sum a b c = omega arith

    waits : (k : ℕ) (xs ys : List Expr) → k + length (xs ++ ys) ≡ k + length xs + length ys
    waits k xs ys = ap (λ n. k + n) (length-append xs ys) ∙ sum k (length xs) (length ys)

pub last_of_five : {g h : Gen} (a b c d e : Part) → Emits ((a >> b >> c >> d) >> e) g h → Emits (a >> b >> c >> d >> e) g h
last_of_five a b c d e = as_same ((a >> b >> c >> d) >> e) (a >> b >> c >> d >> e)
    (trans ((a >> b >> c >> d) >> e) (a >> (b >> c >> d) >> e) (a >> b >> c >> d >> e) (grouped a (b >> c >> d) e)
    (behind a ((b >> c >> d) >> e) (b >> c >> d >> e) (trans ((b >> c >> d) >> e) (b >> (c >> d) >> e) (b >> c >> d >> e) (grouped b (c >> d) e) (behind b ((c >> d) >> e) (c >> d >> e) (grouped c d e)))))

-- ---- keywords and calls

pub key_put : (i : KeyId → Instr) (k : Option KeyId) (key : KeyId) (g h : Gen) → k ≡ Some key → h ≡ with_instr (i key) g → Emits (with_key i k) g h
key_put i k key g h e p = subst (λ k. Emits (with_key i k) g h) (sym e) (instr (i key) g h p)

pub no_key : (i : KeyId → Instr) (k : Option KeyId) (g h : Gen) → k ≡ None → h ≡ g → Emits (with_key i k) g h
no_key i k g h e p = subst (λ k. Emits (with_key i k) g h) (sym e) (subst (Emits nothing g) (sym p) (nothing_put g))

pub prim_put : (wants : Bool) (f : Bytes) (p : PrimId) (n : ℕ) (g h : Gen) → prim_named f ≡ Some p → h ≡ with_instr (if wants then op.PrimN p n else op.PrimV p n) g → Emits (call_of wants f n) g h
prim_put true f p n g h e q = subst (λ o. Emits (call op.PrimN op.CallN o f n) g h) (sym e) (instr (op.PrimN p n) g h q)
prim_put false f p n g h e q = subst (λ o. Emits (call op.PrimV op.CallV o f n) g h) (sym e) (instr (op.PrimV p n) g h q)

pub own_put : (wants : Bool) (f : Bytes) (n k : ℕ) (g h j : Gen) → prim_named f ≡ None → Numbered f k g h → j ≡ with_instr (if wants then op.CallN k n else op.CallV k n) h → Emits (call_of wants f n) g j
own_put true f n k g h j e s q = subst (λ o. Emits (call op.PrimN op.CallN o f n) g j) (sym e) (text (λ k. op.CallN k n) f k g h j s q)
own_put false f n k g h j e s q = subst (λ o. Emits (call op.PrimV op.CallV o f n) g j) (sym e) (text (λ k. op.CallV k n) f k g h j s q)

-- ---- operators

pub combined_is : (o : Binary) (x y : Expr) → value x >> wanted (takes_target o) y >> one (instr_of o) ≡ value (Combine o x y)
combined_is b.Conditional x y = refl
combined_is b.Immediate x y = refl
combined_is b.Power x y = refl
combined_is b.Multiply x y = refl
combined_is b.Divide x y = refl
combined_is b.Add x y = refl
combined_is b.Subtract x y = refl
combined_is b.Concatenate x y = refl
combined_is b.Alternate x y = refl

-- ---- the same at equal trees

pub value_of_tree : {g h : Gen} (d e : Tree) → d ≡ e → Emits (value (expr_of e)) g h → Emits (value (expr_of d)) g h
value_of_tree {g} {h} d e i x = subst (λ d. Emits (value (expr_of d)) g h) (sym i) x

pub name_of_tree : {g h : Gen} (d e : Tree) → d ≡ e → Emits (name (expr_of e)) g h → Emits (name (expr_of d)) g h
name_of_tree {g} {h} d e i x = subst (λ d. Emits (name (expr_of d)) g h) (sym i) x

pub value_as : {g h : Gen} (d e : Expr) → d ≡ e → Emits (value e) g h → Emits (value d) g h
value_as {g} {h} d e i x = subst (λ d. Emits (value d) g h) (sym i) x

pub name_as : {g h : Gen} (d e : Expr) → d ≡ e → Emits (name e) g h → Emits (name d) g h
name_as {g} {h} d e i x = subst (λ d. Emits (name d) g h) (sym i) x

pub value_of_op : {g h : Gen} (o p : Unary) (x : Expr) → o ≡ p → Emits (value (Apply p x)) g h → Emits (value (Apply o x)) g h
value_of_op {g} {h} o p x e m = subst (λ o. Emits (value (Apply o x)) g h) (sym e) m

pub name_of_op : {g h : Gen} (o p : Unary) (x : Expr) → o ≡ p → Emits (name (Apply p x)) g h → Emits (name (Apply o x)) g h
name_of_op {g} {h} o p x e m = subst (λ o. Emits (name (Apply o x)) g h) (sym e) m

pub no_name : (o : Unary) (x : Expr) → (o ≡ u.Indirect → ⊥) → nothing ≡ name (Apply o x)
no_name u.NameOf x h = refl
no_name u.Indirect x h = absurd (h refl)
no_name u.Unevaluated x h = refl
no_name u.Cursor x h = refl
no_name u.Plus x h = refl
no_name u.Minus x h = refl
no_name u.Interrogate x h = refl
no_name u.Negate x h = refl

pub no_target : {g : Gen} (d : Tree) → ((x : ℤ) × (d ≡ e.Integer x)) ⊎ (((x : Vec ℕ Global) × (d ≡ e.Literal x)) ⊎ (((x : Vec ℕ Global) × (d ≡ e.Keyword x)) ⊎ ((o : Binary) × (x : Box Tree Global) × (y : Box Tree Global) × (d ≡ e.Binary o x y))))
    → Emits (name (expr_of d)) g g
no_target {g} d (inl (x, i)) = name_of_tree d (e.Integer x) i (nothing_put g)
no_target {g} d (inr (inl (x, i))) = name_of_tree d (e.Literal x) i (nothing_put g)
no_target {g} d (inr (inr (inl (x, i)))) = name_of_tree d (e.Keyword x) i (nothing_put g)
no_target {g} d (inr (inr (inr (o, x, y, i)))) = name_of_tree d (e.Binary o x y) i (nothing_put g)
