-- What is unevaluated in a tree: it is lighter than the tree, and as countable.
use Rattle.std.proofs.Common.{◌≡◌, ℕ, suc, ◌+◌, ◌≤◌, List, [], ◌∷◌, ◌++◌, subst, arith, Option, Some, None, Bool, true, false}
use Rattle.std.specs.List.{AllByRecursion}
use Rattle.model.specs.declared.instr.Instr.{Instr}
use Rattle.model.specs.declared.instr.Instr.TheVariants as op
use Rattle.model.specs.declared.keys.KeyId.{KeyId}
use Rattle.model.specs.declared.primitives.PrimId.{PrimId}
use Rattle.model.specs.declared.trees.Unary.TheVariants as u
use Rattle.model.specs.Deck.Faults.{count}
use Rattle.model.specs.Language.Calls.{return_of}
use Rattle.model.specs.Language.Meaning.{key_target}
use Rattle.model.specs.Language.Names.{key_named, prim_named}
use Rattle.model.specs.Deck.Trees.{Bytes, Expr, Name, Integer, Literal, Keyword, Call, Reference, Apply, Combine, Args, Nil, More, Absent, Given, Place, Label, Computed, Goto, Next, Always, OnSuccess, OnFailure, Both, Body, Nothing, Evaluate, Match, Assign, Replace, Stmt, Plain, End}
use Rattle.model.specs.Deck.Weights as weights
use Rattle.model.specs.Deck.Weights.{of_name, of_expr, of_args, of_place, of_goto, of_object, of_body, weight}
use Rattle.expr_codegen.specs.Code.{Part, nothing, one, with_string, unevaluated, ◌>>◌, handled, call, with_key, value, name, arguments}
use Rattle.expr_codegen.specs.Emitting.{Countable, AllCountable}
use Rattle.expr_codegen.specs.Views.{takes_target, instr_of, wanted}
use Rattle.expr_codegen.proofs.Arguments.{name_weighs}
use Rattle.expr_codegen.proofs.Constructs.{combined_is}
use Rattle.codegen.specs.Countable.{CountableObject, CountableBody, CountablePlace, CountableGoto, CountableStmt}
use Rattle.codegen.specs.Layout as layout

pub weigh_join : (xs ys : List Expr) → weights.total of_expr (xs ++ ys) ≡ weights.total of_expr xs + weights.total of_expr ys
weigh_join [] ys = omega arith
weigh_join (x ∷ xs) ys = let h = weigh_join xs ys in omega (arith, h)

pub all_join : (xs ys : List Expr) → AllByRecursion Countable xs → AllByRecursion Countable ys → AllByRecursion Countable (xs ++ ys)
all_join [] ys a b = b
all_join (x ∷ xs) ys (c, a) b = (c, all_join xs ys a b)

pub record Later (n : ℕ) (p : Part) : Type 0 where
  pub weight : weights.total of_expr p.later ≤ n
  pub countable : AllByRecursion Countable p.later

more : {m n : ℕ} {p : Part} → Later m p → m ≤ n → Later n p
more {m} {n} {p} a h = record { weight = (let w = a.weight in omega (arith, w, h)); countable = a.countable }

no_part : Later 0 nothing
unfolding nothing
no_part = record { weight = omega arith; countable = tt }

an_instr : (i : Instr) → Later 0 (one i)
unfolding one
an_instr i = record { weight = omega arith; countable = tt }

a_string : (i : ℕ → Instr) (s : Bytes) → Later 0 (with_string i s)
unfolding with_string
a_string i s = record { weight = omega arith; countable = tt }

an_expr : (e : Expr) → Countable e → Later (of_expr e) (unevaluated e)
unfolding unevaluated
an_expr e h = record { weight = omega arith; countable = (h, tt) }

then : {m n : ℕ} {a b : Part} → Later m a → Later n b → Later (m + n) (a >> b)
unfolding ◌>>◌
then {m} {n} {a} {b} x y = record { weight = (let w = weigh_join a.later b.later in let v = x.weight in let z = y.weight in omega (arith, w, v, z)); countable = all_join a.later b.later x.countable y.countable }

within : {m n : ℕ} {a b : Part} (i : ℕ → Instr) → Later m a → Later n b → Later (m + n) (handled i a b)
unfolding handled ◌>>◌
within {m} {n} {a} {b} i x y = record { weight = (let w = weigh_join a.later b.later in let v = x.weight in let z = y.weight in omega (arith, w, v, z)); countable = all_join a.later b.later x.countable y.countable }

a_key : (i : KeyId → Instr) (k : Option KeyId) → Later 0 (with_key i k)
a_key i None = no_part
a_key i (Some k) = an_instr (i k)

a_call : (prim : PrimId → ℕ → Instr) (own : ℕ → ℕ → Instr) (p : Option PrimId) (f : Bytes) (n : ℕ) → Later 0 (call prim own p f n)
a_call prim own None f n = a_string (λ k. own k n) f
a_call prim own (Some p) f n = an_instr (prim p n)

wanted_later : (e : Expr) (b : Bool) → (m : ℕ) × Later m (name e) × (m + 1 ≤ of_expr e) → (m : ℕ) × Later m (value e) × (m + 1 ≤ of_expr e) → (m : ℕ) × Later m (wanted b e) × (m + 1 ≤ of_expr e)
wanted_later e true x y = x
wanted_later e false x y = y

mutual
  pub value_later : (e : Expr) → Countable e → (m : ℕ) × Later m (value e) × (m + 1 ≤ of_expr e)
  value_later (Name x) h = (0, then (a_string op.Var x) (an_instr op.Fetch), (let w = name_weighs x in omega (arith, w)))
  value_later (Integer z) h = (0, an_instr (op.Int z), omega arith)
  value_later (Literal s) h = (0, a_string op.Str s, omega arith)
  value_later (Keyword s) h = (0, a_key op.KeyGet (key_named s), omega arith)
  value_later (Call f args) h = let w = name_weighs f in (of_args args, more (then (arguments_later args h.1) (a_call op.PrimV op.CallV (prim_named f) f (count args))) (omega arith), omega (arith, w))
  value_later (Reference x args) h = let w = name_weighs x in
      (of_args args, more (then (a_string op.Var x) (then (an_instr op.Fetch) (then (arguments_later args h.1) (then (an_instr (op.Elem (count args))) (an_instr op.Fetch))))) (omega arith), omega (arith, w))
  value_later (Apply u.NameOf e) h = let a = name_later e h in (a.0, more (then a.1 (an_instr _)) (omega arith), (let w = a.2 in omega (arith, w)))
  value_later (Apply u.Indirect e) h = let a = value_later e h in (a.0, more (then a.1 (then (an_instr _) (an_instr _))) (omega arith), (let w = a.2 in omega (arith, w)))
  value_later (Apply u.Unevaluated e) h = (of_expr e, an_expr e h, omega arith)
  value_later (Apply u.Cursor e) h = let a = name_later e h in (a.0, more (then a.1 (an_instr _)) (omega arith), (let w = a.2 in omega (arith, w)))
  value_later (Apply u.Plus e) h = let a = value_later e h in (a.0, more (then a.1 (an_instr _)) (omega arith), (let w = a.2 in omega (arith, w)))
  value_later (Apply u.Minus e) h = let a = value_later e h in (a.0, more (then a.1 (an_instr _)) (omega arith), (let w = a.2 in omega (arith, w)))
  value_later (Apply u.Interrogate e) h = let a = value_later e h in (a.0, more (then a.1 (then (an_instr _) (an_instr _))) (omega arith), (let w = a.2 in omega (arith, w)))
  value_later (Apply u.Negate e) h = let a = value_later e h in (a.0, more (within op.Try (then a.1 (then (an_instr _) (then (an_instr _) (an_instr _)))) (an_instr _)) (omega arith), (let w = a.2 in omega (arith, w)))
  value_later (Combine o x y) h =
      let a = value_later x h.0 in
      let b = wanted_later y (takes_target o) (name_later y h.1) (value_later y h.1) in
      (a.0 + b.0, more (subst (Later (a.0 + (b.0 + 0))) (combined_is o x y) (then a.1 (then b.1 (an_instr (instr_of o))))) (omega arith), (let v = a.2 in let w = b.2 in omega (arith, v, w)))

  pub name_later : (e : Expr) → Countable e → (m : ℕ) × Later m (name e) × (m + 1 ≤ of_expr e)
  name_later (Name x) h = (0, a_string op.Var x, (let w = name_weighs x in omega (arith, w)))
  name_later (Apply u.Indirect e) h = let a = value_later e h in (a.0, more (then a.1 (an_instr _)) (omega arith), (let w = a.2 in omega (arith, w)))
  name_later (Reference x args) h = let w = name_weighs x in
      (of_args args, more (then (a_string op.Var x) (then (an_instr op.Fetch) (then (arguments_later args h.1) (an_instr (op.Elem (count args)))))) (omega arith), omega (arith, w))
  name_later (Call f args) h = let w = name_weighs f in (of_args args, more (then (arguments_later args h.1) (a_call op.PrimN op.CallN (prim_named f) f (count args))) (omega arith), omega (arith, w))
  name_later (Integer z) h = (0, no_part, omega arith)
  name_later (Literal s) h = (0, no_part, omega arith)
  name_later (Keyword s) h = (0, no_part, omega arith)
  name_later (Apply u.NameOf e) h = (0, no_part, omega arith)
  name_later (Apply u.Unevaluated e) h = (0, no_part, omega arith)
  name_later (Apply u.Cursor e) h = (0, no_part, omega arith)
  name_later (Apply u.Plus e) h = (0, no_part, omega arith)
  name_later (Apply u.Minus e) h = (0, no_part, omega arith)
  name_later (Apply u.Interrogate e) h = (0, no_part, omega arith)
  name_later (Apply u.Negate e) h = (0, no_part, omega arith)
  name_later (Combine o x y) h = (0, no_part, omega arith)

  arguments_later : (args : Args) → AllCountable args → Later (of_args args) (arguments args)
  arguments_later Nil h = no_part
  arguments_later (More Absent args) h = more (then (an_instr op.Null) (arguments_later args h)) (omega arith)
  arguments_later (More (Given e) args) h = let a = value_later e h.0 in let w = a.2 in more (then a.1 (arguments_later args h.1)) (omega (arith, w))

pub expression_later : (e : Expr) → Countable e → (m : ℕ) × Later m (layout.expression e) × (m + 1 ≤ of_expr e)
expression_later e h = let a = value_later e h in let w = a.2 in (a.0, more (then a.1 (an_instr op.Ret)) (omega arith), omega (arith, w))

-- ---- statements

as_later : (e : Expr) → Countable e → Later (of_expr e) (value e)
as_later e h = let a = value_later e h in let w = a.2 in more a.1 (omega (arith, w))

as_name : (e : Expr) → Countable e → Later (of_expr e) (name e)
as_name e h = let a = name_later e h in let w = a.2 in more a.1 (omega (arith, w))

object_later : (o : Option Expr) → CountableObject o → Later (of_object o) (layout.object o)
object_later None h = an_instr op.Null
object_later (Some e) h = more (as_later e h) (omega arith)

assignment_later : (k : Option Bytes) (x : Expr) (o : Option Expr) → Countable x → CountableObject o → Later (of_expr x + of_object o) (layout.assignment k x o)
assignment_later None x o h i = more (then (as_name x h) (then (object_later o i) (an_instr op.Assign))) (omega arith)
assignment_later (Some k) x o h i = more (then (object_later o i) (a_key op.KeySet (key_named k))) (omega arith)

body_later : (b : Body) → CountableBody b → Later (of_body b) (layout.body b)
body_later Nothing h = no_part
body_later (Evaluate e) h = more (then (as_later e h) (an_instr op.Drop)) (omega arith)
body_later (Match e f) h = more (then (as_later e h.0) (then (as_later f h.1) (an_instr op.Match))) (omega arith)
body_later (Assign x o) h = more (assignment_later (key_target x) x o h.0 h.1) (omega arith)
body_later (Replace x f o) h = more (then (as_name x h.0) (then (an_instr op.FetchK) (then (as_later f h.1) (then (an_instr op.MatchR) (then (object_later o h.2) (an_instr op.Splice)))))) (omega arith)

module _ (number_of : Bytes → Option ℕ) where
  place_later : (p : Place) → CountablePlace p → Later (of_place p) (layout.place number_of p)
  place_later (Label l) h = more (an_instr (layout.goto_label (return_of l) (number_of l))) (omega arith)
  place_later (Computed e) h = more (then (as_later e h) (an_instr op.GotoV)) (omega arith)

  goto_later : (n : ℕ) (g : Goto) → CountableGoto g → (j : ℕ) × (k : ℕ) × Later j (layout.after_success number_of n g) × Later k (layout.after_failure number_of g) × (j + k ≤ of_goto g)
  goto_later n Next h = (0, 0, no_part, no_part, omega arith)
  goto_later n (Always p) h = (0, of_place p, no_part, place_later p h, omega arith)
  goto_later n (OnSuccess p) h = (of_place p, 0, place_later p h, no_part, omega arith)
  goto_later n (OnFailure p) h = (0, of_place p, an_instr (op.Goto (suc n)), place_later p h, omega arith)
  goto_later n (Both p q) h = (of_place p, of_place q, place_later p h.0, place_later q h.1, omega arith)

  statement_later : (n : ℕ) (s : Stmt) → CountableStmt s → Later (weight s) (layout.statement number_of n s)
  statement_later n (Plain l b g) h =
      let a = goto_later n g h.1 in
      let w = a.4 in
      more (within op.Begin (then (body_later b h.0) (then (an_instr op.Body) a.2)) a.3) (omega (arith, w))
  statement_later n (End entry) h = more (an_instr op.End) (omega arith)

  pub statements_later : (n : ℕ) (ss : List Stmt) → AllByRecursion CountableStmt ss → Later (weights.total weight ss) (layout.joined_parts (layout.statements number_of n ss))
  statements_later n [] h = no_part
  statements_later n (s ∷ ss) h = then (statement_later n s h.0) (statements_later (suc n) ss h.1)
