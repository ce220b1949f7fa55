-- Each unevaluated expression of a program is written, and its trees are those of the accepted statements.
use Rattle.std.proofs.Common.{ℕ, zero, suc, List, [], ◌∷◌, ◌++◌, Some, None, Option}
use Rattle.std.specs.List.{AllByRecursion}
use Rattle.model.specs.declared.instr.Instr.{Instr}
use Rattle.model.specs.declared.instr.Instr.TheVariants as op
use Rattle.model.specs.declared.keys.KeyId.{KeyId}
use Rattle.model.specs.declared.primitives.PrimId.{PrimId}
use Rattle.model.specs.declared.trees.Unary.TheVariants as u
use Rattle.model.specs.declared.trees.Binary.TheVariants as b
use Rattle.model.specs.Deck.Faults.{count}
use Rattle.model.specs.Language.Meaning.{key_target}
use Rattle.model.specs.Language.Names.{key_named, prim_named}
use Rattle.model.specs.Deck.Trees.{Bytes, Expr, Name, Integer, Literal, Keyword, Call, Reference, Apply, Combine, Args, Nil, More, Absent, Given, Place, Label, Computed, Goto, Next, Always, OnSuccess, OnFailure, Both, Body, Nothing, Evaluate, Match, Assign, Replace, Stmt, Plain, End}
use Rattle.expr_codegen.specs.Code.{Part, nothing, one, with_string, unevaluated, ◌>>◌, handled, call, with_key, value, name, arguments}
use Rattle.codegen.specs.Layout.{object, assignment, body, place, after_success, after_failure, statement, statements, expression, expressions, joined_parts}
use Rattle.codegen_laws.proofs.Standing.{all_join}
use Rattle.codegen_laws.specs.Fit.{Fit, FitArgs, FitObject, FitBody, FitPlace, FitGoto, FitStmt}

-- each unevaluated expression of the part is fit
abbrev pub FitLater : Part → Type 0
FitLater a = AllByRecursion Fit a.later

later_nothing : FitLater nothing
unfolding nothing
later_nothing = tt

later_one : (i : Instr) → FitLater (one i)
unfolding one
later_one i = tt

later_string : (i : ℕ → Instr) (t : Bytes) → FitLater (with_string i t)
unfolding with_string
later_string i t = tt

later_unevaluated : (e : Expr) → Fit e → FitLater (unevaluated e)
unfolding unevaluated
later_unevaluated e f = (f, tt)

later_join : (a b : Part) → FitLater a → FitLater b → FitLater (a >> b)
unfolding ◌>>◌
later_join a b f g = all_join Fit a.later b.later f g

later_handled : (i : ℕ → Instr) (a b : Part) → FitLater a → FitLater b → FitLater (handled i a b)
unfolding ◌>>◌ handled
later_handled i a b f g = all_join Fit a.later b.later f g

later_key : (i : KeyId → Instr) (o : Option KeyId) → FitLater (with_key i o)
later_key i None = later_nothing
later_key i (Some k) = later_one (i k)

later_call : (prim : PrimId → ℕ → Instr) (own : ℕ → ℕ → Instr) (o : Option PrimId) (f : Bytes) (n : ℕ) → FitLater (call prim own o f n)
later_call prim own None f n = later_string (λ k. own k n) f
later_call prim own (Some p) f n = later_one (prim p n)

with_one : (a : Part) (i : Instr) → FitLater a → FitLater (a >> one i)
with_one a i f = later_join a (one i) f (later_one i)

with_two : (a : Part) (i j : Instr) → FitLater a → FitLater (a >> one i >> one j)
with_two a i j f = later_join a (one i >> one j) f (with_one (one i) j (later_one i))

of_both : (a b : Part) (i : Instr) → FitLater a → FitLater b → FitLater (a >> b >> one i)
of_both a b i f g = later_join a (b >> one i) f (with_one b i g)

mutual
  pub later_value : (e : Expr) → Fit e → FitLater (value e)
  later_value (Name x) f = with_one (with_string op.Var x) op.Fetch (later_string op.Var x)
  later_value (Integer z) f = later_one (op.Int z)
  later_value (Literal s) f = later_string op.Str s
  later_value (Keyword s) f = later_key op.KeyGet (key_named s)
  later_value (Call g args) (n, m, c, f) = later_join (arguments args) (call op.PrimV op.CallV (prim_named g) g (count args)) (later_arguments args f) (later_call op.PrimV op.CallV (prim_named g) g (count args))
  later_value (Reference x args) (n, c, f) =
      later_join (with_string op.Var x) (one op.Fetch >> arguments args >> one (op.Elem (count args)) >> one op.Fetch) (later_string op.Var x)
      (later_join (one op.Fetch) (arguments args >> one (op.Elem (count args)) >> one op.Fetch) (later_one op.Fetch) (with_two (arguments args) (op.Elem (count args)) op.Fetch (later_arguments args f)))
  later_value (Apply u.NameOf e) (t, f) = with_one (name e) op.NameV (later_name e f)
  later_value (Apply u.Indirect e) (t, f) = with_two (value e) op.Indir op.Fetch (later_value e f)
  later_value (Apply u.Unevaluated e) (t, f) = later_unevaluated e f
  later_value (Apply u.Cursor e) (t, f) = with_one (name e) op.Cursor (later_name e f)
  later_value (Apply u.Plus e) (t, f) = with_one (value e) _ (later_value e f)
  later_value (Apply u.Minus e) (t, f) = with_one (value e) _ (later_value e f)
  later_value (Apply u.Interrogate e) (t, f) = with_two (value e) op.Drop op.Null (later_value e f)
  later_value (Apply u.Negate e) (t, f) =
      later_handled op.Try (value e >> one op.Drop >> one op.Untry >> one op.Fail) (one op.Null)
      (later_join (value e) (one op.Drop >> one op.Untry >> one op.Fail) (later_value e f) (with_two (one op.Drop) op.Untry op.Fail (later_one op.Drop))) (later_one op.Null)
  later_value (Combine b.Conditional x y) (t, f, g) = of_both (value x) (name y) op.Cond (later_value x f) (later_name y g)
  later_value (Combine b.Immediate x y) (t, f, g) = of_both (value x) (name y) op.Imm (later_value x f) (later_name y g)
  later_value (Combine b.Power x y) (t, f, g) = of_both (value x) (value y) _ (later_value x f) (later_value y g)
  later_value (Combine b.Multiply x y) (t, f, g) = of_both (value x) (value y) _ (later_value x f) (later_value y g)
  later_value (Combine b.Divide x y) (t, f, g) = of_both (value x) (value y) _ (later_value x f) (later_value y g)
  later_value (Combine b.Add x y) (t, f, g) = of_both (value x) (value y) _ (later_value x f) (later_value y g)
  later_value (Combine b.Subtract x y) (t, f, g) = of_both (value x) (value y) _ (later_value x f) (later_value y g)
  later_value (Combine b.Concatenate x y) (t, f, g) = of_both (value x) (value y) op.Cat (later_value x f) (later_value y g)
  later_value (Combine b.Alternate x y) (t, f, g) = of_both (value x) (value y) op.Alt (later_value x f) (later_value y g)

  pub later_name : (e : Expr) → Fit e → FitLater (name e)
  later_name (Name x) f = later_string op.Var x
  later_name (Apply u.Indirect e) (t, f) = with_one (value e) op.Indir (later_value e f)
  later_name (Reference x args) (n, c, f) =
      later_join (with_string op.Var x) (one op.Fetch >> arguments args >> one (op.Elem (count args))) (later_string op.Var x)
      (later_join (one op.Fetch) (arguments args >> one (op.Elem (count args))) (later_one op.Fetch) (with_one (arguments args) (op.Elem (count args)) (later_arguments args f)))
  later_name (Call g args) (n, m, c, f) = later_join (arguments args) (call op.PrimN op.CallN (prim_named g) g (count args)) (later_arguments args f) (later_call op.PrimN op.CallN (prim_named g) g (count args))
  later_name _ f = later_nothing

  later_arguments : (args : Args) → FitArgs args → FitLater (arguments args)
  later_arguments Nil f = later_nothing
  later_arguments (More Absent args) f = later_join (one op.Null) (arguments args) (later_one op.Null) (later_arguments args f)
  later_arguments (More (Given e) args) (f, g) = later_join (value e) (arguments args) (later_value e f) (later_arguments args g)

later_object : (o : Option Expr) → FitObject o → FitLater (object o)
later_object None f = later_one op.Null
later_object (Some e) f = later_value e f

later_assignment : (k : Option Bytes) (x : Expr) (o : Option Expr) → Fit x → FitObject o → FitLater (assignment k x o)
later_assignment None x o f g = of_both (name x) (object o) op.Assign (later_name x f) (later_object o g)
later_assignment (Some k) x o f g = later_join (object o) (with_key op.KeySet (key_named k)) (later_object o g) (later_key op.KeySet (key_named k))

later_body : (b : Body) → FitBody b → FitLater (body b)
later_body Nothing f = later_nothing
later_body (Evaluate e) f = with_one (value e) op.Drop (later_value e f)
later_body (Match x y) (f, g) = of_both (value x) (value y) op.Match (later_value x f) (later_value y g)
later_body (Assign x o) (t, f, g) = later_assignment (key_target x) x o f g
later_body (Replace x y o) (t, f, g, h) =
    later_join (name x) (one op.FetchK >> value y >> one op.MatchR >> object o >> one op.Splice) (later_name x f)
    (later_join (one op.FetchK) (value y >> one op.MatchR >> object o >> one op.Splice) (later_one op.FetchK)
    (later_join (value y) (one op.MatchR >> object o >> one op.Splice) (later_value y g)
    (of_both (one op.MatchR) (object o) op.Splice (later_one op.MatchR) (later_object o h))))

module _ (number_of : Bytes → Option ℕ) where
  later_place : (x : Place) → FitPlace x → FitLater (place number_of x)
  later_place (Label l) f = later_one _
  later_place (Computed e) f = with_one (value e) op.GotoV (later_value e f)

  later_success : (n : ℕ) (g : Goto) → FitGoto g → FitLater (after_success number_of n g)
  later_success n Next f = later_nothing
  later_success n (Always x) f = later_nothing
  later_success n (OnSuccess x) f = later_place x f
  later_success n (OnFailure x) f = later_one (op.Goto (suc n))
  later_success n (Both x y) (f, g) = later_place x f

  later_failure : (g : Goto) → FitGoto g → FitLater (after_failure number_of g)
  later_failure Next f = later_nothing
  later_failure (Always x) f = later_place x f
  later_failure (OnSuccess x) f = later_nothing
  later_failure (OnFailure x) f = later_place x f
  later_failure (Both x y) (f, g) = later_place y g

  later_statement : (n : ℕ) (s : Stmt) → FitStmt s → FitLater (statement number_of n s)
  later_statement n (Plain l b g) (f, h) =
      later_handled op.Begin (body b >> one op.Body >> after_success number_of n g) (after_failure number_of g)
      (later_join (body b) (one op.Body >> after_success number_of n g) (later_body b f) (later_join (one op.Body) (after_success number_of n g) (later_one op.Body) (later_success n g h))) (later_failure g h)
  later_statement n (End e) f = later_one op.End

  pub later_statements : (n : ℕ) (ss : List Stmt) → AllByRecursion FitStmt ss → FitLater (joined_parts (statements number_of n ss))
  later_statements n [] f = later_nothing
  later_statements n (s ∷ ss) (f, g) = later_join (statement number_of n s) (joined_parts (statements number_of (suc n) ss)) (later_statement n s f) (later_statements (suc n) ss g)

later_expression : (e : Expr) → Fit e → FitLater (expression e)
later_expression e f = with_one (value e) op.Ret (later_value e f)

pub later_expressions : (fuel : ℕ) (es : List Expr) → AllByRecursion Fit es → FitLater (joined_parts (expressions fuel es))
later_expressions zero es f = later_nothing
later_expressions (suc fuel) [] f = later_nothing
later_expressions (suc fuel) (e ∷ es) (f, g) =
    let more = later_expression e f in
    later_join (expression e) (joined_parts (expressions fuel (es ++ (expression e).later))) more (later_expressions fuel (es ++ (expression e).later) (all_join Fit es (expression e).later g more))
