-- The calls and references of accepted trees have as few arguments as instructions can count.
use Rattle.std.proofs.Common.{◌≡◌, ℕ, ◌<◌, ◌≤◌, ◌^◌, true, List, [], ◌∷◌, Option, Some, None, arith}
use Rattle.std.specs.List.{AllByRecursion}
use Rattle.std.proofs.lemmas.Bool.Decides.{nat_tests}
use Rattle.model.specs.declared.primitives.PrimId.{PrimId}
use Rattle.model.specs.Deck.Faults.{count, at_most}
use Rattle.model.specs.Language.Names.{prim_named, most_args}
use Rattle.model.specs.Deck.Trees.{Expr, Name, Integer, Literal, Keyword, Call, Reference, Apply, Combine, Args, Nil, More, Absent, Given, Place, Label, Computed, Goto, Next, Always, OnSuccess, OnFailure, Both, Body, Nothing, Evaluate, Match, Assign, Replace, Stmt, Plain, End}
use Rattle.expr_codegen.specs.Emitting.{Countable, AllCountable, most_counted}
use Rattle.codegen.specs.Countable.{CountableObject, CountableBody, CountablePlace, CountableGoto, CountableStmt}
use Rattle.codegen_laws.specs.Fit.{Fit, FitArgs, FitObject, FitBody, FitPlace, FitGoto, FitStmt}
use Rattle.codegen_laws.proofs.Limits.{few_args}

pub few_counted : (o : Option PrimId) (n : ℕ) → at_most o n ≡ true → n < 2 ^ 16 → n ≤ most_counted o
few_counted None n a b = omega (arith, b)
few_counted (Some p) n a b = let x : n ≤ most_args p = grind (arith, nat_tests, a) in let y = few_args p in omega (arith, x, y)

mutual
  pub countable : (e : Expr) → Fit e → Countable e
  countable (Name s) f = tt
  countable (Integer z) f = tt
  countable (Literal s) f = tt
  countable (Keyword s) f = tt
  countable (Call g args) (n, a, c, f) = (few_counted (prim_named g) (count args) a c, all_countable args f)
  countable (Reference x args) (n, c, f) = ((let h : count args ≤ 65535 = omega (arith, c) in h), all_countable args f)
  countable (Apply u x) (t, f) = countable x f
  countable (Combine op x y) (t, f, g) = (countable x f, countable y g)

  all_countable : (args : Args) → FitArgs args → AllCountable args
  all_countable Nil f = tt
  all_countable (More Absent args) f = all_countable args f
  all_countable (More (Given e) args) (f, g) = (countable e f, all_countable args g)

object_countable : (o : Option Expr) → FitObject o → CountableObject o
object_countable None f = tt
object_countable (Some e) f = countable e f

body_countable : (b : Body) → FitBody b → CountableBody b
body_countable Nothing f = tt
body_countable (Evaluate e) f = countable e f
body_countable (Match x y) (f, g) = (countable x f, countable y g)
body_countable (Assign x o) (t, f, g) = (countable x f, object_countable o g)
body_countable (Replace x y o) (t, f, g, h) = (countable x f, countable y g, object_countable o h)

place_countable : (p : Place) → FitPlace p → CountablePlace p
place_countable (Label l) f = tt
place_countable (Computed e) f = countable e f

goto_countable : (g : Goto) → FitGoto g → CountableGoto g
goto_countable Next f = tt
goto_countable (Always p) f = place_countable p f
goto_countable (OnSuccess p) f = place_countable p f
goto_countable (OnFailure p) f = place_countable p f
goto_countable (Both p q) (f, g) = (place_countable p f, place_countable q g)

pub all_statements : (ss : List Stmt) → AllByRecursion FitStmt ss → AllByRecursion CountableStmt ss
all_statements [] f = tt
all_statements (Plain l b g ∷ ss) ((f, h), more) = ((body_countable b f, goto_countable g h), all_statements ss more)
all_statements (End e ∷ ss) (f, more) = (tt, all_statements ss more)
