-- The calls and references of light statements have as few arguments as instructions can count, if no primitive is called
-- with too many.
use Rattle.std.proofs.Common.{◌≡◌, ◌<◌, ◌≤◌, ◌^◌, ◌&&◌, true, Option, Some, None, arith}
use Rattle.std.proofs.lemmas.Bool.{and_parts}
use Rattle.model.specs.Deck.Faults.{everywhere, in_args, in_place, in_goto, in_object, in_body, throughout, count, at_most, call_fits}
use Rattle.model.specs.Language.Names.{prim_named}
use Rattle.model.specs.Deck.Trees.{Expr, Name, Integer, Literal, Keyword, Call, Reference, Apply, Combine, Args, Nil, More, Absent, Given, Place, Label, Computed, Goto, Next, Always, OnSuccess, OnFailure, Both, Body, Nothing, Evaluate, Match, Assign, Replace, Stmt, Plain, End}
use Rattle.model.specs.Deck.Weights.{of_expr, of_args, of_place, of_goto, of_object, of_body, weight}
use Rattle.expr_codegen.specs.Emitting.{Countable, AllCountable}
use Rattle.codegen.specs.Countable.{CountableObject, CountableBody, CountablePlace, CountableGoto, CountableStmt}
use Rattle.codegen_laws.proofs.Accepted.{few_args}
use Rattle.codegen_laws.proofs.Counting.{few_counted}

mutual
  light_expr : (e : Expr) → everywhere call_fits e ≡ true → of_expr e ≤ 4000 → Countable e
  light_expr (Name s) a w = tt
  light_expr (Integer z) a w = tt
  light_expr (Literal s) a w = tt
  light_expr (Keyword s) a w = tt
  light_expr (Call f args) a w =
      let x = and_parts (at_most (prim_named f) (count args)) (in_args call_fits args) a in
      let y = few_args args in
      (few_counted (prim_named f) (count args) x.0 (let l : count args < 2 ^ 16 = omega (arith, y, w) in l), light_args args x.1 (omega (arith, w)))
  light_expr (Reference x args) a w =
      let y = few_args args in
      ((let l : count args ≤ 65535 = omega (arith, y, w) in l), light_args args a (omega (arith, w)))
  light_expr (Apply u x) a w = light_expr x a (omega (arith, w))
  light_expr (Combine o x y) a w =
      let l = and_parts (everywhere call_fits x) (everywhere call_fits y) a in
      (light_expr x l.0 (omega (arith, w)), light_expr y l.1 (omega (arith, w)))

  light_args : (args : Args) → in_args call_fits args ≡ true → of_args args ≤ 4000 → AllCountable args
  light_args Nil a w = tt
  light_args (More Absent args) a w = light_args args a (omega (arith, w))
  light_args (More (Given e) args) a w =
      let l = and_parts (everywhere call_fits e) (in_args call_fits args) a in
      (light_expr e l.0 (omega (arith, w)), light_args args l.1 (omega (arith, w)))

light_object : (o : Option Expr) → in_object call_fits o ≡ true → of_object o ≤ 4000 → CountableObject o
light_object None a w = tt
light_object (Some e) a w = light_expr e a (omega (arith, w))

light_body : (b : Body) → in_body call_fits b ≡ true → of_body b ≤ 4000 → CountableBody b
light_body Nothing a w = tt
light_body (Evaluate e) a w = light_expr e a (omega (arith, w))
light_body (Match x y) a w =
    let l = and_parts (everywhere call_fits x) (everywhere call_fits y) a in
    (light_expr x l.0 (omega (arith, w)), light_expr y l.1 (omega (arith, w)))
light_body (Assign x o) a w =
    let l = and_parts (everywhere call_fits x) (in_object call_fits o) a in
    (light_expr x l.0 (omega (arith, w)), light_object o l.1 (omega (arith, w)))
light_body (Replace x y o) a w =
    let l = and_parts (everywhere call_fits x) (everywhere call_fits y && in_object call_fits o) a in
    let m = and_parts (everywhere call_fits y) (in_object call_fits o) l.1 in
    (light_expr x l.0 (omega (arith, w)), light_expr y m.0 (omega (arith, w)), light_object o m.1 (omega (arith, w)))

light_place : (p : Place) → in_place call_fits p ≡ true → of_place p ≤ 4000 → CountablePlace p
light_place (Label l) a w = tt
light_place (Computed e) a w = light_expr e a (omega (arith, w))

light_goto : (g : Goto) → in_goto call_fits g ≡ true → of_goto g ≤ 4000 → CountableGoto g
light_goto Next a w = tt
light_goto (Always p) a w = light_place p a (omega (arith, w))
light_goto (OnSuccess p) a w = light_place p a (omega (arith, w))
light_goto (OnFailure p) a w = light_place p a (omega (arith, w))
light_goto (Both p q) a w =
    let l = and_parts (in_place call_fits p) (in_place call_fits q) a in
    (light_place p l.0 (omega (arith, w)), light_place q l.1 (omega (arith, w)))

pub light_statement : (s : Stmt) → throughout call_fits s ≡ true → weight s ≤ 4000 → CountableStmt s
light_statement (Plain l b g) a w =
    let x = and_parts (in_body call_fits b) (in_goto call_fits g) a in
    (light_body b x.0 (omega (arith, w)), light_goto g x.1 (omega (arith, w)))
light_statement (End e) a w = tt
