-- The trees that the code's trees stand for.
use Rattle.std.specs.Prelude.{ℕ, Option, None, Some, List, [], ◌∷◌, map}
use Rattle.std.specs.declared.vec.Vec.{Vec}
use Rattle.std.specs.declared.alloc.Global.{Global}
use Rattle.model.specs.Deck.Trees as m
use Rattle.model.specs.declared.trees.Expr as rows
use Rattle.model.specs.declared.trees.Expr.{Expr}
use Rattle.model.specs.declared.trees.Expr.TheVariants as e
use Rattle.model.specs.declared.trees.Argument.{Argument}
use Rattle.model.specs.declared.trees.Argument.TheVariants as a
use Rattle.model.specs.declared.trees.Place.{Place}
use Rattle.model.specs.declared.trees.Place.TheVariants as p
use Rattle.model.specs.declared.trees.Goto.{Goto}
use Rattle.model.specs.declared.trees.Goto.TheVariants as g
use Rattle.model.specs.declared.trees.Body.{Body}
use Rattle.model.specs.declared.trees.Body.TheVariants as b
use Rattle.model.specs.declared.trees.Stmt.{Stmt}
use Rattle.model.specs.declared.trees.Stmt.TheVariants as s
use Rattle.model.specs.declared.trees.Program.{Program}

abbrev mutual
  pub expr_of : Expr → m.Expr
  expr_of (e.Name n) = m.Name n.items
  expr_of (e.Integer n) = m.Integer n
  expr_of (e.Literal n) = m.Literal n.items
  expr_of (e.Keyword n) = m.Keyword n.items
  expr_of (e.Call' f shape args) = m.Call f.items (row_of args)
  expr_of (e.Reference' f shape args) = m.Reference f.items (row_of args)
  expr_of (e.Unary' u q x) = m.Apply u (expr_of x)
  expr_of (e.Binary' op q x r y) = m.Combine op (expr_of x) (expr_of y)

  pub arg_of : Argument → m.Arg
  arg_of a.Absent = m.Absent
  arg_of (a.Given x) = m.Given (expr_of x)

  pub row_of : {n : _} → rows.Row_of-Argument n → m.Args
  row_of rows.end_of-Argument = m.Nil
  row_of (rows.more_of-Argument x rest) = m.More (arg_of x) (row_of rest)

unfoldable pub args_of : List Argument → m.Args
args_of [] = m.Nil
args_of (x ∷ xs) = m.More (arg_of x) (args_of xs)

abbrev pub place_of : Place → m.Place
place_of (p.Label l) = m.Label l.items
place_of (p.Computed x) = m.Computed (expr_of x)

abbrev pub goto_of : Goto → m.Goto
goto_of g.Next = m.Next
goto_of (g.Always x) = m.Always (place_of x)
goto_of (g.OnSuccess x) = m.OnSuccess (place_of x)
goto_of (g.OnFailure x) = m.OnFailure (place_of x)
goto_of (g.Both x y) = m.Both (place_of x) (place_of y)

abbrev pub object_of : Option Expr → Option m.Expr
object_of None = None
object_of (Some x) = Some (expr_of x)

abbrev pub body_of : Body → m.Body
body_of b.Nothing = m.Nothing
body_of (b.Evaluate x) = m.Evaluate (expr_of x)
body_of (b.Match x y) = m.Match (expr_of x) (expr_of y)
body_of (b.Assign x o) = m.Assign (expr_of x) (object_of o)
body_of (b.Replace x y o) = m.Replace (expr_of x) (expr_of y) (object_of o)

abbrev pub label_of : Option (Vec ℕ Global) → Option m.Bytes
label_of None = None
label_of (Some n) = Some n.items

abbrev pub stmt_of : Stmt → m.Stmt
stmt_of (s.Plain label body goto) = m.Plain (label_of label) (body_of body) (goto_of goto)
stmt_of (s.End entry) = m.End (label_of entry)

abbrev pub program_of : Program → List m.Stmt
program_of x = map stmt_of x.statements.items
