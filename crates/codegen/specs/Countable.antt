-- Statements whose calls and references have as few arguments as instructions can count.
use Rattle.std.specs.Prelude.{⊤, ◌≤◌, ℕ, List, length, Option, Some, None}
use Rattle.std.specs.List.{AllByRecursion}
use Rattle.model.specs.Deck.Trees.{Expr, Place, Label, Computed, Goto, Next, Always, OnSuccess, OnFailure, Both, Body, Nothing, Evaluate, Match, Assign, Replace, Stmt, Plain, End}
use Rattle.model.specs.Deck.Weights.{of_place, total, weight}
use Rattle.expr_codegen.specs.Emitting.{Countable}

abbrev pub CountableObject : Option Expr → Type 0
CountableObject None = ⊤
CountableObject (Some e) = Countable e

abbrev pub CountableBody : Body → Type 0
CountableBody Nothing = ⊤
CountableBody (Evaluate x) = Countable x
CountableBody (Match x p) = Countable x × Countable p
CountableBody (Assign x o) = Countable x × CountableObject o
CountableBody (Replace x p o) = Countable x × Countable p × CountableObject o

abbrev pub CountablePlace : Place → Type 0
CountablePlace (Label l) = ⊤
CountablePlace (Computed x) = Countable x

abbrev pub CountableGoto : Goto → Type 0
CountableGoto Next = ⊤
CountableGoto (Always p) = CountablePlace p
CountableGoto (OnSuccess p) = CountablePlace p
CountableGoto (OnFailure p) = CountablePlace p
CountableGoto (Both p q) = CountablePlace p × CountablePlace q

abbrev pub CountableStmt : Stmt → Type 0
CountableStmt (Plain l b g) = CountableBody b × CountableGoto g
CountableStmt (End entry) = ⊤

-- how heavy the place is to which a failed statement goes
abbrev pub of_failure : Goto → ℕ
of_failure Next = 0
of_failure (Always p) = of_place p
of_failure (OnSuccess p) = 0
of_failure (OnFailure p) = of_place p
of_failure (Both p q) = of_place q

-- statements whose code has a place for each offset and each number
pub record Fits (ss : List Stmt) : Type 0 where
  pub countable : AllByRecursion CountableStmt ss
  pub together : total weight ss ≤ 16777216
  pub count : length ss ≤ 16777216
