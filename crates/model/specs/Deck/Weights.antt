-- How much a tree holds: a name its bytes, a literal its bytes and quotes, an integer 1, and each other node at least 1, for
-- the blanks and marks that stand there. A text is at least as long as its tree is heavy.
use Rattle.std.specs.Prelude.{ℕ, ◌+◌, max, List, [], ◌∷◌, length, Option, Some, None}
use Rattle.model.specs.Deck.Trees.{Bytes, Expr, Name, Integer, Literal, Keyword, Call, Reference, Apply, Combine, Arg, Absent, Given, Args, Nil, More, Place, Label, Computed, Goto, Next, Always, OnSuccess, OnFailure, Both, Body, Nothing, Evaluate, Match, Assign, Replace, Stmt, Plain, End}

-- no text names anything by no bytes
abbrev pub of_name : Bytes → ℕ
of_name s = max 1 (length s)

abbrev mutual
  pub of_expr : Expr → ℕ
  of_expr (Name s) = of_name s
  of_expr (Integer n) = 1
  of_expr (Literal s) = length s + 2
  of_expr (Keyword s) = of_name s + 1
  of_expr (Call f args) = of_name f + 1 + of_args args
  of_expr (Reference a args) = of_name a + 1 + of_args args
  of_expr (Apply u x) = of_expr x + 1
  of_expr (Combine op x y) = of_expr x + of_expr y + 1

  pub of_arg : Arg → ℕ
  of_arg Absent = 0
  of_arg (Given x) = of_expr x

  -- each with the comma or the bracket behind it
  pub of_args : Args → ℕ
  of_args Nil = 0
  of_args (More arg args) = of_arg arg + 1 + of_args args

abbrev pub of_place : Place → ℕ
of_place (Label l) = of_name l
of_place (Computed x) = of_expr x + 1

-- ` :(..)`, ` :S(..)`, ` :F(..)` and ` :S(..)F(..)`
abbrev pub of_goto : Goto → ℕ
of_goto Next = 0
of_goto (Always p) = of_place p + 4
of_goto (OnSuccess p) = of_place p + 5
of_goto (OnFailure p) = of_place p + 5
of_goto (Both p q) = of_place p + of_place q + 8

abbrev pub of_object : Option Expr → ℕ
of_object None = 0
of_object (Some x) = of_expr x + 1

-- with the blanks before the parts, and ` =`
abbrev pub of_body : Body → ℕ
of_body Nothing = 0
of_body (Evaluate x) = of_expr x + 1
of_body (Match x p) = of_expr x + of_expr p + 2
of_body (Assign x o) = of_expr x + of_object o + 3
of_body (Replace x p o) = of_expr x + of_expr p + of_object o + 4

abbrev pub of_label : Option Bytes → ℕ
of_label None = 0
of_label (Some l) = of_name l

abbrev pub of_entry : Option Bytes → ℕ
of_entry None = 0
of_entry (Some l) = of_name l + 1

abbrev pub weight : Stmt → ℕ
weight (Plain l b g) = of_label l + of_body b + of_goto g
weight (End entry) = of_entry entry + 3

-- the sum of a measure over a list
abbrev pub total : {A : Type 0} → (A → ℕ) → List A → ℕ
total f [] = 0
total f (x ∷ xs) = f x + total f xs
