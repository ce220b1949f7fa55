-- The trees of statements and expressions, as the definitions speak of them: without boxes, shells and capacities.
use Rattle.std.specs.Prelude.{ℕ, List, ℤ, Option}
use Rattle.model.specs.declared.trees.Unary.{Unary}
use Rattle.model.specs.declared.trees.Binary.{Binary}

abbrev pub Bytes : Type 0
Bytes = List ℕ

mutual
  pub data Expr : Type 0 where
    Name : Bytes → Expr
    Integer : ℤ → Expr
    Literal : Bytes → Expr
    -- `&` and the keyword's name
    Keyword : Bytes → Expr
    -- `F(..)`, of a primitive or of a function of the program's own
    Call : Bytes → Args → Expr
    -- `A<..>`
    Reference : Bytes → Args → Expr
    Apply : Unary → Expr → Expr
    Combine : Binary → Expr → Expr → Expr

  pub data Arg : Type 0 where
    Absent : Arg
    Given : Expr → Arg

  pub data Args : Type 0 where
    Nil : Args
    More : Arg → Args → Args

-- where a goto leads: to a label, or to the label that the value of an element is
pub data Place : Type 0 where
  Label : Bytes → Place
  Computed : Expr → Place

-- where a statement goes on: Both has the place after success, then that after failure
pub data Goto : Type 0 where
  Next : Goto
  Always OnSuccess OnFailure : Place → Goto
  Both : Place → Place → Goto

-- what a statement does; an absent object is None
pub data Body : Type 0 where
  Nothing : Body
  Evaluate : Expr → Body
  Match : (subject pattern : Expr) → Body
  Assign : (subject : Expr) → (object : Option Expr) → Body
  Replace : (subject pattern : Expr) → (object : Option Expr) → Body

pub data Stmt : Type 0 where
  Plain : (label : Option Bytes) → Body → Goto → Stmt
  End : (entry : Option Bytes) → Stmt
