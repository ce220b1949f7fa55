-- What the trees of an accepted deck keep, which their code relies on.
use Rattle.std.specs.Prelude.{◌≡◌, ◌<◌, ◌≤◌, ◌^◌, true, false, List, [], ◌∷◌, ◌++◌, length, Option, Some, None, bytes_eq}
use Rattle.std.specs.List.{AllByRecursion, list_any}
use Rattle.std.specs.Int.{w64}
use Rattle.std.specs.Int.RustNames.{FitsSigned}
use Rattle.model.specs.declared.keys.KeyId.{KeyId}
use Rattle.model.specs.Deck.Faults.{count, at_most, operand_fits, subject_fits, is_target}
use Rattle.model.specs.Language.Names.{key_named, prim_named}
use Rattle.model.specs.Deck.Trees.{Bytes, Expr, Name, Integer, Literal, Keyword, Call, Reference, Apply, Combine, Args, Nil, More, Absent, Given, Place, Label, Computed, Goto, Next, Always, OnSuccess, OnFailure, Both, Body, Nothing, Evaluate, Match, Assign, Replace, Stmt, Plain, End}
use Rattle.model.specs.Deck.Weights.{weight, total}
use Rattle.model.specs.Module.WellFormed.{is_nonnull, is_label_name}
use Rattle.codegen.specs.Layout.{label_texts}

abbrev pub Named : Bytes → Type 0
Named s = is_nonnull (Some s) ≡ true

abbrev mutual
  pub Fit : Expr → Type 0
  Fit (Name s) = Named s
  Fit (Integer z) = FitsSigned w64 z
  Fit (Literal s) = Unit {0}
  Fit (Keyword s) = (k : KeyId) × (key_named s ≡ Some k)
  Fit (Call f args) = Named f × (at_most (prim_named f) (count args) ≡ true) × (count args < 2 ^ 16) × FitArgs args
  Fit (Reference a args) = Named a × (count args < 2 ^ 16) × FitArgs args
  Fit (Apply u x) = (operand_fits (Apply u x) ≡ true) × Fit x
  Fit (Combine op x y) = (operand_fits (Combine op x y) ≡ true) × Fit x × Fit y

  pub FitArgs : Args → Type 0
  FitArgs Nil = Unit {0}
  FitArgs (More Absent args) = FitArgs args
  FitArgs (More (Given e) args) = Fit e × FitArgs args

abbrev pub FitObject : Option Expr → Type 0
FitObject None = Unit {0}
FitObject (Some e) = Fit e

abbrev pub FitBody : Body → Type 0
FitBody Nothing = Unit {0}
FitBody (Evaluate x) = Fit x
FitBody (Match x p) = Fit x × Fit p
FitBody (Assign x o) = (subject_fits (Assign x o) ≡ true) × Fit x × FitObject o
FitBody (Replace x p o) = (is_target x ≡ true) × Fit x × Fit p × FitObject o

abbrev pub FitPlace : Place → Type 0
FitPlace (Label l) = Unit {0}
FitPlace (Computed x) = Fit x

abbrev pub FitGoto : Goto → Type 0
FitGoto Next = Unit {0}
FitGoto (Always p) = FitPlace p
FitGoto (OnSuccess p) = FitPlace p
FitGoto (OnFailure p) = FitPlace p
FitGoto (Both p q) = FitPlace p × FitPlace q

abbrev pub FitStmt : Stmt → Type 0
FitStmt (Plain l b g) = FitBody b × FitGoto g
FitStmt (End entry) = Unit {0}

-- END is last, and nowhere else
abbrev pub EndsInEnd : List Stmt → Type 0
EndsInEnd [] = ⊥
EndsInEnd (End e ∷ []) = Unit {0}
EndsInEnd (End e ∷ s ∷ ss) = ⊥
EndsInEnd (Plain l b g ∷ ss) = EndsInEnd ss

-- labels that are none of these, nor END or a return, nor twice there
abbrev pub NewLabels : (front labels : List Bytes) → Type 0
NewLabels front [] = Unit {0}
NewLabels front (l ∷ ls) = (is_label_name (Some l) ≡ true) × (list_any (λ m. bytes_eq m l) front ≡ false) × NewLabels (front ++ l ∷ []) ls

-- the trees of an accepted deck
pub record IsFit (ss : List Stmt) : Type 0 where
  pub ends : EndsInEnd ss
  pub statements : AllByRecursion FitStmt ss
  pub labels : NewLabels [] (label_texts ss)
  pub count : length ss ≤ 16777216
  pub together : total weight ss ≤ 16777216
