-- Worked cases: the images of some programs.
use Rattle.std.proofs.Common.{◌≡◌, [], ◌∷◌, Some, None, codes, refl}
use Rattle.model.specs.declared.image.Level.TheVariants as levels
use Rattle.model.specs.declared.instr.Instr.TheVariants as op
use Rattle.model.specs.declared.trees.Unary.TheVariants as u
use Rattle.model.specs.declared.trees.Binary.TheVariants as b
use Rattle.model.specs.Deck.Trees.{Name, Literal, Apply, Combine, Label, Next, OnSuccess, OnFailure, Assign, Replace, Plain, End}
use Rattle.expr_codegen.specs.Code.{nothing, one, with_string, unevaluated, ◌>>◌, handled}
use Rattle.codegen.specs.Layout.{generated_image}

-- ` OUTPUT = 'HI'`, `END`: 18 bytes of code
hi : generated_image (1 ∷ 2 ∷ []) (Plain None (Assign (Name (codes "OUTPUT")) (Some (Literal (codes "HI")))) Next ∷ End None ∷ []) ≡ record {
  level = levels.Two;
  entry = 1;
  strings = codes "OUTPUT" ∷ codes "HI" ∷ [];
  labels = [];
  statements = 0 ∷ 17 ∷ [];
  cards = 1 ∷ 2 ∷ [];
  expressions = [];
  patterns = [];
  code = op.Begin 17 ∷ op.Var 0 ∷ op.Str 1 ∷ op.Assign ∷ op.Body ∷ op.End ∷ [];
}
unfolding nothing one with_string ◌>>◌ handled
hi = refl

-- `L X 'A' = *B :S(L)`, ` OUTPUT = ~Y :F(NONE)`, `END L`
ways : generated_image (1 ∷ 2 ∷ 3 ∷ []) (
    Plain (Some (codes "L")) (Replace (Name (codes "X")) (Literal (codes "A")) (Some (Apply u.Unevaluated (Name (codes "B"))))) (OnSuccess (Label (codes "L")))
    ∷ Plain None (Assign (Name (codes "OUTPUT")) (Some (Apply u.Negate (Name (codes "Y"))))) (OnFailure (Label (codes "NONE")))
    ∷ End (Some (codes "L")) ∷ []) ≡ record {
      level = levels.Two;
      entry = 1;
      strings = codes "X" ∷ codes "A" ∷ codes "OUTPUT" ∷ codes "Y" ∷ codes "B" ∷ codes "L" ∷ [];
      labels = record { string = 5; statement = 1 } ∷ [];
      statements = 0 ∷ 29 ∷ 62 ∷ [];
      cards = 1 ∷ 2 ∷ 3 ∷ [];
      expressions = 63 ∷ [];
      patterns = [];
      code =
          op.Begin 29 ∷ op.Var 0 ∷ op.FetchK ∷ op.Str 1 ∷ op.MatchR ∷ op.Expr 0 ∷ op.Splice ∷ op.Body ∷ op.Goto 1
          ∷ op.Begin 61 ∷ op.Var 2 ∷ op.Try 53 ∷ op.Var 3 ∷ op.Fetch ∷ op.Drop ∷ op.Untry ∷ op.Fail ∷ op.Null ∷ op.Assign ∷ op.Body ∷ op.Goto 3 ∷ op.NoLabel
          ∷ op.End
          ∷ op.Var 4 ∷ op.Fetch ∷ op.Ret ∷ [];
    }
unfolding nothing one with_string unevaluated ◌>>◌ handled
ways = refl

-- ` X = **A *B`, `END`: the expression inside the first has its number behind the second
queue : generated_image (1 ∷ 2 ∷ []) (
    Plain None (Assign (Name (codes "X")) (Some (Combine b.Concatenate (Apply u.Unevaluated (Apply u.Unevaluated (Name (codes "A")))) (Apply u.Unevaluated (Name (codes "B")))))) Next
    ∷ End None ∷ []) ≡ record {
      level = levels.Two;
      entry = 1;
      strings = codes "X" ∷ codes "B" ∷ codes "A" ∷ [];
      labels = [];
      statements = 0 ∷ 23 ∷ [];
      cards = 1 ∷ 2 ∷ [];
      expressions = 24 ∷ 30 ∷ 37 ∷ [];
      patterns = [];
      code =
          op.Begin 23 ∷ op.Var 0 ∷ op.Expr 0 ∷ op.Expr 1 ∷ op.Cat ∷ op.Assign ∷ op.Body ∷ op.End
          ∷ op.Expr 2 ∷ op.Ret ∷ op.Var 1 ∷ op.Fetch ∷ op.Ret ∷ op.Var 2 ∷ op.Fetch ∷ op.Ret ∷ [];
    }
unfolding nothing one with_string unevaluated ◌>>◌ handled
queue = refl
