-- Worked cases of the flow of code: a module whose ways join, and modules that break the flow at an offset.
use Rattle.std.specs.Prelude.{ℕ, List, [], ◌∷◌, codes}
use Rattle.model.specs.declared.image.Image.{Image}
use Rattle.model.specs.declared.image.Level.TheVariants as levels
use Rattle.model.specs.declared.instr.Instr.{Instr}
use Rattle.model.specs.declared.instr.Instr.TheVariants as op
use Rattle.model.specs.Module.Flow.{BreaksFlow}
use Rattle.model.specs.Module.WellFormed.{IsWellFormed}

-- this code, with statements at 0 and at the END, and these expressions
abbrev pub with_code : ℕ → List ℕ → List Instr → Image
with_code end es is = record {
  level = levels.Two;
  entry = 1;
  strings = codes "A" ∷ [];
  labels = [];
  statements = 0 ∷ end ∷ [];
  cards = 1 ∷ 2 ∷ [];
  expressions = es;
  patterns = [];
  code = is;
}

-- the body keeps a name over a TRY, and both ways from it meet at the FETCHK; the expression behind the END is null
abbrev pub joined : Image
joined = with_code 23 (24 ∷ []) (op.Begin 23 ∷ op.Var 0 ∷ op.Try 16 ∷ op.Untry ∷ op.FetchK ∷ op.Null ∷ op.MatchR ∷ op.Null ∷ op.Splice ∷ op.Body ∷ op.NoLabel ∷ op.End ∷ op.Null ∷ op.Ret ∷ [])

-- the FETCHK stands under the TRY, and takes a name from before it
abbrev pub fetched_under_try : Image
fetched_under_try = with_code 22 [] (op.Begin 22 ∷ op.Var 0 ∷ op.Try 16 ∷ op.FetchK ∷ op.Null ∷ op.MatchR ∷ op.Null ∷ op.Splice ∷ op.Untry ∷ op.Body ∷ op.NoLabel ∷ op.End ∷ [])

-- one way to the NULL has a TRY, the other one hasn't
abbrev pub joined_under_try : Image
joined_under_try = with_code 14 [] (op.Begin 14 ∷ op.Try 10 ∷ op.Null ∷ op.Drop ∷ op.Body ∷ op.NoLabel ∷ op.End ∷ [])

abbrev pub body_under_try : Image
body_under_try = with_code 12 [] (op.Begin 12 ∷ op.Try 11 ∷ op.Body ∷ op.NoLabel ∷ op.End ∷ [])

abbrev pub name_for_value : Image
name_for_value = with_code 13 [] (op.Begin 13 ∷ op.Var 0 ∷ op.Drop ∷ op.Body ∷ op.NoLabel ∷ op.End ∷ [])

abbrev pub value_in_goto : Image
value_in_goto = with_code 8 [] (op.Begin 8 ∷ op.Body ∷ op.Null ∷ op.Ret ∷ op.End ∷ [])

abbrev pub goto_in_body : Image
goto_in_body = with_code 10 [] (op.Begin 10 ∷ op.Goto 1 ∷ op.End ∷ [])

abbrev pub operand_left : Image
operand_left = with_code 8 [] (op.Begin 8 ∷ op.Null ∷ op.Body ∷ op.NoLabel ∷ op.End ∷ [])

pub record FlowRows : Type 0 where
  pub joins : IsWellFormed joined
  pub fetches_under_try : BreaksFlow fetched_under_try 15
  pub joins_under_try : BreaksFlow joined_under_try 10
  pub ends_body_under_try : BreaksFlow body_under_try 10
  pub takes_name_for_value : BreaksFlow name_for_value 10
  pub gives_value_in_goto : BreaksFlow value_in_goto 7
  pub goes_in_body : BreaksFlow goto_in_body 5
  pub leaves_operand : BreaksFlow operand_left 6
