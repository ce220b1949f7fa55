-- Worked cases of well-formedness: images, and the first fault of their parts.
use Rattle.std.specs.Prelude.{◌≡◌, ℕ, ◌+◌, List, [], ◌∷◌, ◌++◌, map, Option, Some, None, pos, negsuc, codes}
use Rattle.model.specs.declared.format.ModuleFault.{ModuleFault}
use Rattle.model.specs.declared.format.ModuleRule.{ModuleRule}
use Rattle.model.specs.declared.format.ModuleRule.TheVariants.{BadIndex, BadTarget, BadJump, NoEnd}
use Rattle.model.specs.declared.format.Version.{Version}
use Rattle.model.specs.declared.format.Version.TheVariants as versions
use Rattle.model.specs.declared.image.Image.{Image}
use Rattle.model.specs.declared.image.Label.{Label}
use Rattle.model.specs.declared.image.Level.TheVariants as levels
use Rattle.model.specs.declared.image.PatInstr.{PatInstr}
use Rattle.model.specs.declared.image.PatInstr.TheVariants as pats
use Rattle.model.specs.declared.instr.Instr.{Instr}
use Rattle.model.specs.declared.instr.Instr.TheVariants as op
use Rattle.model.specs.declared.instr.ReturnKind.TheVariants as return
use Rattle.model.specs.declared.keys.KeyId.TheVariants as key
use Rattle.model.specs.declared.primitives.PrimId.TheVariants as prim
use Rattle.model.specs.Module.Images.{code_size}
use Rattle.model.specs.Module.WellFormed.{part_fault}

-- ---- how a case is written

pub record Case : Type 0 where
  pub image : Image
  pub fault : Option ModuleFault

abbrev pub fine : Image → Case
fine im = record { image = im; fault = None }

abbrev pub faulty_at : ℕ → ModuleRule → Image → Case
faulty_at at r im = record { image = im; fault = Some (record { offset = at; rule = r }) }

-- a statement of this body and END, which stands behind it; strings 0 to 6 are a name, null, END, the returns and another
-- name, so that labels stand at 73, statements at 77, cards at 85, expressions at 97, patterns at 101 and the code at 105
abbrev pub of_body : List Instr → Image
of_body is = record {
  level = levels.Two;
  entry = 1;
  strings = codes "A" ∷ [] ∷ codes "END" ∷ codes "RETURN" ∷ codes "FRETURN" ∷ codes "NRETURN" ∷ codes "B" ∷ [];
  labels = [];
  statements = 0 ∷ (code_size is + 6) ∷ [];
  cards = 1 ∷ 2 ∷ [];
  expressions = [];
  patterns = [];
  code = op.Begin (code_size is + 6) ∷ (is ++ op.Body ∷ op.End ∷ []);
}

abbrev pub bare_image : Image
bare_image = of_body []

abbrev pub with_entry : ℕ → Image
with_entry k = record bare_image { entry = k }

abbrev pub label : ℕ → ℕ → Label
label s k = record { string = s; statement = k }

abbrev pub with_labels : List Label → Image
with_labels ls = record bare_image { labels = ls }

-- a pattern of one LIT before it
abbrev pub with_pattern : List PatInstr → Image
with_pattern is = record bare_image { patterns = (pats.Lit 0 ∷ []) ∷ is ∷ [] }

-- one expression, at END, and one pattern
abbrev pub with_tables : List Instr → Image
with_tables is = record (of_body is) { expressions = 0 ∷ []; patterns = [] ∷ [] }

-- this code, with these statements
abbrev pub of_code : List ℕ → List Instr → Image
of_code os is = record bare_image { statements = os; code = is }

-- ---- what each part may be

abbrev pub entries : List Case
entries =
    fine (with_entry 1)
    ∷ fine (with_entry 2)
    ∷ faulty_at 8 BadIndex (with_entry 0)
    ∷ faulty_at 8 BadIndex (with_entry 3)
    ∷ faulty_at 8 BadIndex (of_code [] [])
    ∷ []

-- END may have a label of another name; the names of END and of the returns are no labels
abbrev pub labels : List Case
labels =
    fine (with_labels (label 0 1 ∷ label 6 2 ∷ []))
    ∷ faulty_at 73 BadIndex (with_labels (label 0 0 ∷ []))
    ∷ faulty_at 73 BadIndex (with_labels (label 0 3 ∷ []))
    ∷ faulty_at 73 BadIndex (with_labels (label 1 1 ∷ []))
    ∷ faulty_at 73 BadIndex (with_labels (label 2 2 ∷ []))
    ∷ faulty_at 73 BadIndex (with_labels (label 3 1 ∷ []))
    ∷ faulty_at 73 BadIndex (with_labels (label 4 1 ∷ []))
    ∷ faulty_at 73 BadIndex (with_labels (label 5 1 ∷ []))
    ∷ faulty_at 73 BadIndex (with_labels (label 7 1 ∷ []))
    ∷ faulty_at 81 BadIndex (with_labels (label 0 1 ∷ label 0 2 ∷ []))
    ∷ []

abbrev pub patterns : List Case
patterns =
    -- a number of 2^63 - 1, and one more
    fine (with_pattern (pats.Len 9223372036854775807 ∷ pats.Pos 9223372036854775807 ∷ pats.RPos 9223372036854775807 ∷ pats.Tab 9223372036854775807 ∷ pats.RTab 9223372036854775807 ∷ []))
    ∷ faulty_at 114 BadIndex (with_pattern (pats.Len 9223372036854775808 ∷ []))
    ∷ faulty_at 114 BadIndex (with_pattern (pats.Pos 9223372036854775808 ∷ []))
    ∷ faulty_at 114 BadIndex (with_pattern (pats.RPos 9223372036854775808 ∷ []))
    ∷ faulty_at 114 BadIndex (with_pattern (pats.Tab 9223372036854775808 ∷ []))
    ∷ faulty_at 123 BadIndex (with_pattern (pats.Tab 0 ∷ pats.RTab 9223372036854775808 ∷ []))
    -- a literal may be null, a set may not
    ∷ fine (with_pattern (pats.Lit 1 ∷ pats.Lit 6 ∷ []))
    ∷ faulty_at 119 BadIndex (with_pattern (pats.Lit 6 ∷ pats.Lit 7 ∷ []))
    ∷ fine (with_pattern (pats.Any 0 ∷ pats.NotAny 0 ∷ pats.Span 6 ∷ pats.Break 6 ∷ []))
    ∷ faulty_at 114 BadIndex (with_pattern (pats.Any 1 ∷ []))
    ∷ faulty_at 114 BadIndex (with_pattern (pats.NotAny 1 ∷ []))
    ∷ faulty_at 114 BadIndex (with_pattern (pats.Span 1 ∷ []))
    ∷ faulty_at 114 BadIndex (with_pattern (pats.Break 7 ∷ []))
    -- a jump to the first instruction and to the end, and one further
    ∷ fine (with_pattern (pats.Split (pos 2) ∷ pats.Jmp (negsuc 0) ∷ []))
    ∷ fine (with_pattern (pats.Jmp (pos 2) ∷ pats.Split (negsuc 0) ∷ []))
    ∷ faulty_at 114 BadJump (with_pattern (pats.Split (pos 3) ∷ pats.Lit 0 ∷ []))
    ∷ faulty_at 114 BadJump (with_pattern (pats.Jmp (pos 3) ∷ pats.Lit 0 ∷ []))
    ∷ faulty_at 119 BadJump (with_pattern (pats.Lit 0 ∷ pats.Split (negsuc 1) ∷ []))
    ∷ faulty_at 119 BadJump (with_pattern (pats.Lit 0 ∷ pats.Jmp (negsuc 1) ∷ []))
    ∷ []

-- the body's first instruction stands at 110, or at 118 behind the tables
abbrev pub indices : List Case
indices =
    fine (of_body (op.Goto 2 ∷ op.Str 6 ∷ op.Var 6 ∷ op.KeySet key.Anchor ∷ op.CallV 0 9 ∷ op.CallN 0 9 ∷ op.PrimV prim.Size 1 ∷ op.PrimN prim.Item 9 ∷ []))
    ∷ faulty_at 110 BadIndex (of_body (op.Goto 0 ∷ []))
    ∷ faulty_at 110 BadIndex (of_body (op.Goto 3 ∷ []))
    ∷ faulty_at 110 BadIndex (of_body (op.Str 7 ∷ []))
    ∷ faulty_at 110 BadIndex (of_body (op.Var 1 ∷ []))
    ∷ faulty_at 110 BadIndex (of_body (op.Var 7 ∷ []))
    ∷ faulty_at 110 BadIndex (of_body (op.KeySet key.StNo ∷ []))
    ∷ fine (of_body (op.KeyGet key.StNo ∷ []))
    ∷ faulty_at 110 BadIndex (of_body (op.CallV 1 0 ∷ []))
    ∷ faulty_at 110 BadIndex (of_body (op.CallN 1 0 ∷ []))
    ∷ faulty_at 110 BadIndex (of_body (op.PrimV prim.Size 2 ∷ []))
    ∷ faulty_at 110 BadIndex (of_body (op.PrimN prim.Item 10 ∷ []))
    ∷ fine (with_tables (op.Expr 0 ∷ op.Pat 0 ∷ []))
    ∷ faulty_at 118 BadIndex (with_tables (op.Expr 1 ∷ []))
    ∷ faulty_at 118 BadIndex (with_tables (op.Pat 1 ∷ []))
    ∷ []

abbrev pub offsets : List Case
offsets =
    -- a target at its own instruction, within one, and past the code
    fine (of_body (op.Try 10 ∷ []))
    ∷ faulty_at 110 BadTarget (of_body (op.Try 5 ∷ []))
    ∷ faulty_at 110 BadTarget (of_body (op.Try 9 ∷ []))
    ∷ faulty_at 110 BadTarget (of_body (op.Try 12 ∷ []))
    ∷ faulty_at 105 BadTarget (of_code (0 ∷ 6 ∷ []) (op.Begin 0 ∷ op.Body ∷ op.End ∷ []))
    ∷ faulty_at 105 BadTarget (of_code (0 ∷ 6 ∷ []) (op.Begin 7 ∷ op.Body ∷ op.End ∷ []))
    -- a BEGIN at no statement's offset, and a statement at no BEGIN
    ∷ faulty_at 110 BadTarget (of_body (op.Begin 10 ∷ []))
    ∷ faulty_at 77 BadTarget (of_code (5 ∷ 6 ∷ []) (op.Begin 6 ∷ op.Body ∷ op.End ∷ []))
    -- an expression where no instruction begins
    ∷ faulty_at 101 BadTarget (record bare_image { expressions = 6 ∷ 4 ∷ [] })
    -- what may stand last
    ∷ fine (of_code (0 ∷ []) (op.End ∷ op.Goto 1 ∷ []))
    ∷ fine (of_code (0 ∷ []) (op.End ∷ op.Return return.FReturn ∷ []))
    ∷ fine (of_code (0 ∷ []) (op.End ∷ op.GotoV ∷ []))
    ∷ fine (of_code (0 ∷ []) (op.End ∷ op.NoLabel ∷ []))
    ∷ fine (of_code (0 ∷ []) (op.End ∷ op.Fail ∷ []))
    ∷ fine (of_code (0 ∷ []) (op.End ∷ op.Ret ∷ []))
    ∷ faulty_at 98 BadTarget (of_code (0 ∷ []) (op.End ∷ op.Null ∷ []))
    ∷ []

abbrev pub ends : List Case
ends =
    -- the last statement holds no END, or no instruction begins there
    faulty_at 97 NoEnd (of_code (0 ∷ []) (op.NoLabel ∷ []))
    ∷ faulty_at 111 NoEnd (of_code (0 ∷ 6 ∷ []) (op.Begin 6 ∷ op.Body ∷ op.NoLabel ∷ []))
    ∷ faulty_at 81 NoEnd (of_code (0 ∷ 7 ∷ []) (op.Begin 6 ∷ op.Body ∷ op.End ∷ []))
    -- of several faults the one of least offset, and then of least number
    ∷ faulty_at 97 BadIndex (of_code (0 ∷ []) (op.Str 7 ∷ []))
    ∷ faulty_at 97 BadTarget (of_code (0 ∷ []) (op.Str 6 ∷ []))
    ∷ faulty_at 8 BadIndex (record (of_code (0 ∷ []) (op.Str 7 ∷ [])) { entry = 2 })
    ∷ []

abbrev pub cases : List Case
cases = entries ++ labels ++ patterns ++ indices ++ offsets ++ ends

-- each part stands as many bytes further in front in version 1 as it has less before it
abbrev pub in_one : List Case
in_one =
    fine bare_image
    ∷ faulty_at 6 BadIndex (with_entry 0)
    ∷ faulty_at 71 BadIndex (with_labels (label 0 0 ∷ []))
    ∷ faulty_at 75 BadTarget (of_code (5 ∷ 6 ∷ []) (op.Begin 6 ∷ op.Body ∷ op.End ∷ []))
    ∷ faulty_at 91 BadTarget (record bare_image { expressions = 6 ∷ 4 ∷ [] })
    ∷ faulty_at 104 BadIndex (with_pattern (pats.Any 1 ∷ []))
    ∷ faulty_at 100 BadIndex (of_body (op.Goto 0 ∷ []))
    ∷ []

-- ---- what is computed
abbrev pub Meet : Version → List Case → Type 0
Meet v cs = map (λ c. part_fault v c.image) cs ≡ map (λ c. c.fault) cs

abbrev pub PartsMeetCases : Type 0
PartsMeetCases = Meet versions.Two cases × Meet versions.One in_one
