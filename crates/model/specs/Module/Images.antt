-- An image as the machine reads it.
use Rattle.std.specs.Prelude.{ℕ, zero, suc, ◌+◌, List, [], ◌∷◌, length, get_or, Option, Some, None, Bool, false, bytes_eq, slice_get, ◌==◌, if◌then◌else◌}
use Rattle.model.specs.declared.instr.Instr.{Instr}
use Rattle.model.specs.declared.instr.Instr.TheVariants as op
use Rattle.model.specs.declared.image.Image.{Image}
use Rattle.model.specs.declared.image.Label.{Label}
use Rattle.model.specs.declared.image.PatInstr.{PatInstr}
use Rattle.model.specs.declared.image.PatInstr.TheVariants as part
use Rattle.model.specs.Deck.Trees.{Bytes}
use Rattle.model.specs.Language.Programs.{end_label}
use Rattle.model.specs.Pattern.Patterns as p
use Rattle.model.specs.Machine.Steps.{PCode, Fetched, Nowhere, At, Module}

-- how many bytes an instruction has
abbrev pub instr_size : Instr → ℕ
instr_size (op.Begin f) = 5
instr_size (op.Goto k) = 5
instr_size (op.Return r) = 2
instr_size (op.Str k) = 5
instr_size (op.Int z) = 9
instr_size (op.Var k) = 5
instr_size (op.KeyGet k) = 2
instr_size (op.KeySet k) = 2
instr_size (op.Elem n) = 3
instr_size (op.Expr k) = 5
instr_size (op.CallV k n) = 7
instr_size (op.CallN k n) = 7
instr_size (op.PrimV f n) = 3
instr_size (op.PrimN f n) = 3
instr_size (op.Try t) = 5
instr_size (op.Sign o) = 2
instr_size (op.Arith o) = 2
instr_size (op.Pat k) = 5
instr_size _ = 1

-- and all of them
abbrev pub code_size : List Instr → ℕ
code_size [] = 0
code_size (i ∷ is) = instr_size i + code_size is

-- the instruction that begins at an offset, of code that begins at o
abbrev pub fetch_from : ℕ → List Instr → ℕ → Fetched
fetch_from o [] at = Nowhere
fetch_from o (i ∷ is) at = if o == at then At i (o + instr_size i) else fetch_from (o + instr_size i) is at

-- by number, from 1
abbrev pub statement_offset : List ℕ → ℕ → Option ℕ
statement_offset os zero = None
statement_offset os (suc k) = slice_get os k

-- the card where a statement begins, by number; 0 where it isn't known
abbrev pub card_of : List ℕ → ℕ → ℕ
card_of cs zero = 0
card_of cs (suc k) = get_or cs k 0

-- the number of the statement at an offset, from 1
abbrev pub statement_number : List ℕ → ℕ → ℕ
statement_number [] at = 0
statement_number (o ∷ os) at = if o == at then 1 else suc (statement_number os at)

abbrev pub string_is : Option Bytes → Bytes → Bool
string_is None l = false
string_is (Some s) l = bytes_eq s l

-- the statement of a label, and else this
abbrev pub statement_labelled : List Bytes → List Label → Bytes → Option ℕ → Option ℕ
statement_labelled ss [] l other = other
statement_labelled ss (e ∷ es) l other = if string_is (slice_get ss e.string) l then Some e.statement else statement_labelled ss es l other

-- END labels the last statement
abbrev pub end_of : List ℕ → Bytes → Option ℕ
end_of os l = if bytes_eq end_label l then Some (length os) else None

-- ---- patterns

abbrev pub with_set : Option Bytes → (Bytes → p.Basic) → Option p.Instr
with_set None f = None
with_set (Some s) f = Some (p.Do (f s))

abbrev pub pattern_instr : List Bytes → PatInstr → Option p.Instr
pattern_instr ss (part.Lit k) = with_set (slice_get ss k) p.Lit
pattern_instr ss (part.Split d) = Some (p.Split d)
pattern_instr ss (part.Jmp d) = Some (p.Jmp d)
pattern_instr ss (part.Len n) = Some (p.Do (p.Len n))
pattern_instr ss (part.Pos n) = Some (p.Do (p.Pos n))
pattern_instr ss (part.RPos n) = Some (p.Do (p.RPos n))
pattern_instr ss (part.Tab n) = Some (p.Do (p.Tab n))
pattern_instr ss (part.RTab n) = Some (p.Do (p.RTab n))
pattern_instr ss (part.Any k) = with_set (slice_get ss k) p.AnyOf
pattern_instr ss (part.NotAny k) = with_set (slice_get ss k) p.NotAnyOf
pattern_instr ss (part.Span k) = with_set (slice_get ss k) p.Span
pattern_instr ss (part.Break k) = with_set (slice_get ss k) p.Break

abbrev pub both_some : Option p.Instr → Option PCode → Option PCode
both_some (Some i) (Some is) = Some (i ∷ is)
both_some _ _ = None

abbrev pub pattern_code : List Bytes → List PatInstr → Option PCode
pattern_code ss [] = Some []
pattern_code ss (i ∷ is) = both_some (pattern_instr ss i) (pattern_code ss is)

abbrev pub code_of_pattern : List Bytes → Option (List PatInstr) → Option PCode
code_of_pattern ss None = None
code_of_pattern ss (Some is) = pattern_code ss is

-- ---- modules

abbrev pub module_of : Image → Module
module_of i = record {
  fetch = fetch_from 0 i.code;
  string = slice_get i.strings;
  stmt = statement_offset i.statements;
  expr = slice_get i.expressions;
  pattern = λ k. code_of_pattern i.strings (slice_get i.patterns k);
  label = λ l. statement_labelled i.strings i.labels l (end_of i.statements l);
  number = statement_number i.statements;
  entry = i.entry;
}
