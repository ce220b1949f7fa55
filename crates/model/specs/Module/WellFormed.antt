-- Well-formed images: what each part of one may be, and where it is reported that it is not.
use Rattle.std.specs.Prelude.{◌≡◌, ℕ, suc, ◌+◌, ◌*◌, List, [], ◌∷◌, ◌++◌, length, map, Option, Some, None, is_none, Bool, true, false, not, ◌&&◌, ◌||◌, ◌==◌, nat_lt, if◌then◌else◌, slice_get, ℤ, pos, negsuc}
use Rattle.std.specs.Str.{bytes_eq}
use Rattle.std.specs.List.{list_any, sum}
use Rattle.model.specs.declared.format.ModuleFault.{ModuleFault}
use Rattle.model.specs.declared.format.ModuleRule.{ModuleRule}
use Rattle.model.specs.declared.format.ModuleRule.TheVariants.{BadIndex, BadTarget, BadFlow, BadJump, NoEnd}
use Rattle.model.specs.declared.format.Version.{Version}
use Rattle.model.specs.declared.format.Version.TheVariants as versions
use Rattle.model.specs.declared.image.Image.{Image}
use Rattle.model.specs.declared.image.Label.{Label}
use Rattle.model.specs.declared.image.PatInstr.{PatInstr}
use Rattle.model.specs.declared.image.PatInstr.TheVariants as pats
use Rattle.model.specs.declared.instr.Instr.{Instr}
use Rattle.model.specs.declared.instr.Instr.TheVariants as op
use Rattle.model.specs.Machine.Steps.{Fetched, At}
use Rattle.model.specs.Language.Calls.{return_of}
use Rattle.model.specs.Module.Images.{instr_size, code_size, fetch_from}
use Rattle.model.specs.Language.Programs.{end_label}
use Rattle.model.specs.Module.Spelling.{newest}
use Rattle.model.specs.Language.Names.{is_protected, most_args}
use Rattle.model.specs.Module.Flow.{begins_at, is_jump_target, BreaksFlow, IsLeast}

-- ---- places of a module

-- the bytes of a string, and of a whole table
abbrev pub string_bytes : List ℕ → ℕ
string_bytes s = 4 + length s

abbrev pub pat_bytes : PatInstr → ℕ
pat_bytes (pats.Len n) = 9
pat_bytes (pats.Pos n) = 9
pat_bytes (pats.RPos n) = 9
pat_bytes (pats.Tab n) = 9
pat_bytes (pats.RTab n) = 9
pat_bytes _ = 5

abbrev pub pattern_bytes : List PatInstr → ℕ
pattern_bytes is = 4 + sum (map pat_bytes is)

-- where the entry stands, and the first entry of each table, in a version of the format
abbrev pub entry_offset : Version → ℕ
entry_offset versions.One = 6
entry_offset versions.Two = 8

abbrev pub labels_offset : Version → Image → ℕ
labels_offset v im = entry_offset v + 4 + 4 + sum (map string_bytes im.strings) + 4

abbrev pub statements_offset : Version → Image → ℕ
statements_offset v im = labels_offset v im + 8 * length im.labels + 4

-- how many bytes the cards have
abbrev pub cards_bytes : Version → Image → ℕ
cards_bytes versions.One im = 0
cards_bytes versions.Two im = 4 * length im.statements

abbrev pub expressions_offset : Version → Image → ℕ
expressions_offset v im = statements_offset v im + 4 * length im.statements + cards_bytes v im + 4

abbrev pub patterns_offset : Version → Image → ℕ
patterns_offset v im = expressions_offset v im + 4 * length im.expressions + 4

abbrev pub code_offset : Version → Image → ℕ
code_offset v im = patterns_offset v im + sum (map pattern_bytes im.patterns) + 4

-- ---- what an index, a name and an offset may be

abbrev pub is_statement : Image → ℕ → Bool
is_statement im k = nat_lt 0 k && not (nat_lt (length im.statements) k)

abbrev pub is_string : Image → ℕ → Bool
is_string im k = nat_lt k (length im.strings)

abbrev pub is_nonnull : Option (List ℕ) → Bool
is_nonnull None = false
is_nonnull (Some []) = false
is_nonnull (Some (b ∷ bs)) = true

abbrev pub is_nonnull_string : Image → ℕ → Bool
is_nonnull_string im k = is_nonnull (slice_get im.strings k)

abbrev pub is_begin : Fetched → Bool
is_begin (At (op.Begin f) next) = true
is_begin _ = false

-- the names of END and of the returns are no labels
abbrev pub is_label_name : Option (List ℕ) → Bool
is_label_name None = false
is_label_name (Some s) = is_nonnull (Some s) && not (bytes_eq s end_label) && is_none (return_of s)

-- a jump leads to an instruction of its pattern, or to its end
abbrev pub is_jump : ℕ → ℕ → ℤ → Bool
is_jump len place (pos d) = not (nat_lt len (place + d))
is_jump len place (negsuc d) = nat_lt d place

-- what may stand last in the code
abbrev pub is_last_instr : Instr → Bool
is_last_instr op.End = true
is_last_instr (op.Goto k) = true
is_last_instr (op.Return r) = true
is_last_instr op.GotoV = true
is_last_instr op.NoLabel = true
is_last_instr op.Fail = true
is_last_instr op.Ret = true
is_last_instr _ = false

abbrev pub is_end_instr : Instr → Bool
is_end_instr op.End = true
is_end_instr _ = false

-- the last statement begins here
abbrev pub begins_last : Image → ℕ → Bool
begins_last im at = is_at (newest im.statements)
  where
    is_at : Option ℕ → Bool
    is_at None = false
    is_at (Some o) = o == at

abbrev pub most_integer : ℕ
most_integer = 9223372036854775807

-- ---- the rules of each part; where a part breaks several, the least is reported

abbrev pub or_else : {A : Type 0} → Option A → Option A → Option A
or_else None y = y
or_else (Some x) y = Some x

abbrev pub unless : ModuleRule → Bool → Option ModuleRule
unless r true = None
unless r false = Some r

abbrev pub entry_rule : Image → Option ModuleRule
entry_rule im = unless BadIndex (is_statement im im.entry)

-- behind the labels before it
abbrev pub label_rule : Image → List Label → Label → Option ModuleRule
label_rule im front l = unless BadIndex (is_label_name (slice_get im.strings l.string) && is_statement im l.statement && not (list_any (λ e. e.string == l.string) front))

-- each statement begins with BEGIN, but the last
abbrev pub statement_rule : Image → List ℕ → ℕ → Option ModuleRule
statement_rule im front at = if suc (length front) == length im.statements then unless NoEnd (begins_at im at) else unless BadTarget (is_begin (fetch_from 0 im.code at))

abbrev pub expression_rule : Image → List ℕ → ℕ → Option ModuleRule
expression_rule im front at = unless BadTarget (begins_at im at)

-- of so many instructions, behind those before it
abbrev pub pat_rule : Image → ℕ → List PatInstr → PatInstr → Option ModuleRule
pat_rule im len front (pats.Lit k) = unless BadIndex (is_string im k)
pat_rule im len front (pats.Split d) = unless BadJump (is_jump len (length front) d)
pat_rule im len front (pats.Jmp d) = unless BadJump (is_jump len (length front) d)
pat_rule im len front (pats.Len n) = unless BadIndex (not (nat_lt most_integer n))
pat_rule im len front (pats.Pos n) = unless BadIndex (not (nat_lt most_integer n))
pat_rule im len front (pats.RPos n) = unless BadIndex (not (nat_lt most_integer n))
pat_rule im len front (pats.Tab n) = unless BadIndex (not (nat_lt most_integer n))
pat_rule im len front (pats.RTab n) = unless BadIndex (not (nat_lt most_integer n))
pat_rule im len front (pats.Any k) = unless BadIndex (is_nonnull_string im k)
pat_rule im len front (pats.NotAny k) = unless BadIndex (is_nonnull_string im k)
pat_rule im len front (pats.Span k) = unless BadIndex (is_nonnull_string im k)
pat_rule im len front (pats.Break k) = unless BadIndex (is_nonnull_string im k)

-- an instruction's numbers
abbrev pub indices_fit : Image → Instr → Bool
indices_fit im (op.Goto k) = is_statement im k
indices_fit im (op.Str k) = is_string im k
indices_fit im (op.Var k) = is_nonnull_string im k
indices_fit im (op.KeySet k) = not (is_protected k)
indices_fit im (op.Expr k) = nat_lt k (length im.expressions)
indices_fit im (op.CallV k n) = is_nonnull_string im k
indices_fit im (op.CallN k n) = is_nonnull_string im k
indices_fit im (op.PrimV p n) = not (nat_lt (most_args p) n)
indices_fit im (op.PrimN p n) = not (nat_lt (most_args p) n)
indices_fit im (op.Pat k) = nat_lt k (length im.patterns)
indices_fit im _ = true

-- its targets, and its own place
abbrev pub place_fits : Image → ℕ → Instr → Bool
place_fits im at (op.Begin f) = is_jump_target im at f && list_any (λ o. o == at) im.statements
place_fits im at (op.Try t) = is_jump_target im at t
place_fits im at _ = true

-- of the instruction at an offset, with the offset after it
abbrev pub instr_rule : Image → ℕ → ℕ → Instr → Option ModuleRule
instr_rule im at next i =
    or_else (unless BadIndex (indices_fit im i))
    (or_else (unless BadTarget (place_fits im at i && (is_last_instr i || not (next == code_size im.code))))
    (unless NoEnd (is_end_instr i || not (begins_last im at))))

-- ---- the first fault of the parts, in the order in which their bytes stand

abbrev pub fault_if : ℕ → Option ModuleRule → Option ModuleFault
fault_if at None = None
fault_if at (Some r) = Some (record { offset = at; rule = r })

-- parts one behind the other from a place on, each behind those before it
abbrev pub fault_among : {A : Type 0} → (List A → ℕ → A → Option ModuleFault) → (A → ℕ) → List A → ℕ → List A → Option ModuleFault
fault_among fault width front at [] = None
fault_among fault width front at (x ∷ xs) = or_else (fault front at x) (fault_among fault width (front ++ x ∷ []) (at + width x) xs)

abbrev pub pattern_fault : Image → List (List PatInstr) → ℕ → List PatInstr → Option ModuleFault
pattern_fault im front at is = fault_among (λ before place i. fault_if place (pat_rule im (length is) before i)) pat_bytes [] (at + 4) is

-- the code's offset counts from its own beginning
abbrev pub instr_fault : Image → List Instr → ℕ → Instr → Option ModuleFault
instr_fault im front at i = fault_if at (instr_rule im (code_size front) (code_size front + instr_size i) i)

abbrev pub part_fault : Version → Image → Option ModuleFault
part_fault v im =
    or_else (fault_if (entry_offset v) (entry_rule im))
    (or_else (fault_among (λ front at l. fault_if at (label_rule im front l)) (λ l. 8) [] (labels_offset v im) im.labels)
    (or_else (fault_among (λ front at o. fault_if at (statement_rule im front o)) (λ o. 4) [] (statements_offset v im) im.statements)
    (or_else (fault_among (λ front at o. fault_if at (expression_rule im front o)) (λ o. 4) [] (expressions_offset v im) im.expressions)
    (or_else (fault_among (pattern_fault im) pattern_bytes [] (patterns_offset v im) im.patterns)
    (fault_among (instr_fault im) instr_size [] (code_offset v im) im.code)))))

-- ---- all conditions

abbrev pub flow_fault : Version → Image → Option ℕ → Option ModuleFault
flow_fault v im None = None
flow_fault v im (Some at) = Some (record { offset = code_offset v im + at; rule = BadFlow })

abbrev pub number_of : ModuleRule → ℕ
number_of BadIndex = 1
number_of BadTarget = 2
number_of BadFlow = 3
number_of BadJump = 4
number_of NoEnd = 5

-- the one of the lesser offset, or of the lesser number there
abbrev pub comes_first : ModuleFault → ModuleFault → Bool
comes_first f g = nat_lt f.offset g.offset || (f.offset == g.offset && nat_lt (number_of f.rule) (number_of g.rule))

abbrev pub lesser_fault : Option ModuleFault → Option ModuleFault → Option ModuleFault
lesser_fault None g = g
lesser_fault (Some f) None = Some f
lesser_fault (Some f) (Some g) = if comes_first g f then Some g else Some f

-- whichever version its bytes are in
pub record IsWellFormed (im : Image) : Type 0 where
  pub parts : part_fault versions.Two im ≡ None
  pub flow : IsLeast (BreaksFlow im) None

-- what is reported of an image that is spelt in a version: its least fault, or none
abbrev pub IsTold : Version → Image → Option ModuleFault → Type 0
IsTold v im fault = (flow : Option ℕ) × IsLeast (BreaksFlow im) flow × (fault ≡ lesser_fault (part_fault v im) (flow_fault v im flow))
