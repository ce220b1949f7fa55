-- The one spelling of a module.
use Rattle.std.specs.Prelude.{◌≡◌, ℕ, ◌<◌, ◌≤◌, ◌^◌, List, [], ◌∷◌, ◌++◌, length, ◌-◌, slice_get, option_map, Bool, true, false, not, nat_lt, ◌==◌, Option, Some, None}
use Rattle.std.specs.List.{flat_map, list_any, AllByRecursion}
use Rattle.std.specs.Cmp.Lexicographic.{pointwise}
use Rattle.std.specs.Int.{w16, w32, w64, to_be_bytes, cast_unsigned}
use Rattle.std.specs.Int.RustNames.{FitsSigned}
use Rattle.model.specs.Module.Codes.{key_code, prim_code, return_code, sign_code, arith_code}
use Rattle.model.specs.declared.format.Version.{Version}
use Rattle.model.specs.declared.format.Version.TheVariants as versions
use Rattle.model.specs.declared.image.Image.{Image}
use Rattle.model.specs.declared.image.Label.{Label}
use Rattle.model.specs.declared.image.Level.{Level}
use Rattle.model.specs.declared.image.Level.TheVariants as levels
use Rattle.model.specs.declared.image.PatInstr.{PatInstr}
use Rattle.model.specs.declared.image.PatInstr.TheVariants as pats
use Rattle.model.specs.declared.instr.Instr.{Instr}
use Rattle.model.specs.declared.instr.Instr.TheVariants as instrs
use Rattle.model.specs.Language.Names.{is_newer}

-- numbers of two, four and eight bytes
unfoldable pub u16 : ℕ → List ℕ
u16 n = to_be_bytes w16 n

unfoldable pub u32 : ℕ → List ℕ
u32 n = to_be_bytes w32 n

unfoldable pub u64 : ℕ → List ℕ
u64 n = to_be_bytes w64 n

-- ---- instructions

abbrev pub opcode : Instr → ℕ
opcode instrs.End = 0
opcode (instrs.Begin f) = 1
opcode instrs.Body = 2
opcode (instrs.Goto k) = 3
opcode (instrs.Return r) = 4
opcode instrs.GotoV = 5
opcode instrs.NoLabel = 6
opcode (instrs.Str s) = 7
opcode (instrs.Int z) = 8
opcode instrs.Null = 9
opcode (instrs.Var s) = 10
opcode instrs.Fetch = 11
opcode (instrs.KeyGet k) = 12
opcode (instrs.KeySet k) = 13
opcode instrs.Indir = 14
opcode (instrs.Elem n) = 15
opcode instrs.Assign = 16
opcode instrs.NameV = 17
opcode (instrs.Expr e) = 18
opcode (instrs.CallV s n) = 19
opcode (instrs.CallN s n) = 20
opcode (instrs.PrimV p n) = 21
opcode (instrs.PrimN p n) = 22
opcode instrs.Drop = 23
opcode (instrs.Try t) = 24
opcode instrs.Untry = 25
opcode instrs.Fail = 26
opcode (instrs.Sign o) = 27
opcode (instrs.Arith o) = 28
opcode instrs.Cat = 29
opcode instrs.Alt = 30
opcode instrs.Cond = 31
opcode instrs.Imm = 32
opcode instrs.Cursor = 33
opcode (instrs.Pat p) = 34
opcode instrs.FetchK = 35
opcode instrs.Match = 36
opcode instrs.MatchR = 37
opcode instrs.Splice = 38
opcode instrs.Ret = 39

abbrev pub operands : Instr → List ℕ
operands instrs.End = []
operands (instrs.Begin f) = u32 f
operands instrs.Body = []
operands (instrs.Goto k) = u32 k
operands (instrs.Return r) = return_code r ∷ []
operands instrs.GotoV = []
operands instrs.NoLabel = []
operands (instrs.Str s) = u32 s
operands (instrs.Int z) = u64 (cast_unsigned w64 z)
operands instrs.Null = []
operands (instrs.Var s) = u32 s
operands instrs.Fetch = []
operands (instrs.KeyGet k) = key_code k ∷ []
operands (instrs.KeySet k) = key_code k ∷ []
operands instrs.Indir = []
operands (instrs.Elem n) = u16 n
operands instrs.Assign = []
operands instrs.NameV = []
operands (instrs.Expr e) = u32 e
operands (instrs.CallV s n) = u32 s ++ u16 n
operands (instrs.CallN s n) = u32 s ++ u16 n
operands (instrs.PrimV p n) = prim_code p ∷ n ∷ []
operands (instrs.PrimN p n) = prim_code p ∷ n ∷ []
operands instrs.Drop = []
operands (instrs.Try t) = u32 t
operands instrs.Untry = []
operands instrs.Fail = []
operands (instrs.Sign o) = sign_code o ∷ []
operands (instrs.Arith o) = arith_code o ∷ []
operands instrs.Cat = []
operands instrs.Alt = []
operands instrs.Cond = []
operands instrs.Imm = []
operands instrs.Cursor = []
operands (instrs.Pat p) = u32 p
operands instrs.FetchK = []
operands instrs.Match = []
operands instrs.MatchR = []
operands instrs.Splice = []
operands instrs.Ret = []

abbrev pub instr : Instr → List ℕ
instr i = opcode i ∷ operands i

-- ---- instructions of patterns

abbrev pub pat_kind : PatInstr → ℕ
pat_kind (pats.Lit n) = 0
pat_kind (pats.Split n) = 1
pat_kind (pats.Jmp n) = 2
pat_kind (pats.Len n) = 3
pat_kind (pats.Pos n) = 4
pat_kind (pats.RPos n) = 5
pat_kind (pats.Tab n) = 6
pat_kind (pats.RTab n) = 7
pat_kind (pats.Any n) = 8
pat_kind (pats.NotAny n) = 9
pat_kind (pats.Span n) = 10
pat_kind (pats.Break n) = 11

abbrev pub pat_operand : PatInstr → List ℕ
pat_operand (pats.Lit n) = u32 n
pat_operand (pats.Split n) = u32 (cast_unsigned w32 n)
pat_operand (pats.Jmp n) = u32 (cast_unsigned w32 n)
pat_operand (pats.Len n) = u64 n
pat_operand (pats.Pos n) = u64 n
pat_operand (pats.RPos n) = u64 n
pat_operand (pats.Tab n) = u64 n
pat_operand (pats.RTab n) = u64 n
pat_operand (pats.Any n) = u32 n
pat_operand (pats.NotAny n) = u32 n
pat_operand (pats.Span n) = u32 n
pat_operand (pats.Break n) = u32 n

abbrev pub pat_instr : PatInstr → List ℕ
pat_instr i = pat_kind i ∷ pat_operand i

-- ---- tables

-- a count, and that many entries
abbrev pub counted : {A : Type 0} → (A → List ℕ) → List A → List ℕ
counted spell xs = u32 (length xs) ++ flat_map spell xs

-- a length, and that many bytes
abbrev pub string : List ℕ → List ℕ
string s = u32 (length s) ++ s

abbrev pub label : Label → List ℕ
label l = u32 l.string ++ u32 l.statement

abbrev pub pattern : List PatInstr → List ℕ
pattern is = counted pat_instr is

abbrev pub code_bytes : List Instr → List ℕ
code_bytes is = flat_map instr is

-- `SNO4`
abbrev pub magic : ℕ
magic = 1397641012

abbrev pub version_number : Version → ℕ
version_number versions.One = 1
version_number versions.Two = 2

abbrev pub level_number : Level → ℕ
level_number levels.One = 1
level_number levels.Two = 2

-- what version 1 lacks
abbrev pub since_two : Version → List ℕ → List ℕ
since_two versions.One bytes = []
since_two versions.Two bytes = bytes

-- in a version of the format
abbrev pub spelling_in : Version → Image → List ℕ
spelling_in v m =
    u32 magic ++ (u16 (version_number v) ++ (since_two v (u16 (level_number m.level)) ++ (u32 m.entry
    ++ (counted string m.strings ++ (counted label m.labels ++ (counted u32 m.statements ++ (since_two v (flat_map u32 m.cards)
    ++ (counted u32 m.expressions ++ (counted pattern m.patterns ++ string (code_bytes m.code))))))))))

abbrev pub spelling : Image → List ℕ
spelling m = spelling_in versions.Two m

-- ---- what has a spelling

abbrev pub InstrFits : Instr → Type 0
InstrFits instrs.End = Unit {0}
InstrFits (instrs.Begin f) = f < 2 ^ 32
InstrFits instrs.Body = Unit {0}
InstrFits (instrs.Goto k) = k < 2 ^ 32
InstrFits (instrs.Return r) = Unit {0}
InstrFits instrs.GotoV = Unit {0}
InstrFits instrs.NoLabel = Unit {0}
InstrFits (instrs.Str s) = s < 2 ^ 32
InstrFits (instrs.Int z) = FitsSigned w64 z
InstrFits instrs.Null = Unit {0}
InstrFits (instrs.Var s) = s < 2 ^ 32
InstrFits instrs.Fetch = Unit {0}
InstrFits (instrs.KeyGet k) = Unit {0}
InstrFits (instrs.KeySet k) = Unit {0}
InstrFits instrs.Indir = Unit {0}
InstrFits (instrs.Elem n) = n < 2 ^ 16
InstrFits instrs.Assign = Unit {0}
InstrFits instrs.NameV = Unit {0}
InstrFits (instrs.Expr e) = e < 2 ^ 32
InstrFits (instrs.CallV s n) = (s < 2 ^ 32) × (n < 2 ^ 16)
InstrFits (instrs.CallN s n) = (s < 2 ^ 32) × (n < 2 ^ 16)
InstrFits (instrs.PrimV p n) = n < 2 ^ 8
InstrFits (instrs.PrimN p n) = n < 2 ^ 8
InstrFits instrs.Drop = Unit {0}
InstrFits (instrs.Try t) = t < 2 ^ 32
InstrFits instrs.Untry = Unit {0}
InstrFits instrs.Fail = Unit {0}
InstrFits (instrs.Sign o) = Unit {0}
InstrFits (instrs.Arith o) = Unit {0}
InstrFits instrs.Cat = Unit {0}
InstrFits instrs.Alt = Unit {0}
InstrFits instrs.Cond = Unit {0}
InstrFits instrs.Imm = Unit {0}
InstrFits instrs.Cursor = Unit {0}
InstrFits (instrs.Pat p) = p < 2 ^ 32
InstrFits instrs.FetchK = Unit {0}
InstrFits instrs.Match = Unit {0}
InstrFits instrs.MatchR = Unit {0}
InstrFits instrs.Splice = Unit {0}
InstrFits instrs.Ret = Unit {0}

abbrev pub PatFits : PatInstr → Type 0
PatFits (pats.Lit n) = n < 2 ^ 32
PatFits (pats.Split n) = FitsSigned w32 n
PatFits (pats.Jmp n) = FitsSigned w32 n
PatFits (pats.Len n) = n < 2 ^ 64
PatFits (pats.Pos n) = n < 2 ^ 64
PatFits (pats.RPos n) = n < 2 ^ 64
PatFits (pats.Tab n) = n < 2 ^ 64
PatFits (pats.RTab n) = n < 2 ^ 64
PatFits (pats.Any n) = n < 2 ^ 32
PatFits (pats.NotAny n) = n < 2 ^ 32
PatFits (pats.Span n) = n < 2 ^ 32
PatFits (pats.Break n) = n < 2 ^ 32

-- the most entries of a table, and the most bytes of code
abbrev pub most : ℕ
most = 16777216

abbrev pub most_code : ℕ
most_code = 1073741824

-- each entry fits behind those before it
abbrev pub Follow : {A : Type 0} → (List A → A → Type 0) → List A → List A → Type 0
Follow Fits front [] = Unit {0}
Follow Fits front (x ∷ xs) = Fits front x × Follow Fits (front ++ x ∷ []) xs

pub record IsTable {A : Type 0} (Fits : List A → A → Type 0) (xs : List A) : Type 0 where
  pub count : length xs ≤ most
  pub entries : Follow Fits [] xs

-- whether a string is none of these
abbrev pub is_new : List (List ℕ) → List ℕ → Bool
is_new front s = not (list_any (pointwise ◌==◌ s) front)

abbrev pub newest : {A : Type 0} → List A → Option A
newest xs = slice_get xs (length xs - 1)

-- whether a number is greater than the newest
abbrev pub rises : Option ℕ → ℕ → Bool
rises None n = true
rises (Some k) n = nat_lt k n

abbrev pub StringFits : List (List ℕ) → List ℕ → Type 0
StringFits front s = (length s < 2 ^ 32) × (is_new front s ≡ true)

abbrev pub statement_of : Label → ℕ
statement_of l = l.statement

abbrev pub LabelFits : List Label → Label → Type 0
LabelFits front l = (l.string < 2 ^ 32) × (l.statement < 2 ^ 32) × (rises (option_map statement_of (newest front)) l.statement ≡ true)

abbrev pub StatementFits : List ℕ → ℕ → Type 0
StatementFits front n = (n < 2 ^ 32) × (rises (newest front) n ≡ true)

-- whether a number is the next card behind those before it: at level 2 cards begin at 1 and never fall
abbrev pub falls : Option ℕ → ℕ → Bool
falls None n = nat_lt n 1
falls (Some k) n = nat_lt n k

abbrev pub is_card : Level → List ℕ → ℕ → Bool
is_card levels.One front n = n == 0
is_card levels.Two front n = not (falls (newest front) n)

abbrev pub CardFits : Level → List ℕ → ℕ → Type 0
CardFits l front n = (n < 2 ^ 32) × (is_card l front n ≡ true)

-- a card for each statement
pub record AreCards (l : Level) (statements cards : List ℕ) : Type 0 where
  pub count : length cards ≡ length statements
  pub entries : Follow (CardFits l) [] cards

-- whether a level has an instruction: FENCE of a pattern came with level 2
abbrev pub is_of_one : Instr → Bool
is_of_one (instrs.PrimV p n) = not (is_newer p)
is_of_one (instrs.PrimN p n) = not (is_newer p)
is_of_one _ = true

abbrev pub is_of : Level → Instr → Bool
is_of levels.One i = is_of_one i
is_of levels.Two i = true

abbrev pub IsOf : Level → Instr → Type 0
IsOf l i = is_of l i ≡ true

abbrev pub OffsetFits : List ℕ → ℕ → Type 0
OffsetFits front n = n < 2 ^ 32

abbrev pub PatInstrFits : List PatInstr → PatInstr → Type 0
PatInstrFits front i = PatFits i

abbrev pub PatternFits : List (List PatInstr) → List PatInstr → Type 0
PatternFits front is = IsTable PatInstrFits is

-- what has a spelling
pub record IsImage (m : Image) : Type 0 where
  pub entry : m.entry < 2 ^ 32
  pub strings : IsTable StringFits m.strings
  pub labels : IsTable LabelFits m.labels
  pub statements : IsTable StatementFits m.statements
  pub cards : AreCards m.level m.statements m.cards
  pub expressions : IsTable OffsetFits m.expressions
  pub patterns : IsTable PatternFits m.patterns
  pub code : AllByRecursion InstrFits m.code
  pub code_length : length (code_bytes m.code) ≤ most_code
  pub level : AllByRecursion (IsOf m.level) m.code

-- what has a spelling in a version: in version 1 the images of level 1
abbrev pub HasLevel : Version → Level → Type 0
HasLevel versions.One l = l ≡ levels.One
HasLevel versions.Two l = Unit {0}

pub record IsImageIn (v : Version) (m : Image) : Type 0 where
  pub image : IsImage m
  pub level : HasLevel v m.level
