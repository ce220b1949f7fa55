-- Reading a module from left to right, with the first fault that is met.
-- A fault is reported with the bytes that are left at it, so that no reader counts what was before.
use Rattle.std.specs.Prelude.{◌≡◌, ℕ, zero, suc, List, [], ◌∷◌, ◌++◌, length, take, drop, replicate, option_map, Bool, not, Option, Some, None, Result, Ok, Err, nat_lt, ◌==◌, if◌then◌else◌, slice_get, ℤ}
use Rattle.std.specs.Int.{Width, w16, w32, w64, byte_len, from_be_bytes, cast_signed}
use Rattle.model.specs.declared.format.FormatRule.{FormatRule}
use Rattle.model.specs.declared.format.FormatRule.TheVariants.{BadMagic, BadVersion, Truncated, TrailingBytes, BadTable, UnknownInstruction}
use Rattle.model.specs.declared.format.Miss.{Miss}
use Rattle.model.specs.declared.format.ReadError.{ReadError}
use Rattle.model.specs.declared.format.ReadError.TheVariants as errors
use Rattle.model.specs.declared.format.Version.{Version}
use Rattle.model.specs.declared.format.Version.TheVariants as versions
use Rattle.model.specs.declared.image.Image.{Image}
use Rattle.model.specs.declared.image.Label.{Label}
use Rattle.model.specs.declared.image.Level.{Level}
use Rattle.model.specs.declared.image.Level.TheVariants as levels
use Rattle.model.specs.declared.image.PatInstr.{PatInstr}
use Rattle.model.specs.declared.image.PatInstr.TheVariants as pats
use Rattle.model.specs.declared.instr.Instr.{Instr}
use Rattle.model.specs.declared.instr.Instr.TheVariants as instrs
use Rattle.model.specs.declared.primitives.PrimId.{PrimId}
use Rattle.model.specs.Language.Names.{keys, prims}
use Rattle.model.specs.Module.Codes.{return_kinds, sign_ops, arith_ops}
use Rattle.model.specs.Module.Spelling.{magic, version_number, most, most_code, is_new, newest, rises, statement_of, is_card, is_of}

infixl 10 ◌>>>◌
abbrev pub ◌>>>◌ : {A B : Type 0} → Option A → (A → Option B) → Option B
None >>> f = None
Some x >>> f = f x

-- ---- operands: a value, and the bytes after it; none if they are cut

unfoldable pub number : Width → List ℕ → Option (ℕ × List ℕ)
number w bytes = if nat_lt (length bytes) (byte_len w) then None else Some (from_be_bytes w (take (byte_len w) bytes), drop (byte_len w) bytes)

abbrev pub byte : List ℕ → Option (ℕ × List ℕ)
byte [] = None
byte (b ∷ bytes) = Some (b, bytes)

unfoldable pub alone : {I : Type 0} → I → List ℕ → Option (I × List ℕ)
alone i bytes = Some (i, bytes)

unfoldable pub wide : {I : Type 0} → (ℕ → I) → List ℕ → Option (I × List ℕ)
wide f bytes = number w32 bytes >>> λ n. Some (f n.0, n.1)

unfoldable pub short : {I : Type 0} → (ℕ → I) → List ℕ → Option (I × List ℕ)
short f bytes = number w16 bytes >>> λ n. Some (f n.0, n.1)

unfoldable pub long : {I : Type 0} → (ℕ → I) → List ℕ → Option (I × List ℕ)
long f bytes = number w64 bytes >>> λ n. Some (f n.0, n.1)

unfoldable pub whole_number : {I : Type 0} → (ℤ → I) → List ℕ → Option (I × List ℕ)
whole_number f bytes = number w64 bytes >>> λ n. Some (f (cast_signed w64 n.0), n.1)

unfoldable pub distance : {I : Type 0} → (ℤ → I) → List ℕ → Option (I × List ℕ)
distance f bytes = number w32 bytes >>> λ n. Some (f (cast_signed w32 n.0), n.1)

unfoldable pub call_operands : {I : Type 0} → (ℕ → ℕ → I) → List ℕ → Option (I × List ℕ)
call_operands f bytes = number w32 bytes >>> λ s. number w16 s.1 >>> λ n. Some (f s.0 n.0, n.1)

unfoldable pub choice : {I A : Type 0} → List A → (A → I) → List ℕ → Option (I × List ℕ)
choice xs f bytes = byte bytes >>> λ b. slice_get xs b.0 >>> λ x. Some (f x, b.1)

unfoldable pub prim : {I : Type 0} → (PrimId → ℕ → I) → List ℕ → Option (I × List ℕ)
prim f bytes = byte bytes >>> λ b. slice_get prims b.0 >>> λ p. byte b.1 >>> λ n. Some (f p n.0, n.1)

-- the reader of each code's operands
unfoldable pub readers : List (List ℕ → Option (Instr × List ℕ))
readers =
    alone instrs.End ∷
    wide instrs.Begin ∷
    alone instrs.Body ∷
    wide instrs.Goto ∷
    choice return_kinds instrs.Return ∷
    alone instrs.GotoV ∷
    alone instrs.NoLabel ∷
    wide instrs.Str ∷
    whole_number instrs.Int ∷
    alone instrs.Null ∷
    wide instrs.Var ∷
    alone instrs.Fetch ∷
    choice keys instrs.KeyGet ∷
    choice keys instrs.KeySet ∷
    alone instrs.Indir ∷
    short instrs.Elem ∷
    alone instrs.Assign ∷
    alone instrs.NameV ∷
    wide instrs.Expr ∷
    call_operands instrs.CallV ∷
    call_operands instrs.CallN ∷
    prim instrs.PrimV ∷
    prim instrs.PrimN ∷
    alone instrs.Drop ∷
    wide instrs.Try ∷
    alone instrs.Untry ∷
    alone instrs.Fail ∷
    choice sign_ops instrs.Sign ∷
    choice arith_ops instrs.Arith ∷
    alone instrs.Cat ∷
    alone instrs.Alt ∷
    alone instrs.Cond ∷
    alone instrs.Imm ∷
    alone instrs.Cursor ∷
    wide instrs.Pat ∷
    alone instrs.FetchK ∷
    alone instrs.Match ∷
    alone instrs.MatchR ∷
    alone instrs.Splice ∷
    alone instrs.Ret ∷
    []

-- the instruction in front; none if it is in no table or is cut
unfoldable pub instr_of : List ℕ → Option (Instr × List ℕ)
instr_of bytes = byte bytes >>> λ b. slice_get readers b.0 >>> λ r. r b.1

unfoldable pub pat_readers : List (List ℕ → Option (PatInstr × List ℕ))
pat_readers =
    wide pats.Lit ∷
    distance pats.Split ∷
    distance pats.Jmp ∷
    long pats.Len ∷
    long pats.Pos ∷
    long pats.RPos ∷
    long pats.Tab ∷
    long pats.RTab ∷
    wide pats.Any ∷
    wide pats.NotAny ∷
    wide pats.Span ∷
    wide pats.Break ∷
    []

-- what a reader in the code finds
abbrev pub Finds : {X Y : Type 0} → (X → Y) → Option X → Option Y → Type 0
Finds view None read = read ≡ None
Finds view (Some x) read = read ≡ Some (view x)

-- ---- fields: a value, and the bytes after it; or the fault

infixl 10 ◌>>=◌
abbrev pub ◌>>=◌ : {A B : Type 0} → Result A Miss → (A → Result B Miss) → Result B Miss
(Ok x) >>= f = f x
(Err e) >>= f = Err e

abbrev pub fault_at : {A : Type 0} → FormatRule → List ℕ → Result A Miss
fault_at rule bytes = Err (record { left = length bytes; rule = rule })

-- a field that is cut is reported at the end of the input
abbrev pub required : {A : Type 0} → Option A → Result A Miss
required None = fault_at Truncated []
required (Some x) = Ok x

abbrev pub checked : {A : Type 0} → Bool → FormatRule → List ℕ → A → Result A Miss
checked fine rule bytes x = if fine then Ok x else fault_at rule bytes

unfoldable pub number_at : Width → List ℕ → Result (ℕ × List ℕ) Miss
number_at w bytes = required (number w bytes)

-- a number that is fixed
unfoldable pub fixed_at : Width → ℕ → FormatRule → List ℕ → Result (List ℕ) Miss
fixed_at w k rule bytes = do
  n ← number_at w bytes
  checked (n.0 == k) rule bytes n.1

abbrev pub either : {X Y : Type 0} → Option X → Y → (X → Y) → Y
either None other f = other
either (Some x) other f = f x

abbrev pub level_of : ℕ → Option Level
level_of n = if n == 1 then Some levels.One else (if n == 2 then Some levels.Two else None)

-- the level; in version 1 there is one alone
unfoldable pub level_at : Version → List ℕ → Result (Level × List ℕ) Miss
level_at versions.One bytes = Ok (levels.One, bytes)
level_at versions.Two bytes = do
  n ← number_at w16 bytes
  either (level_of n.0) (fault_at BadVersion bytes) (λ l. Ok (l, n.1))

-- a number that is at most so great
unfoldable pub count_at : ℕ → List ℕ → Result (ℕ × List ℕ) Miss
count_at limit bytes = do
  n ← number_at w32 bytes
  checked (not (nat_lt limit n.0)) BadTable bytes n

-- so many bytes
abbrev pub bytes_at : ℕ → List ℕ → Result (List ℕ × List ℕ) Miss
bytes_at n bytes = if nat_lt (length bytes) n then fault_at Truncated [] else Ok (take n bytes, drop n bytes)

-- so many entries, each read behind those before it
unfoldable pub entries_from : {A : Type 0} → (List A → List ℕ → Result (A × List ℕ) Miss) → List A → ℕ → List ℕ → Result (List A × List ℕ) Miss
entries_from entry front zero bytes = Ok (front, bytes)
entries_from entry front (suc n) bytes = do
  x ← entry front bytes
  entries_from entry (front ++ x.0 ∷ []) n x.1

unfoldable pub table_at : {A : Type 0} → (List A → List ℕ → Result (A × List ℕ) Miss) → List ℕ → Result (List A × List ℕ) Miss
table_at entry bytes = do
  n ← count_at most bytes
  entries_from entry [] n.0 n.1

-- a length, and that many bytes
unfoldable pub text_at : List ℕ → Result (List ℕ × List ℕ) Miss
text_at bytes = do
  n ← number_at w32 bytes
  bytes_at n.0 n.1

unfoldable pub string_at : List (List ℕ) → List ℕ → Result (List ℕ × List ℕ) Miss
string_at front bytes = do
  s ← text_at bytes
  checked (is_new front s.0) BadTable bytes s

abbrev pub labelled : ℕ → ℕ → Label
labelled s k = record { string = s; statement = k }

unfoldable pub label_at : List Label → List ℕ → Result (Label × List ℕ) Miss
label_at front bytes = do
  s ← number_at w32 bytes
  k ← number_at w32 s.1
  checked (rises (option_map statement_of (newest front)) k.0) BadTable bytes (labelled s.0 k.0, k.1)

unfoldable pub statement_at : List ℕ → List ℕ → Result (ℕ × List ℕ) Miss
statement_at front bytes = do
  n ← number_at w32 bytes
  checked (rises (newest front) n.0) BadTable bytes n

unfoldable pub card_at : Level → List ℕ → List ℕ → Result (ℕ × List ℕ) Miss
card_at l front bytes = do
  n ← number_at w32 bytes
  checked (is_card l front n.0) BadTable bytes n

-- a card for each of so many statements; in version 1 none is known
unfoldable pub cards_at : Version → Level → ℕ → List ℕ → Result (List ℕ × List ℕ) Miss
cards_at versions.One l n bytes = Ok (replicate n 0, bytes)
cards_at versions.Two l n bytes = entries_from (card_at l) [] n bytes

unfoldable pub offset_at : List ℕ → List ℕ → Result (ℕ × List ℕ) Miss
offset_at front bytes = number_at w32 bytes

abbrev pub operand_at : List ℕ → Option (List ℕ → Option (PatInstr × List ℕ)) → List ℕ → Result (PatInstr × List ℕ) Miss
operand_at bytes None rest = fault_at UnknownInstruction bytes
operand_at bytes (Some r) rest = required (r rest)

unfoldable pub pat_instr_at : List PatInstr → List ℕ → Result (PatInstr × List ℕ) Miss
pat_instr_at front bytes = do
  b ← required (byte bytes)
  operand_at bytes (slice_get pat_readers b.0) b.1

unfoldable pub pattern_at : List (List PatInstr) → List ℕ → Result (List PatInstr × List ℕ) Miss
pattern_at front bytes = table_at pat_instr_at bytes

-- the instruction in front, if a level has it
unfoldable pub known_of : Level → List ℕ → Option (Instr × List ℕ)
known_of l bytes = instr_of bytes >>> λ i. if is_of l i.0 then Some i else None

-- the instructions of the code of a level; behind is what stands after it
unfoldable pub code_from : Level → List Instr → ℕ → List ℕ → List ℕ → Result (List Instr) Miss
code_from l front n behind [] = Ok front
code_from l front zero behind (b ∷ bytes) = fault_at UnknownInstruction ((b ∷ bytes) ++ behind)
code_from l front (suc n) behind (b ∷ bytes) = either (known_of l (b ∷ bytes)) (fault_at UnknownInstruction ((b ∷ bytes) ++ behind)) (λ i. code_from l (front ++ i.0 ∷ []) n behind i.1)

unfoldable pub code_at : Level → List ℕ → Result (List Instr × List ℕ) Miss
code_at l bytes = do
  n ← count_at most_code bytes
  code ← bytes_at n.0 n.1
  is ← code_from l [] n.0 code.1 code.0
  Ok (is, code.1)

unfoldable pub image_at : Version → List ℕ → Result (Image × List ℕ) Miss
image_at v bytes = do
  a ← fixed_at w32 magic BadMagic bytes
  b ← fixed_at w16 (version_number v) BadVersion a
  level ← level_at v b
  entry ← number_at w32 level.1
  strings ← table_at string_at entry.1
  labels ← table_at label_at strings.1
  statements ← table_at statement_at labels.1
  cards ← cards_at v level.0 (length statements.0) statements.1
  expressions ← table_at offset_at cards.1
  patterns ← table_at pattern_at expressions.1
  code ← code_at level.0 patterns.1
  Ok (record { level = level.0; entry = entry.0; strings = strings.0; labels = labels.0; statements = statements.0; cards = cards.0; expressions = expressions.0; patterns = patterns.0; code = code.0 }, code.1)

-- all of the bytes, in a version of the format
unfoldable pub image_in : Version → List ℕ → Result Image Miss
image_in v bytes = do
  m ← image_at v bytes
  checked (length m.1 == 0) TrailingBytes m.1 m.0

abbrev pub read_image : List ℕ → Result Image Miss
read_image bytes = image_in versions.Two bytes

-- ---- what a reader in the code returns

-- one that takes no memory
abbrev pub Reads : {X Y : Type 0} → (X → Y) → Result X Miss → Result Y Miss → Type 0
Reads view (Ok x) read = read ≡ Ok (view x)
Reads view (Err miss) read = read ≡ Err miss

-- one that takes memory, of which nothing is said where it was refused
abbrev pub Fails : {Y : Type 0} → ReadError → Result Y Miss → Type 0
Fails errors.Memory read = Unit {0}
Fails (errors.Fault f) read = read ≡ Err f

abbrev pub Gives : {X Y : Type 0} → (X → Y) → Result X ReadError → Result Y Miss → Type 0
Gives view (Ok x) read = read ≡ Ok (view x)
Gives view (Err e) read = Fails e read
