-- Prototypes: the texts by which DEFINE, DATA and ARRAY are told what to make.
use Rattle.std.specs.Prelude.{ℕ, ◌+◌, ◌*◌, List, [], ◌∷◌, ◌++◌, length, ℤ, pos, ◌-ℤ◌, nat_abs, int_le, Option, None, Some, option_map, Bool, true, false, not, ◌&&◌, ◌||◌, nat_le, nat_lt, ◌==◌, bytes_eq, is_some, if◌then◌else◌, codes}
use Rattle.std.specs.List.{list_any, list_all}
use Rattle.model.specs.declared.image.Level.{Level}
use Rattle.model.specs.Deck.Trees.{Bytes}
use Rattle.model.specs.Language.Names.{prim_at}
use Rattle.model.specs.Language.Values.{Bounds}
use Rattle.model.specs.Language.Conversions.{Conv, Got, Bad, read_integer}

-- ---- parts of a text

pub record Cut : Type 0 where
  pub before : Bytes
  pub after : Bytes

-- at the first such byte
abbrev pub cut_at : ℕ → Bytes → Option Cut
cut_at mark [] = None
cut_at mark (b ∷ bs) = if b == mark then Some (record { before = []; after = bs }) else option_map (λ c. record { before = b ∷ c.before; after = c.after }) (cut_at mark bs)

-- with one more byte before the first part
abbrev pub begun_with : ℕ → List Bytes → List Bytes
begun_with b [] = (b ∷ []) ∷ []
begun_with b (part ∷ parts) = (b ∷ part) ∷ parts

-- what stands between such bytes
abbrev pub split_at : ℕ → Bytes → List Bytes
split_at mark [] = [] ∷ []
split_at mark (b ∷ bs) = if b == mark then [] ∷ split_at mark bs else begun_with b (split_at mark bs)

-- a list of names with commas, which may be empty
abbrev pub listed : Bytes → List Bytes
listed [] = []
listed (b ∷ bs) = split_at 44 (b ∷ bs)

-- ---- names

abbrev pub is_letter : ℕ → Bool
is_letter b = (nat_le 65 b && nat_le b 90) || (nat_le 97 b && nat_le b 122)

-- a letter, a digit, `.` or `_`
abbrev pub is_name_byte : ℕ → Bool
is_name_byte b = is_letter b || (nat_le 48 b && nat_le b 57) || b == 46 || b == 95

abbrev pub is_name : Bytes → Bool
is_name [] = false
is_name (b ∷ bs) = is_letter b && list_all is_name_byte bs

abbrev pub are_distinct : List Bytes → Bool
are_distinct [] = true
are_distinct (x ∷ xs) = not (list_any (λ y. bytes_eq x y) xs) && are_distinct xs

abbrev pub is_primitive : Level → Bytes → Bool
is_primitive l f = is_some (prim_at l f)

-- the types of values that aren't a programmer's
abbrev pub own_types : List Bytes
own_types = codes "STRING" ∷ codes "INTEGER" ∷ codes "PATTERN" ∷ codes "NAME" ∷ codes "EXPRESSION" ∷ codes "ARRAY" ∷ codes "TABLE" ∷ []

-- ---- of DEFINE: `NAME(ARGUMENT,..)LOCAL,..`

pub record FunctionPrototype : Type 0 where
  pub name : Bytes
  pub arguments : List Bytes
  pub locals : List Bytes

abbrev pub is_function : Level → FunctionPrototype → Bool
is_function l f = let names : List Bytes = f.name ∷ (f.arguments ++ f.locals) in list_all is_name names && are_distinct names && not (is_primitive l f.name)

abbrev pub passing : {A : Type 0} → (A → Bool) → Option A → Option A
passing test None = None
passing test (Some a) = if test a then Some a else None

abbrev pub function_rest : Bytes → Option Cut → Option FunctionPrototype
function_rest name None = None
function_rest name (Some c) = Some (record { name = name; arguments = listed c.before; locals = listed c.after })

abbrev pub function_cut : Option Cut → Option FunctionPrototype
function_cut None = None
function_cut (Some c) = function_rest c.before (cut_at 41 c.after)

abbrev pub function_prototype : Level → Bytes → Option FunctionPrototype
function_prototype l text = passing (is_function l) (function_cut (cut_at 40 text))

-- ---- of DATA: `TYPE(FIELD,..)`

pub record TypePrototype : Type 0 where
  pub name : Bytes
  pub fields : List Bytes
  -- what stands after the bracket
  pub rest : Bytes

abbrev pub is_type : Level → TypePrototype → Bool
is_type l t =
    let names : List Bytes = t.name ∷ t.fields in
    nat_lt 0 (length t.fields) && list_all is_name names && are_distinct names && not (list_any (is_primitive l) names) && not (list_any (λ x. bytes_eq t.name x) own_types) && length t.rest == 0

abbrev pub type_rest : Bytes → Option Cut → Option TypePrototype
type_rest name None = None
type_rest name (Some c) = Some (record { name = name; fields = listed c.before; rest = c.after })

abbrev pub type_cut : Option Cut → Option TypePrototype
type_cut None = None
type_cut (Some c) = type_rest c.before (cut_at 41 c.after)

abbrev pub type_prototype : Level → Bytes → Option TypePrototype
type_prototype l text = passing (is_type l) (type_cut (cut_at 40 text))

-- ---- of ARRAY: `n` or `low:high`, up to eight with commas

abbrev pub as_some : {A : Type 0} → Conv A → Option A
as_some (Got a) = Some a
as_some (Bad e) = None

abbrev pub written_integer : Bytes → Option ℤ
written_integer [] = None
written_integer (b ∷ bs) = as_some (read_integer (b ∷ bs))

abbrev pub bounds_from : Option ℤ → Option ℤ → Option Bounds
bounds_from (Some low) (Some high) = if int_le low high then Some (record { low = low; count = nat_abs (high -ℤ low) + 1 }) else None
bounds_from _ _ = None

abbrev pub bounds_cut : Bytes → Option Cut → Option Bounds
bounds_cut part None = bounds_from (Some (pos 1)) (written_integer part)
bounds_cut part (Some c) = bounds_from (written_integer c.before) (written_integer c.after)

abbrev pub bounds_of : Bytes → Option Bounds
bounds_of part = bounds_cut part (cut_at 58 part)

abbrev pub with_bounds : Option Bounds → Option (List Bounds) → Option (List Bounds)
with_bounds (Some b) (Some bs) = Some (b ∷ bs)
with_bounds _ _ = None

abbrev pub all_bounds : List Bytes → Option (List Bounds)
all_bounds [] = Some []
all_bounds (part ∷ parts) = with_bounds (bounds_of part) (all_bounds parts)

abbrev pub elements_in : List Bounds → ℕ
elements_in [] = 1
elements_in (b ∷ bs) = b.count * elements_in bs

abbrev pub are_bounds : List Bounds → Bool
are_bounds bs = nat_le (length bs) 8 && nat_le (elements_in bs) 1048576

abbrev pub array_prototype : Bytes → Option (List Bounds)
array_prototype text = passing are_bounds (all_bounds (split_at 44 text))
