-- Arrays, tables and records.
use Rattle.std.specs.Prelude.{ℕ, ◌+◌, ◌*◌, List, [], ◌∷◌, ◌++◌, length, replicate, slice_get, ℤ, pos, ◌+ℤ◌, ◌-ℤ◌, nat_abs, int_le, int_lt, Option, None, Some, Bool, ◌&&◌, nat_lt, nat_eq, bytes_eq, if◌then◌else◌, codes}
use Rattle.model.specs.declared.run.ErrorCode.TheVariants as error
use Rattle.model.specs.Deck.Trees.{Bytes}
use Rattle.model.specs.Deck.Target.{Name, Element, IntegerKey, StringKey}
use Rattle.model.specs.Language.Values.{Value, Str, Int, Pat, Nam, Exp, Obj, Bounds, Key, IntegerAt, StringAt, Entry, Object, ArrayOf, TableOf, RecordOf, World, set_objects}
use Rattle.model.specs.Language.Conversions.{Conv, Got, Bad, Op, Gives, Refuses, Faults, conv, then_conv, to_integer, is_null}
use Rattle.model.specs.Language.Prototypes.{elements_in}

-- the place of an element among all, counted on from i by the dimensions that are left
abbrev pub place_from : ℕ → List Bounds → List ℤ → Option ℕ
place_from i [] [] = Some i
place_from i (b ∷ bs) (z ∷ zs) = if int_le b.low z && int_lt z (b.low +ℤ pos b.count) then place_from (i * b.count + nat_abs (z -ℤ b.low)) bs zs else None
place_from i _ _ = None

-- where the item stands among others, counted from i
abbrev pub index_of : ℕ → Bytes → List Bytes → Option ℕ
index_of i x [] = None
index_of i x (y ∷ ys) = if bytes_eq x y then Some i else index_of (i + 1) x ys

-- key and value of each entry whose value isn't null, where a key is this value
abbrev pub rows : {V : Type 0} → (V → Bool) → (Key → V) → List (Entry V) → List V
rows null value [] = []
rows null value (e ∷ es) = if null e.value then rows null value es else value e.key ∷ e.value ∷ rows null value es

-- how many they are
abbrev pub row_count : {V : Type 0} → (V → Bool) → List (Entry V) → ℕ
row_count null [] = 0
row_count null (e ∷ es) = if null e.value then row_count null es else row_count null es + 1

-- n rows of two
abbrev pub pairs : ℕ → List Bounds
pairs n = record { low = pos 1; count = n } ∷ record { low = pos 1; count = 2 } ∷ []

module _ {P E : Type 0} where
  -- ---- making

  -- a new object, and its value
  abbrev pub new_object : Object (Value P E) → World P E → Op (World P E) (Value P E)
  new_object o w = Gives (Obj (length w.objects)) (set_objects (w.objects ++ o ∷ []) w)

  abbrev pub array_op : Option (List Bounds) → Value P E → World P E → Op (World P E) (Value P E)
  array_op None v w = Faults error.BadArray w
  array_op (Some bs) v w = new_object (ArrayOf bs (replicate (elements_in bs) v)) w

  abbrev pub copy_of : Option (Object (Value P E)) → World P E → Op (World P E) (Value P E)
  copy_of (Some (ArrayOf bs vs)) w = new_object (ArrayOf bs vs) w
  copy_of _ w = Faults error.WrongType w

  abbrev pub copy_op : Value P E → World P E → Op (World P E) (Value P E)
  copy_op (Obj k) w = copy_of (slice_get w.objects k) w
  copy_op _ w = Faults error.WrongType w

  -- a record has a value for each field, missing ones null
  abbrev pub field_values : List Bytes → List (Value P E) → List (Value P E)
  field_values [] vs = []
  field_values (f ∷ fs) [] = Str [] ∷ field_values fs []
  field_values (f ∷ fs) (v ∷ vs) = v ∷ field_values fs vs

  -- ---- elements

  abbrev pub all_integers : List (Value P E) → Conv (List ℤ)
  all_integers [] = Got []
  all_integers (v ∷ vs) = then_conv (to_integer v) (λ z. then_conv (all_integers vs) (λ zs. Got (z ∷ zs)))

  abbrev pub named_element : ℕ → Option ℕ → World P E → Op (World P E) Name
  named_element k None w = Refuses w
  named_element k (Some i) w = Gives (Element k i) w

  abbrev pub keyed_name : ℕ → Value P E → Conv Name
  keyed_name k (Str s) = Got (StringKey k s)
  keyed_name k (Int z) = Got (IntegerKey k z)
  keyed_name k _ = Bad error.WrongType

  abbrev pub table_element : ℕ → List (Value P E) → World P E → Op (World P E) Name
  table_element k (v ∷ []) w = conv (keyed_name k v) w (λ n. Gives n w)
  table_element k _ w = Faults error.BadArray w

  abbrev pub element_in : ℕ → Option (Object (Value P E)) → List (Value P E) → World P E → Op (World P E) Name
  element_in k (Some (ArrayOf bs es)) vs w = if nat_eq (length vs) (length bs) then conv (all_integers vs) w (λ zs. named_element k (place_from 0 bs zs) w) else Faults error.BadArray w
  element_in k (Some (TableOf es)) vs w = table_element k vs w
  element_in k _ vs w = Faults error.WrongType w

  -- the name of an element, by its array or table and the subscripts
  abbrev pub element_op : Value P E → List (Value P E) → World P E → Op (World P E) Name
  element_op (Obj k) vs w = element_in k (slice_get w.objects k) vs w
  element_op _ vs w = Faults error.WrongType w

  -- ---- fields

  abbrev pub named_field : ℕ → Option ℕ → World P E → Op (World P E) Name
  named_field k None w = Faults error.WrongType w
  named_field k (Some i) w = Gives (Element k i) w

  abbrev pub field_in : Bytes → ℕ → Option (Object (Value P E)) → World P E → Op (World P E) Name
  field_in f k (Some (RecordOf t fs vs)) w = named_field k (index_of 0 f fs) w
  field_in f k _ w = Faults error.WrongType w

  -- the name of a record's field
  abbrev pub field_op : Bytes → Value P E → World P E → Op (World P E) Name
  field_op f (Obj k) w = field_in f k (slice_get w.objects k) w
  field_op f _ w = Faults error.WrongType w

  -- ---- types

  abbrev pub object_type : Option (Object (Value P E)) → Bytes
  object_type None = codes "ARRAY"
  object_type (Some (ArrayOf bs vs)) = codes "ARRAY"
  object_type (Some (TableOf es)) = codes "TABLE"
  object_type (Some (RecordOf t fs vs)) = t

  abbrev pub type_of : World P E → Value P E → Bytes
  type_of w (Str s) = codes "STRING"
  type_of w (Int z) = codes "INTEGER"
  type_of w (Pat p) = codes "PATTERN"
  type_of w (Nam n) = codes "NAME"
  type_of w (Exp e) = codes "EXPRESSION"
  type_of w (Obj k) = object_type (slice_get w.objects k)

  -- ---- tables as arrays

  abbrev pub value_of_key : Key → Value P E
  value_of_key (IntegerAt z) = Int z
  value_of_key (StringAt s) = Str s

  abbrev pub rows_array : List (Entry (Value P E)) → World P E → Op (World P E) (Value P E)
  rows_array es w =
      if nat_eq (row_count is_null es) 0 then Refuses w
      else if nat_lt 524288 (row_count is_null es) then Faults error.BadArray w
      else new_object (ArrayOf (pairs (row_count is_null es)) (rows is_null value_of_key es)) w

  abbrev pub table_array : Option (Object (Value P E)) → World P E → Op (World P E) (Value P E)
  table_array (Some (TableOf es)) w = rows_array es w
  table_array _ w = Refuses w

  abbrev pub as_array : Value P E → World P E → Op (World P E) (Value P E)
  as_array (Obj k) w = table_array (slice_get w.objects k) w
  as_array _ w = Refuses w
