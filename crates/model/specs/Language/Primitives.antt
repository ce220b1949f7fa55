-- Primitive functions.
use Rattle.std.specs.Prelude.{ℕ, zero, ◌*◌, List, [], ◌∷◌, length, map, ℤ, pos, negsuc, int_le, int_lt, int_rem, Option, None, Some, Bool, true, false, not, ◌&&◌, ◌||◌, nat_lt, nat_eq, bytes_eq, if◌then◌else◌, codes}
use Rattle.std.specs.List.{repeat}
use Rattle.model.specs.declared.primitives.PrimId.{PrimId}
use Rattle.model.specs.declared.primitives.PrimId.TheVariants as p
use Rattle.model.specs.declared.run.ErrorCode.TheVariants as error
use Rattle.model.specs.Deck.Trees.{Bytes}
use Rattle.model.specs.Deck.Target.{Name, Variable, Element, IntegerKey, StringKey}
use Rattle.model.specs.Language.Names.{prim_at, most_args}
use Rattle.model.specs.Language.Strings.{trimmed, replaced}
use Rattle.model.specs.Pattern.Patterns.{KLen, KPos, KRPos, KTab, KRTab, KAny, KNotAny, KSpan, KBreak}
use Rattle.model.specs.Language.Values.{Value, Str, Int, Pat, Nam, Exp, Obj, Makes, Function, Defined, Constructor, Field, TableOf, World, set_plain, keys_of}
use Rattle.model.specs.Language.Conversions.{Conv, Got, Bad, Op, Gives, Refuses, Faults, conv, then_conv, then_op, to_text, to_integer, to_pattern, to_label, to_variable, is_null, read_integer}
use Rattle.model.specs.Language.Operators.{kind_op}
use Rattle.model.specs.Language.Prototypes.{FunctionPrototype, function_prototype, TypePrototype, type_prototype, array_prototype}
use Rattle.model.specs.Language.Aggregates.{new_object, array_op, copy_op, element_op, type_of, as_array}
use Rattle.model.specs.Language.Calls.{Returned, AValue, AName, arg_at}

-- what a primitive comes to; APPLY may call a function that isn't one
pub data Outcome (P E : Type 0) : Type 0 where
  Returns : Returned P E → Outcome P E
  Calls : Bytes → List (Value P E) → Outcome P E

-- ---- comparing

-- s comes after t
abbrev pub comes_after : Bytes → Bytes → Bool
comes_after [] t = false
comes_after (a ∷ s) [] = true
comes_after (a ∷ s) (b ∷ t) = if nat_lt b a then true else (if nat_lt a b then false else comes_after s t)

abbrev pub int_same : ℤ → ℤ → Bool
int_same i j = int_le i j && int_le j i

-- the same place
abbrev pub same_name : Name → Name → Bool
same_name (Variable x) (Variable y) = bytes_eq x y
same_name (Element k i) (Element l j) = nat_eq k l && nat_eq i j
same_name (IntegerKey k i) (IntegerKey l j) = nat_eq k l && int_same i j
same_name (StringKey k s) (StringKey l t) = nat_eq k l && bytes_eq s t
same_name _ _ = false

abbrev pub is_got : {A : Type 0} → Conv A → Bool
is_got (Got z) = true
is_got (Bad e) = false

-- the function's own name, where no entry label is given
abbrev pub entry_or : Bytes → Option Bytes → Bytes
entry_or f None = f
entry_or f (Some l) = l

abbrev pub unit_number : ℤ → Conv ℕ
unit_number (pos n) = if nat_lt n 100 then Got n else Bad error.BadUnit
unit_number (negsuc n) = Bad error.BadUnit

module _ {P E : Type 0} where
  -- whether two values have one type and one content; of patterns and expressions it can't be asked
  abbrev pub same_value : Value P E → Value P E → Option Bool
  same_value (Pat p) v = None
  same_value (Exp e) v = None
  same_value (Str s) (Str t) = Some (bytes_eq s t)
  same_value (Int i) (Int j) = Some (int_same i j)
  same_value (Nam n) (Nam m) = Some (same_name n m)
  same_value (Obj k) (Obj l) = Some (nat_eq k l)
  same_value v (Pat p) = None
  same_value v (Exp e) = None
  same_value u v = Some false

  -- a predicate is null, or fails
  abbrev pub holds_if : Bool → World P E → Op (World P E) (Value P E)
  holds_if b w = if b then Gives (Str []) w else Refuses w

  abbrev pub compare_op : (ℤ → ℤ → Bool) → Value P E → Value P E → World P E → Op (World P E) (Value P E)
  compare_op test a b w = conv (to_integer a) w (λ i. conv (to_integer b) w (λ j. holds_if (test i j) w))

  abbrev pub lgt_op : Value P E → Value P E → World P E → Op (World P E) (Value P E)
  lgt_op a b w = conv (to_text a) w (λ s. conv (to_text b) w (λ t. holds_if (comes_after s t) w))

  abbrev pub same_op : (Bool → Bool) → Option Bool → World P E → Op (World P E) (Value P E)
  same_op f None w = Faults error.WrongType w
  same_op f (Some b) w = holds_if (f b) w

  abbrev pub is_integer : Value P E → Bool
  is_integer (Int z) = true
  is_integer (Str s) = is_got (read_integer s)
  is_integer _ = false

  -- ---- strings and integers

  abbrev pub size_op : Value P E → World P E → Op (World P E) (Value P E)
  size_op a w = conv (to_text a) w (λ s. Gives (Int (pos (length s))) w)

  abbrev pub trim_op : Value P E → World P E → Op (World P E) (Value P E)
  trim_op a w = conv (to_text a) w (λ s. Gives (Str (trimmed s)) w)

  abbrev pub repeated : Bytes → ℤ → World P E → Op (World P E) (Value P E)
  repeated s (pos n) w = if int_le (pos (n * length s)) (keys_of w).maxlngth then Gives (Str (repeat n s)) w else Faults error.StringTooLong w
  repeated s (negsuc n) w = Refuses w

  abbrev pub dupl_op : Value P E → Value P E → World P E → Op (World P E) (Value P E)
  dupl_op a b w = conv (to_text a) w (λ s. conv (to_integer b) w (λ n. repeated s n w))

  abbrev pub replaced_in : Bytes → Bytes → Bytes → World P E → Op (World P E) (Value P E)
  replaced_in s t u w = if nat_eq (length t) 0 || not (nat_eq (length t) (length u)) then Refuses w else Gives (Str (map (replaced t u) s)) w

  abbrev pub replace_op : Value P E → Value P E → Value P E → World P E → Op (World P E) (Value P E)
  replace_op a b c w = conv (to_text a) w (λ s. conv (to_text b) w (λ t. conv (to_text c) w (λ u. replaced_in s t u w)))

  -- the remainder of division cut towards zero
  abbrev pub remainder : ℤ → ℤ → World P E → Op (World P E) (Value P E)
  remainder i (pos zero) w = Faults error.Arithmetic w
  remainder i j w = Gives (Int (int_rem i j)) w

  abbrev pub remdr_op : Value P E → Value P E → World P E → Op (World P E) (Value P E)
  remdr_op a b w = conv (to_integer a) w (λ i. conv (to_integer b) w (λ j. remainder i j w))

  -- ---- CONVERT

  abbrev pub or_fail : {A : Type 0} → Conv A → World P E → (A → Op (World P E) (Value P E)) → Op (World P E) (Value P E)
  or_fail (Got a) w k = k a
  or_fail (Bad e) w k = Refuses w

  abbrev pub converted : Makes P E → Value P E → Bytes → World P E → Op (World P E) (Value P E)
  converted m v t w =
      if bytes_eq t (type_of w v) then Gives v w
      else if bytes_eq t (codes "STRING") then or_fail (to_text v) w (λ s. Gives (Str s) w)
      else if bytes_eq t (codes "INTEGER") then or_fail (to_integer v) w (λ z. Gives (Int z) w)
      else if bytes_eq t (codes "PATTERN") then or_fail (to_pattern m v) w (λ q. Gives (Pat q) w)
      else if bytes_eq t (codes "ARRAY") then as_array v w
      else Refuses w

  -- ---- functions

  abbrev pub set_function : Bytes → Function → World P E → World P E
  set_function f d w = set_plain (record w.plain { functions = λ g. if bytes_eq f g then Some d else w.plain.functions g }) w

  -- each field's function
  abbrev pub set_fields : List Bytes → World P E → World P E
  set_fields [] w = w
  set_fields (f ∷ fs) w = set_fields fs (set_function f Field w)

  abbrev pub data_op : Option TypePrototype → World P E → Op (World P E) (Value P E)
  data_op None w = Faults error.BadPrototype w
  data_op (Some t) w = Gives (Str []) (set_fields t.fields (set_function t.name (Constructor t.fields) w))

  -- the entry label, if one is given
  abbrev pub to_entry_label : Value P E → Conv (Option Bytes)
  to_entry_label v = if is_null v then Got None else then_conv (to_label v) (λ l. Got (Some l))

  abbrev pub define_op : Option Bytes → Option FunctionPrototype → World P E → Op (World P E) (Value P E)
  define_op entry None w = Faults error.BadPrototype w
  define_op entry (Some f) w = Gives (Str []) (set_function f.name (Defined (entry_or f.name entry) f.arguments f.locals) w)

  -- ---- units

  -- a null value stands for the usual unit
  abbrev pub unit_op : ℕ → Value P E → World P E → (ℕ → Op (World P E) (Value P E)) → Op (World P E) (Value P E)
  unit_op usual v w k = if is_null v then k usual else conv (to_integer v) w (λ z. conv (unit_number z) w k)

  abbrev pub set_reads : Bytes → Option ℕ → World P E → World P E
  set_reads x u w = set_plain (record w.plain { reads = λ y. if bytes_eq x y then u else w.plain.reads y }) w

  abbrev pub set_writes : Bytes → Option ℕ → World P E → World P E
  set_writes x u w = set_plain (record w.plain { writes = λ y. if bytes_eq x y then u else w.plain.writes y }) w

  abbrev pub input_op : Value P E → Value P E → World P E → Op (World P E) (Value P E)
  input_op a b w = conv (to_variable a) w (λ x. unit_op 5 b w (λ u. Gives (Str []) (set_reads x (Some u) w)))

  abbrev pub output_op : Value P E → Value P E → World P E → Op (World P E) (Value P E)
  output_op a b w = conv (to_variable a) w (λ x. unit_op 6 b w (λ u. Gives (Str []) (set_writes x (Some u) w)))

  abbrev pub detach_op : Value P E → World P E → Op (World P E) (Value P E)
  detach_op a w = conv (to_variable a) w (λ x. Gives (Str []) (set_writes x None (set_reads x None w)))

  -- ---- all

  abbrev pub returned : Op (World P E) (Value P E) → Op (World P E) (Outcome P E)
  returned o = then_op o (λ v w. Gives (Returns (AValue v)) w)

  abbrev pub item_op : List (Value P E) → World P E → Op (World P E) (Outcome P E)
  item_op [] w = Faults error.WrongType w
  item_op (v ∷ vs) w = then_op (element_op v vs w) (λ n w1. Gives (Returns (AName n)) w1)

  -- what APPLY does: k is what a primitive does
  abbrev pub applied : Bytes → List (Value P E) → World P E → (PrimId → Op (World P E) (Outcome P E)) → Option PrimId → Op (World P E) (Outcome P E)
  applied f vs w k None = Gives (Calls f vs) w
  applied f vs w k (Some q) = if nat_lt (most_args q) (length vs) then Faults error.TooManyArguments w else k q

  abbrev pub prim_op : Makes P E → PrimId → List (Value P E) → World P E → Op (World P E) (Outcome P E)
  prim_op m p.Len vs w = returned (kind_op m KLen (arg_at vs 0) w)
  prim_op m p.Pos vs w = returned (kind_op m KPos (arg_at vs 0) w)
  prim_op m p.RPos vs w = returned (kind_op m KRPos (arg_at vs 0) w)
  prim_op m p.Tab vs w = returned (kind_op m KTab (arg_at vs 0) w)
  prim_op m p.RTab vs w = returned (kind_op m KRTab (arg_at vs 0) w)
  prim_op m p.Any vs w = returned (kind_op m KAny (arg_at vs 0) w)
  prim_op m p.NotAny vs w = returned (kind_op m KNotAny (arg_at vs 0) w)
  prim_op m p.Span vs w = returned (kind_op m KSpan (arg_at vs 0) w)
  prim_op m p.Break vs w = returned (kind_op m KBreak (arg_at vs 0) w)
  prim_op m p.Arbno vs w = returned (conv (to_pattern m (arg_at vs 0)) w (λ q. Gives (Pat (m.arbno q)) w))
  prim_op m p.Eq vs w = returned (compare_op int_same (arg_at vs 0) (arg_at vs 1) w)
  prim_op m p.Ne vs w = returned (compare_op (λ i j. not (int_same i j)) (arg_at vs 0) (arg_at vs 1) w)
  prim_op m p.Lt vs w = returned (compare_op int_lt (arg_at vs 0) (arg_at vs 1) w)
  prim_op m p.Le vs w = returned (compare_op int_le (arg_at vs 0) (arg_at vs 1) w)
  prim_op m p.Gt vs w = returned (compare_op (λ i j. int_lt j i) (arg_at vs 0) (arg_at vs 1) w)
  prim_op m p.Ge vs w = returned (compare_op (λ i j. int_le j i) (arg_at vs 0) (arg_at vs 1) w)
  prim_op m p.Lgt vs w = returned (lgt_op (arg_at vs 0) (arg_at vs 1) w)
  prim_op m p.Ident vs w = returned (same_op (λ b. b) (same_value (arg_at vs 0) (arg_at vs 1)) w)
  prim_op m p.Differ vs w = returned (same_op not (same_value (arg_at vs 0) (arg_at vs 1)) w)
  prim_op m p.Integer vs w = returned (holds_if (is_integer (arg_at vs 0)) w)
  prim_op m p.Size vs w = returned (size_op (arg_at vs 0) w)
  prim_op m p.Trim vs w = returned (trim_op (arg_at vs 0) w)
  prim_op m p.Dupl vs w = returned (dupl_op (arg_at vs 0) (arg_at vs 1) w)
  prim_op m p.Replace vs w = returned (replace_op (arg_at vs 0) (arg_at vs 1) (arg_at vs 2) w)
  prim_op m p.Remdr vs w = returned (remdr_op (arg_at vs 0) (arg_at vs 1) w)
  prim_op m p.DataType vs w = returned (Gives (Str (type_of w (arg_at vs 0))) w)
  prim_op m p.Array vs w = returned (conv (to_text (arg_at vs 0)) w (λ s. array_op (array_prototype s) (arg_at vs 1) w))
  prim_op m p.Table vs w = returned (new_object (TableOf []) w)
  prim_op m p.Item vs w = item_op vs w
  prim_op m p.Copy vs w = returned (copy_op (arg_at vs 0) w)
  prim_op m p.Convert vs w = returned (conv (to_text (arg_at vs 1)) w (λ t. converted m (arg_at vs 0) t w))
  prim_op m p.Data vs w = returned (conv (to_text (arg_at vs 0)) w (λ s. data_op (type_prototype w.plain.level s) w))
  prim_op m p.Define vs w = returned (conv (to_text (arg_at vs 0)) w (λ s. conv (to_entry_label (arg_at vs 1)) w (λ l. define_op l (function_prototype w.plain.level s) w)))
  prim_op m p.Input vs w = returned (input_op (arg_at vs 0) (arg_at vs 1) w)
  prim_op m p.Output vs w = returned (output_op (arg_at vs 0) (arg_at vs 1) w)
  prim_op m p.Detach vs w = returned (detach_op (arg_at vs 0) w)
  prim_op m p.Fence vs w = returned (conv (to_pattern m (arg_at vs 0)) w (λ q. Gives (Pat (m.fence_of q)) w))
  prim_op m p.Apply [] w = Faults error.NotAName w
  prim_op m p.Apply (v ∷ vs) w = conv (to_variable v) w (λ f. applied f vs w (λ q. prim_op m q vs w) (prim_at w.plain.level f))
