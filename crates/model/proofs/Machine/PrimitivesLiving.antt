-- Primitives and calls on worlds that are the same but for objects without marks come to the same.
use Rattle.std.proofs.Common.{◌≡◌, refl, sym, ap, ◌∙◌, subst, bytes_eq, if◌then◌else◌, ℕ, zero, suc, List, [], ◌∷◌, ◌++◌, replicate, slice_get, length, ℤ, pos, negsuc, Option, Some, None, Bool, codes}
use Rattle.std.specs.List.{AllByRecursion}
use Rattle.model.specs.declared.instr.ReturnKind.{ReturnKind}
use Rattle.model.specs.declared.instr.ReturnKind.TheVariants as kind
use Rattle.model.specs.declared.primitives.PrimId.{PrimId}
use Rattle.model.specs.declared.primitives.PrimId.TheVariants as p
use Rattle.model.specs.Deck.Trees.{Bytes}
use Rattle.model.specs.Deck.Target.{Name}
use Rattle.model.specs.Language.Names.{prim_at}
use Rattle.model.specs.Pattern.Patterns.{KLen, KPos, KRPos, KTab, KRTab, KAny, KNotAny, KSpan, KBreak}
use Rattle.model.specs.Language.Values.{Constructor, Str, Int, Pat, Nam, Exp, Obj, Bounds, Key, IntegerAt, StringAt, Entry, Object, ArrayOf, TableOf, RecordOf, set_objects, set_var, keys_of, set_keys}
use Rattle.model.specs.Language.Keywords.{counted_up, return_name}
use Rattle.model.specs.Language.Conversions.{Conv, Got, Bad, Op, Gives, Refuses, conv, to_text, to_integer, to_pattern, to_name, to_variable, is_null}
use Rattle.model.specs.Language.Prototypes.{FunctionPrototype, function_prototype, TypePrototype, type_prototype, array_prototype, elements_in}
use Rattle.model.specs.Language.Aggregates as g
use Rattle.model.specs.Language.Aggregates.{place_from, index_of, pairs, new_object, array_op, copy_of, copy_op, field_values, all_integers, named_element, keyed_name, table_element, element_in, element_op, named_field, field_in, field_op, object_type, type_of, rows, row_count, rows_array, table_array, as_array}
use Rattle.model.specs.Language.Calls.{AValue, AName, Saved, Kept, arg_at, saved_of, bind_arguments, restore, kept_of, enter_call, or_no_name, back_to_caller, leave_op, as_value, as_name, construct_op, select_op}
use Rattle.model.specs.Language.Primitives.{Outcome, same_value, holds_if, compare_op, comes_after, same_op, is_integer, repeated, replaced_in, remainder, or_fail, converted, set_function, set_fields, data_op, to_entry_label, define_op, unit_number, unit_op, set_reads, set_writes, returned, item_op, applied, prim_op}
use Rattle.model.specs.Machine.Steps.{PCode, codes_of, MVal, MW, MBack}
use Rattle.model.specs.Machine.Living.{NameLives, CodeLives, ValueLives, ValuesLive, EntriesLive, ObjectLives, WorldLives, ReturnedLives, OutcomeLives, SavedLives, KeptLives}
use Rattle.model.proofs.Machine.Lists.{IfThere, choice_in, replicate_in}
use Rattle.model.proofs.Machine.OperationsIn.{Any, IfGot}
use Rattle.model.proofs.Machine.OperationsLiving.{Heap, choice_alike, get_alike, append_alike, sizes_alike, next_marked, OpAlike, gives, refuses, faults, conv_alike, got_alike, then_alike, at_object, pattern_lives, name_lives, arbno_code_lives, fence_code_lives, var_lives, fetch_alike, kind_alike}

module _ (n : ℕ → Bool) where
  -- ---- new objects

  new_alike : (o : Object MVal) (w : MW) (os : Heap) → ObjectLives n o → WorldLives n w os → OpAlike n (ValueLives n) (new_object o w) (new_object o (set_objects os w))
  new_alike o w os h i =
      subst (λ m. OpAlike n (ValueLives n) (new_object o w) (Gives (Obj m) (set_objects (os ++ o ∷ []) w))) (sym (sizes_alike n n w.objects os i.objects))
      (gives {a = Obj (length w.objects)} {w = set_objects (w.objects ++ o ∷ []) w} {os = os ++ o ∷ []} (next_marked n n w.objects os i.objects) (record { vars = i.vars; objects = append_alike n n o w.objects os h i.objects }))

  array_alike : (o : Option (List Bounds)) (v : MVal) (w : MW) (os : Heap) → ValueLives n v → WorldLives n w os → OpAlike n (ValueLives n) (array_op o v w) (array_op o v (set_objects os w))
  array_alike None v w os h i = faults i
  array_alike (Some bs) v w os h i = new_alike (ArrayOf bs (replicate (elements_in bs) v)) w os (replicate_in (ValueLives n) (elements_in bs) v h) i

  copy_of_alike : (o : Option (Object MVal)) (w : MW) (os : Heap) → IfThere (ObjectLives n) o → WorldLives n w os → OpAlike n (ValueLives n) (copy_of o w) (copy_of o (set_objects os w))
  copy_of_alike None w os h i = faults i
  copy_of_alike (Some (ArrayOf bs vs)) w os h i = new_alike (ArrayOf bs vs) w os h i
  copy_of_alike (Some (TableOf es)) w os h i = faults i
  copy_of_alike (Some (RecordOf t fs vs)) w os h i = faults i

  copy_alike : (v : MVal) (w : MW) (os : Heap) → ValueLives n v → WorldLives n w os → OpAlike n (ValueLives n) (copy_op v w) (copy_op v (set_objects os w))
  copy_alike (Obj k) w os m i = at_object n (ValueLives n) (λ o. copy_of o w) (λ o. copy_of o (set_objects os w)) w os k m i (λ o h. copy_of_alike o w os h i)
  copy_alike v w os m i = faults i

  field_values_live : (fs : List Bytes) (vs : List MVal) → ValuesLive n vs → ValuesLive n (field_values fs vs)
  field_values_live [] vs h = tt
  field_values_live (f ∷ fs) [] h = (tt, field_values_live fs [] tt)
  field_values_live (f ∷ fs) (v ∷ vs) h = (h.0, field_values_live fs vs h.1)

  -- ---- elements and fields

  named_alike : (k : ℕ) (o : Option ℕ) (w : MW) (os : Heap) → ValueLives n (Obj k) → WorldLives n w os → OpAlike n (NameLives n) (named_element k o w) (named_element k o (set_objects os w))
  named_alike k None w os m i = refuses i
  named_alike k (Some j) w os m i = gives m i

  keyed_lives : (k : ℕ) (v : MVal) → ValueLives n (Obj k) → IfGot (NameLives n) (keyed_name k v)
  keyed_lives k (Str s) m = m
  keyed_lives k (Int z) m = m
  keyed_lives k (Pat c) m = tt
  keyed_lives k (Nam x) m = tt
  keyed_lives k (Exp e) m = tt
  keyed_lives k (Obj l) m = tt

  table_alike : (k : ℕ) (vs : List MVal) (w : MW) (os : Heap) → ValueLives n (Obj k) → WorldLives n w os → OpAlike n (NameLives n) (table_element k vs w) (table_element k vs (set_objects os w))
  table_alike k [] w os m i = faults i
  table_alike k (v ∷ []) w os m i = got_alike n (NameLives n) (NameLives n) (keyed_name k v) w os _ _ (keyed_lives k v m) i (λ x h. gives h i)
  table_alike k (v ∷ u ∷ vs) w os m i = faults i

  element_in_alike : (k : ℕ) (o : Option (Object MVal)) (vs : List MVal) (w : MW) (os : Heap) → ValueLives n (Obj k) → WorldLives n w os → OpAlike n (NameLives n) (element_in k o vs w) (element_in k o vs (set_objects os w))
  element_in_alike k None vs w os m i = faults i
  element_in_alike k (Some (ArrayOf bs es)) vs w os m i = choice_alike (OpAlike n (NameLives n)) _ (conv_alike n (NameLives n) (all_integers vs) w os _ _ i (λ zs. named_alike k (place_from 0 bs zs) w os m i)) (faults i)
  element_in_alike k (Some (TableOf es)) vs w os m i = table_alike k vs w os m i
  element_in_alike k (Some (RecordOf t fs es)) vs w os m i = faults i

  pub element_alike : (v : MVal) (vs : List MVal) (w : MW) (os : Heap) → ValueLives n v → WorldLives n w os → OpAlike n (NameLives n) (element_op v vs w) (element_op v vs (set_objects os w))
  element_alike (Obj k) vs w os m i = at_object n (NameLives n) (λ o. element_in k o vs w) (λ o. element_in k o vs (set_objects os w)) w os k m i (λ o h. element_in_alike k o vs w os m i)
  element_alike v vs w os m i = faults i

  named_field_alike : (k : ℕ) (o : Option ℕ) (w : MW) (os : Heap) → ValueLives n (Obj k) → WorldLives n w os → OpAlike n (NameLives n) (named_field k o w) (named_field k o (set_objects os w))
  named_field_alike k None w os m i = faults i
  named_field_alike k (Some j) w os m i = gives m i

  field_in_alike : (f : Bytes) (k : ℕ) (o : Option (Object MVal)) (w : MW) (os : Heap) → ValueLives n (Obj k) → WorldLives n w os → OpAlike n (NameLives n) (field_in f k o w) (field_in f k o (set_objects os w))
  field_in_alike f k None w os m i = faults i
  field_in_alike f k (Some (ArrayOf bs vs)) w os m i = faults i
  field_in_alike f k (Some (TableOf es)) w os m i = faults i
  field_in_alike f k (Some (RecordOf t fs vs)) w os m i = named_field_alike k (index_of 0 f fs) w os m i

  field_alike : (f : Bytes) (v : MVal) (w : MW) (os : Heap) → ValueLives n v → WorldLives n w os → OpAlike n (NameLives n) (field_op f v w) (field_op f v (set_objects os w))
  field_alike f (Obj k) w os m i = at_object n (NameLives n) (λ o. field_in f k o w) (λ o. field_in f k o (set_objects os w)) w os k m i (λ o h. field_in_alike f k o w os m i)
  field_alike f v w os m i = faults i

  -- ---- types

  type_alike : (v : MVal) (w : MW) (os : Heap) → ValueLives n v → WorldLives n w os → type_of (set_objects os w) v ≡ type_of w v
  type_alike (Str s) w os m i = refl
  type_alike (Int z) w os m i = refl
  type_alike (Pat c) w os m i = refl
  type_alike (Nam x) w os m i = refl
  type_alike (Exp e) w os m i = refl
  type_alike (Obj k) w os m i = subst (λ o. object_type o ≡ object_type (slice_get w.objects k)) (sym (get_alike n n w.objects os k i.objects m).0) refl

  -- ---- tables as arrays

  key_lives : (k : Key) → ValueLives n (g.value_of_key k)
  key_lives (IntegerAt z) = tt
  key_lives (StringAt s) = tt

  rows_live : (es : List (Entry MVal)) → EntriesLive n es → ValuesLive n (rows is_null g.value_of_key es)
  rows_live [] h = tt
  rows_live (e ∷ es) h = choice_in (ValuesLive n) (is_null e.value) (rows_live es h.1) (key_lives e.key, (h.0, rows_live es h.1))

  rows_array_alike : (es : List (Entry MVal)) (w : MW) (os : Heap) → EntriesLive n es → WorldLives n w os → OpAlike n (ValueLives n) (rows_array es w) (rows_array es (set_objects os w))
  rows_array_alike es w os h i =
      choice_alike (OpAlike n (ValueLives n)) _ (refuses i) (choice_alike (OpAlike n (ValueLives n)) _ (faults i) (new_alike (ArrayOf (pairs (row_count is_null es)) (rows is_null g.value_of_key es)) w os (rows_live es h) i))

  table_array_alike : (o : Option (Object MVal)) (w : MW) (os : Heap) → IfThere (ObjectLives n) o → WorldLives n w os → OpAlike n (ValueLives n) (table_array o w) (table_array o (set_objects os w))
  table_array_alike None w os h i = refuses i
  table_array_alike (Some (ArrayOf bs vs)) w os h i = refuses i
  table_array_alike (Some (TableOf es)) w os h i = rows_array_alike es w os h i
  table_array_alike (Some (RecordOf t fs vs)) w os h i = refuses i

  as_array_alike : (v : MVal) (w : MW) (os : Heap) → ValueLives n v → WorldLives n w os → OpAlike n (ValueLives n) (as_array v w) (as_array v (set_objects os w))
  as_array_alike (Obj k) w os m i = at_object n (ValueLives n) (λ o. table_array o w) (λ o. table_array o (set_objects os w)) w os k m i (λ o h. table_array_alike o w os h i)
  as_array_alike v w os m i = refuses i

  -- ---- predicates, strings and integers

  pub arg_lives : (vs : List MVal) (k : ℕ) → ValuesLive n vs → ValueLives n (arg_at vs k)
  arg_lives [] k h = tt
  arg_lives (v ∷ vs) zero h = h.0
  arg_lives (v ∷ vs) (suc k) h = arg_lives vs k h.1

  holds_alike : (b : Bool) (w : MW) (os : Heap) → WorldLives n w os → OpAlike n (ValueLives n) (holds_if b w) (holds_if b (set_objects os w))
  holds_alike b w os i = choice_alike (OpAlike n (ValueLives n)) b (gives tt i) (refuses i)

  compare_alike : (test : ℤ → ℤ → Bool) (a b : MVal) (w : MW) (os : Heap) → WorldLives n w os → OpAlike n (ValueLives n) (compare_op test a b w) (compare_op test a b (set_objects os w))
  compare_alike test a b w os i = conv_alike n (ValueLives n) (to_integer a) w os _ _ i (λ x. conv_alike n (ValueLives n) (to_integer b) w os _ _ i (λ y. holds_alike (test x y) w os i))

  same_alike : (f : Bool → Bool) (o : Option Bool) (w : MW) (os : Heap) → WorldLives n w os → OpAlike n (ValueLives n) (same_op f o w) (same_op f o (set_objects os w))
  same_alike f None w os i = faults i
  same_alike f (Some b) w os i = holds_alike (f b) w os i

  repeated_alike : (s : Bytes) (z : ℤ) (w : MW) (os : Heap) → WorldLives n w os → OpAlike n (ValueLives n) (repeated s z w) (repeated s z (set_objects os w))
  repeated_alike s (pos k) w os i = choice_alike (OpAlike n (ValueLives n)) _ (gives tt i) (faults i)
  repeated_alike s (negsuc k) w os i = refuses i

  replace_alike : (s t u : Bytes) (w : MW) (os : Heap) → WorldLives n w os → OpAlike n (ValueLives n) (replaced_in s t u w) (replaced_in s t u (set_objects os w))
  replace_alike s t u w os i = choice_alike (OpAlike n (ValueLives n)) _ (refuses i) (gives tt i)

  remainder_alike : (x y : ℤ) (w : MW) (os : Heap) → WorldLives n w os → OpAlike n (ValueLives n) (remainder x y w) (remainder x y (set_objects os w))
  remainder_alike x (pos zero) w os i = faults i
  remainder_alike x (pos (suc k)) w os i = gives tt i
  remainder_alike x (negsuc k) w os i = gives tt i

  -- ---- CONVERT

  or_fail_alike : {A : Type 0} (S : A → Type 0) (c : Conv A) (w : MW) (os : Heap) (k k' : A → Op MW MVal) → IfGot S c → WorldLives n w os → ((a : A) → S a → OpAlike n (ValueLives n) (k a) (k' a)) → OpAlike n (ValueLives n) (or_fail c w k) (or_fail c (set_objects os w) k')
  or_fail_alike S (Got a) w os k k' g i h = h a g
  or_fail_alike S (Bad e) w os k k' g i h = refuses i

  -- of any conversion
  plain : {A : Type 0} (c : Conv A) → IfGot Any c
  plain (Got a) = tt
  plain (Bad e) = tt

  -- CONVERT to t, where y is the value's type
  abbrev as_type : MVal → Bytes → MW → Bytes → Op MW MVal
  as_type v t w y =
      if bytes_eq t y then Gives v w
      else if bytes_eq t (codes "STRING") then or_fail (to_text v) w (λ s. Gives (Str s) w)
      else if bytes_eq t (codes "INTEGER") then or_fail (to_integer v) w (λ z. Gives (Int z) w)
      else if bytes_eq t (codes "PATTERN") then or_fail (to_pattern codes_of v) w (λ q. Gives (Pat q) w)
      else if bytes_eq t (codes "ARRAY") then as_array v w
      else Refuses w

  converted_alike : (v : MVal) (t : Bytes) (w : MW) (os : Heap) → ValueLives n v → WorldLives n w os → OpAlike n (ValueLives n) (converted codes_of v t w) (converted codes_of v t (set_objects os w))
  converted_alike v t w os h i =
      subst (λ y. OpAlike n (ValueLives n) (converted codes_of v t w) (as_type v t (set_objects os w) y)) (sym (type_alike v w os h i))
      (choice_alike (OpAlike n (ValueLives n)) _ (gives h i)
      (choice_alike (OpAlike n (ValueLives n)) _ (or_fail_alike Any (to_text v) w os _ _ (plain (to_text v)) i (λ s _. gives tt i))
      (choice_alike (OpAlike n (ValueLives n)) _ (or_fail_alike Any (to_integer v) w os _ _ (plain (to_integer v)) i (λ z _. gives tt i))
      (choice_alike (OpAlike n (ValueLives n)) _ (or_fail_alike (CodeLives n) (to_pattern codes_of v) w os _ _ (pattern_lives n v h) i (λ c g. gives g i))
      (choice_alike (OpAlike n (ValueLives n)) _ (as_array_alike v w os h i) (refuses i))))))

  -- ---- functions and units

  fields_alike : (fs : List Bytes) (w : MW) (os : Heap) → WorldLives n w os → WorldLives n (set_fields fs w) os × (set_fields fs (set_objects os w) ≡ set_objects os (set_fields fs w))
  fields_alike [] w os i = (i, refl)
  fields_alike (f ∷ fs) w os i = fields_alike fs _ os i

  -- with the constructor of a type
  abbrev with_type : TypePrototype → MW → MW
  with_type t w = set_function t.name (Constructor t.fields) w

  data_alike : (t : Option TypePrototype) (w : MW) (os : Heap) → WorldLives n w os → OpAlike n (ValueLives n) (data_op t w) (data_op t (set_objects os w))
  data_alike None w os i = faults i
  data_alike (Some t) w os i =
      subst (λ v. OpAlike n (ValueLives n) (data_op (Some t) w) (Gives (Str []) v)) (sym (fields_alike t.fields (with_type t w) os i).1) (gives {a = Str []} {w = set_fields t.fields (with_type t w)} tt (fields_alike t.fields (with_type t w) os i).0)

  define_alike : (l : Option Bytes) (f : Option FunctionPrototype) (w : MW) (os : Heap) → WorldLives n w os → OpAlike n (ValueLives n) (define_op l f w) (define_op l f (set_objects os w))
  define_alike l None w os i = faults i
  define_alike l (Some f) w os i = gives tt i

  unit_alike : (usual : ℕ) (v : MVal) (w : MW) (os : Heap) (k k' : ℕ → Op MW MVal) → WorldLives n w os → ((u : ℕ) → OpAlike n (ValueLives n) (k u) (k' u)) → OpAlike n (ValueLives n) (unit_op usual v w k) (unit_op usual v (set_objects os w) k')
  unit_alike usual v w os k k' i h = choice_alike (OpAlike n (ValueLives n)) (is_null v) (h usual) (conv_alike n (ValueLives n) (to_integer v) w os _ _ i (λ z. conv_alike n (ValueLives n) (unit_number z) w os k k' i h))

  -- ---- all primitives

  returned_alike : {o o' : Op MW MVal} → OpAlike n (ValueLives n) o o' → OpAlike n (OutcomeLives n) (returned o) (returned o')
  returned_alike h = then_alike n (ValueLives n) (OutcomeLives n) _ h (λ v w os k i. gives k i)

  -- what comes of a text
  text_alike : (v : MVal) (w : MW) (os : Heap) (k k' : Bytes → Op MW MVal) → WorldLives n w os → ((s : Bytes) → OpAlike n (ValueLives n) (k s) (k' s)) → OpAlike n (ValueLives n) (conv (to_text v) w k) (conv (to_text v) (set_objects os w) k')
  text_alike v w os k k' i h = conv_alike n (ValueLives n) (to_text v) w os k k' i h

  integer_alike : (v : MVal) (w : MW) (os : Heap) (k k' : ℤ → Op MW MVal) → WorldLives n w os → ((z : ℤ) → OpAlike n (ValueLives n) (k z) (k' z)) → OpAlike n (ValueLives n) (conv (to_integer v) w k) (conv (to_integer v) (set_objects os w) k')
  integer_alike v w os k k' i h = conv_alike n (ValueLives n) (to_integer v) w os k k' i h

  item_alike : (vs : List MVal) (w : MW) (os : Heap) → ValuesLive n vs → WorldLives n w os → OpAlike n (OutcomeLives n) (item_op vs w) (item_op vs (set_objects os w))
  item_alike [] w os h i = faults i
  item_alike (v ∷ vs) w os h i = then_alike n (NameLives n) (OutcomeLives n) _ (element_alike v vs w os h.0 i) (λ x u xs k j. gives k j)

  applied_alike : (f : Bytes) (vs : List MVal) (w : MW) (os : Heap) (k k' : PrimId → Op MW (Outcome PCode ℕ)) → ValuesLive n vs → WorldLives n w os → ((q : PrimId) → OpAlike n (OutcomeLives n) (k q) (k' q)) → (o : Option PrimId) → OpAlike n (OutcomeLives n) (applied f vs w k o) (applied f vs (set_objects os w) k' o)
  applied_alike f vs w os k k' h i g None = gives h i
  applied_alike f vs w os k k' h i g (Some q) = choice_alike (OpAlike n (OutcomeLives n)) _ (faults i) (g q)

  datatype_alike : (v : MVal) (w : MW) (os : Heap) → ValueLives n v → WorldLives n w os → OpAlike n (ValueLives n) (Gives (Str (type_of w v)) w) (Gives (Str (type_of (set_objects os w) v)) (set_objects os w))
  datatype_alike v w os h i = subst (λ y. OpAlike n (ValueLives n) (Gives (Str (type_of w v)) w) (Gives (Str y) (set_objects os w))) (sym (type_alike v w os h i)) (gives tt i)

  pub prim_alike : (f : PrimId) (vs : List MVal) (w : MW) (os : Heap) → ValuesLive n vs → WorldLives n w os → OpAlike n (OutcomeLives n) (prim_op codes_of f vs w) (prim_op codes_of f vs (set_objects os w))
  prim_alike p.Len vs w os h i = returned_alike (kind_alike n KLen (arg_at vs 0) w os (arg_lives vs 0 h) i)
  prim_alike p.Pos vs w os h i = returned_alike (kind_alike n KPos (arg_at vs 0) w os (arg_lives vs 0 h) i)
  prim_alike p.RPos vs w os h i = returned_alike (kind_alike n KRPos (arg_at vs 0) w os (arg_lives vs 0 h) i)
  prim_alike p.Tab vs w os h i = returned_alike (kind_alike n KTab (arg_at vs 0) w os (arg_lives vs 0 h) i)
  prim_alike p.RTab vs w os h i = returned_alike (kind_alike n KRTab (arg_at vs 0) w os (arg_lives vs 0 h) i)
  prim_alike p.Any vs w os h i = returned_alike (kind_alike n KAny (arg_at vs 0) w os (arg_lives vs 0 h) i)
  prim_alike p.NotAny vs w os h i = returned_alike (kind_alike n KNotAny (arg_at vs 0) w os (arg_lives vs 0 h) i)
  prim_alike p.Span vs w os h i = returned_alike (kind_alike n KSpan (arg_at vs 0) w os (arg_lives vs 0 h) i)
  prim_alike p.Break vs w os h i = returned_alike (kind_alike n KBreak (arg_at vs 0) w os (arg_lives vs 0 h) i)
  prim_alike p.Arbno vs w os h i = returned_alike (got_alike n (CodeLives n) (ValueLives n) (to_pattern codes_of (arg_at vs 0)) w os _ _ (pattern_lives n (arg_at vs 0) (arg_lives vs 0 h)) i (λ c k. gives (arbno_code_lives n c k) i))
  prim_alike p.Eq vs w os h i = returned_alike (compare_alike _ (arg_at vs 0) (arg_at vs 1) w os i)
  prim_alike p.Ne vs w os h i = returned_alike (compare_alike _ (arg_at vs 0) (arg_at vs 1) w os i)
  prim_alike p.Lt vs w os h i = returned_alike (compare_alike _ (arg_at vs 0) (arg_at vs 1) w os i)
  prim_alike p.Le vs w os h i = returned_alike (compare_alike _ (arg_at vs 0) (arg_at vs 1) w os i)
  prim_alike p.Gt vs w os h i = returned_alike (compare_alike _ (arg_at vs 0) (arg_at vs 1) w os i)
  prim_alike p.Ge vs w os h i = returned_alike (compare_alike _ (arg_at vs 0) (arg_at vs 1) w os i)
  prim_alike p.Lgt vs w os h i = returned_alike (text_alike (arg_at vs 0) w os _ _ i (λ s. text_alike (arg_at vs 1) w os _ _ i (λ t. holds_alike (comes_after s t) w os i)))
  prim_alike p.Ident vs w os h i = returned_alike (same_alike _ (same_value (arg_at vs 0) (arg_at vs 1)) w os i)
  prim_alike p.Differ vs w os h i = returned_alike (same_alike _ (same_value (arg_at vs 0) (arg_at vs 1)) w os i)
  prim_alike p.Integer vs w os h i = returned_alike (holds_alike (is_integer (arg_at vs 0)) w os i)
  prim_alike p.Size vs w os h i = returned_alike (text_alike (arg_at vs 0) w os _ _ i (λ s. gives tt i))
  prim_alike p.Trim vs w os h i = returned_alike (text_alike (arg_at vs 0) w os _ _ i (λ s. gives tt i))
  prim_alike p.Dupl vs w os h i = returned_alike (text_alike (arg_at vs 0) w os _ _ i (λ s. integer_alike (arg_at vs 1) w os _ _ i (λ z. repeated_alike s z w os i)))
  prim_alike p.Replace vs w os h i = returned_alike (text_alike (arg_at vs 0) w os _ _ i (λ s. text_alike (arg_at vs 1) w os _ _ i (λ t. text_alike (arg_at vs 2) w os _ _ i (λ u. replace_alike s t u w os i))))
  prim_alike p.Remdr vs w os h i = returned_alike (integer_alike (arg_at vs 0) w os _ _ i (λ x. integer_alike (arg_at vs 1) w os _ _ i (λ y. remainder_alike x y w os i)))
  prim_alike p.DataType vs w os h i = returned_alike (datatype_alike (arg_at vs 0) w os (arg_lives vs 0 h) i)
  prim_alike p.Array vs w os h i = returned_alike (text_alike (arg_at vs 0) w os _ _ i (λ s. array_alike (array_prototype s) (arg_at vs 1) w os (arg_lives vs 1 h) i))
  prim_alike p.Table vs w os h i = returned_alike (new_alike (TableOf []) w os tt i)
  prim_alike p.Item vs w os h i = item_alike vs w os h i
  prim_alike p.Copy vs w os h i = returned_alike (copy_alike (arg_at vs 0) w os (arg_lives vs 0 h) i)
  prim_alike p.Convert vs w os h i = returned_alike (text_alike (arg_at vs 1) w os _ _ i (λ t. converted_alike (arg_at vs 0) t w os (arg_lives vs 0 h) i))
  prim_alike p.Data vs w os h i = returned_alike (text_alike (arg_at vs 0) w os _ _ i (λ s. data_alike (type_prototype w.plain.level s) w os i))
  prim_alike p.Define vs w os h i = returned_alike (text_alike (arg_at vs 0) w os _ _ i (λ s. conv_alike n (ValueLives n) (to_entry_label (arg_at vs 1)) w os _ _ i (λ l. define_alike l (function_prototype w.plain.level s) w os i)))
  prim_alike p.Input vs w os h i = returned_alike (conv_alike n (ValueLives n) (to_variable (arg_at vs 0)) w os _ _ i (λ x. unit_alike 5 (arg_at vs 1) w os _ _ i (λ u. gives {a = Str []} {w = set_reads x (Some u) w} tt i)))
  prim_alike p.Output vs w os h i = returned_alike (conv_alike n (ValueLives n) (to_variable (arg_at vs 0)) w os _ _ i (λ x. unit_alike 6 (arg_at vs 1) w os _ _ i (λ u. gives {a = Str []} {w = set_writes x (Some u) w} tt i)))
  prim_alike p.Detach vs w os h i = returned_alike (conv_alike n (ValueLives n) (to_variable (arg_at vs 0)) w os _ _ i (λ x. gives tt i))
  prim_alike p.Fence vs w os h i = returned_alike (got_alike n (CodeLives n) (ValueLives n) (to_pattern codes_of (arg_at vs 0)) w os _ _ (pattern_lives n (arg_at vs 0) (arg_lives vs 0 h)) i (λ c k. gives (fence_code_lives n c k) i))
  prim_alike p.Apply [] w os h i = faults i
  prim_alike p.Apply (v ∷ vs) w os h i = conv_alike n (OutcomeLives n) (to_variable v) w os _ _ i (λ f. applied_alike f vs w os _ _ h.1 i (λ q. prim_alike q vs w os h.1 i) (prim_at w.plain.level f))

  -- ---- calls

  -- what a call keeps doesn't depend on objects
  saved_live : (xs : List Bytes) (w : MW) (os : Heap) → WorldLives n w os → AllByRecursion (SavedLives n) (saved_of xs w) × (saved_of xs (set_objects os w) ≡ saved_of xs w)
  saved_live [] w os i = (tt, refl)
  saved_live (x ∷ xs) w os i = ((i.vars x, (saved_live xs w os i).0), ap (λ ss. record { var = x; value = w.vars x } ∷ ss) (saved_live xs w os i).1)

  pub kept_lives : (f : Bytes) (xs ys : List Bytes) (w : MW) (os : Heap) → WorldLives n w os → KeptLives n (kept_of f xs ys w) × (kept_of f xs ys (set_objects os w) ≡ kept_of f xs ys w)
  kept_lives f xs ys w os i = ((saved_live (f ∷ (xs ++ ys)) w os i).0, ap (λ ss. record { name = f; saved = ss; stno = w.plain.keys.stno; fnclevel = w.plain.keys.fnclevel }) (saved_live (f ∷ (xs ++ ys)) w os i).1)

  bind_lives : (xs : List Bytes) (vs : List MVal) (w : MW) (os : Heap) → ValuesLive n vs → WorldLives n w os → WorldLives n (bind_arguments xs vs w) os × (bind_arguments xs vs (set_objects os w) ≡ set_objects os (bind_arguments xs vs w))
  bind_lives [] vs w os h i = (i, refl)
  bind_lives (x ∷ xs) [] w os h i = bind_lives xs [] (set_var x (Str []) w) os tt (var_lives n x (Str []) w os tt i)
  bind_lives (x ∷ xs) (v ∷ vs) w os h i = bind_lives xs vs (set_var x v w) os h.1 (var_lives n x v w os h.0 i)

  restore_lives : (ss : List (Saved PCode ℕ)) (w : MW) (os : Heap) → AllByRecursion (SavedLives n) ss → WorldLives n w os → WorldLives n (restore ss w) os × (restore ss (set_objects os w) ≡ set_objects os (restore ss w))
  restore_lives [] w os h i = (i, refl)
  restore_lives (s ∷ ss) w os h i = (var_lives n s.var s.value (restore ss w) os h.0 (restore_lives ss w os h.1 i).0, ap (set_var s.var s.value) (restore_lives ss w os h.1 i).1)

  abbrev entered : MW → MW
  entered w = set_keys (record (keys_of w) { fnclevel = counted_up (keys_of w).fnclevel }) w

  pub enter_lives : (f : Bytes) (xs ys : List Bytes) (vs : List MVal) (w : MW) (os : Heap) → ValuesLive n vs → WorldLives n w os → WorldLives n (enter_call f xs ys vs w) os × (enter_call f xs ys vs (set_objects os w) ≡ set_objects os (enter_call f xs ys vs w))
  enter_lives f xs ys vs w os h i = (locals.0, ap entered (ap (bind_arguments ys []) arguments.1 ∙ locals.1))
    where
      arguments : WorldLives n (bind_arguments xs vs (set_var f (Str []) w)) os × (bind_arguments xs vs (set_objects os (set_var f (Str []) w)) ≡ set_objects os (bind_arguments xs vs (set_var f (Str []) w)))
      arguments = bind_lives xs vs (set_var f (Str []) w) os h (var_lives n f (Str []) w os tt i)

      locals : WorldLives n (bind_arguments ys [] (bind_arguments xs vs (set_var f (Str []) w))) os × (bind_arguments ys [] (set_objects os (bind_arguments xs vs (set_var f (Str []) w))) ≡ set_objects os (bind_arguments ys [] (bind_arguments xs vs (set_var f (Str []) w))))
      locals = bind_lives ys [] (bind_arguments xs vs (set_var f (Str []) w)) os tt arguments.0

  abbrev left : ReturnKind → Kept PCode ℕ → MW → MW
  left r k w = set_keys (record (keys_of w) { stno = k.stno; fnclevel = k.fnclevel; rtntype = return_name r }) w

  back_lives : (r : ReturnKind) (k : Kept PCode ℕ) (w : MW) (os : Heap) → KeptLives n k → WorldLives n w os → WorldLives n (back_to_caller r k w) os × (back_to_caller r k (set_objects os w) ≡ set_objects os (back_to_caller r k w))
  back_lives r k w os h i = ((restore_lives k.saved w os h i).0, ap (left r k) (restore_lives k.saved w os h i).1)

  no_name_lives : (c : Conv Name) → IfGot (NameLives n) c → IfGot (NameLives n) (or_no_name c)
  no_name_lives (Got x) h = h
  no_name_lives (Bad e) h = tt

  pub leave_alike : (r : ReturnKind) (k : Kept PCode ℕ) (w : MW) (os : Heap) → KeptLives n k → WorldLives n w os → OpAlike n (ReturnedLives n) (leave_op r k w) (leave_op r k (set_objects os w))
  leave_alike kind.Return k w os h i =
      subst (λ v. OpAlike n (ReturnedLives n) (leave_op kind.Return k w) (Gives (AValue (w.vars k.name)) v)) (sym (back_lives kind.Return k w os h i).1) (gives {a = AValue (w.vars k.name)} {w = back_to_caller kind.Return k w} (i.vars k.name) (back_lives kind.Return k w os h i).0)
  leave_alike kind.FReturn k w os h i =
      subst (λ v. OpAlike n (ReturnedLives n) (leave_op kind.FReturn k w) (Refuses v)) (sym (back_lives kind.FReturn k w os h i).1) (refuses {w = back_to_caller kind.FReturn k w} (back_lives kind.FReturn k w os h i).0)
  leave_alike kind.NReturn k w os h i =
      got_alike n (NameLives n) (ReturnedLives n) (or_no_name (to_name (w.vars k.name))) w os _ _ (no_name_lives (to_name (w.vars k.name)) (name_lives n (w.vars k.name) (i.vars k.name))) i
      (λ x m. subst (λ v. OpAlike n (ReturnedLives n) (Gives (AName x) (back_to_caller kind.NReturn k w)) (Gives (AName x) v)) (sym (back_lives kind.NReturn k w os h i).1) (gives {a = AName x} {w = back_to_caller kind.NReturn k w} m (back_lives kind.NReturn k w os h i).0))

  pub as_value_alike : (b : MBack) (w : MW) (os : Heap) → ReturnedLives n b → WorldLives n w os → OpAlike n (ValueLives n) (as_value b w) (as_value b (set_objects os w))
  as_value_alike (AValue v) w os h i = gives h i
  as_value_alike (AName x) w os h i = fetch_alike n x w os h i

  pub as_name_alike : (b : MBack) (w : MW) (os : Heap) → ReturnedLives n b → WorldLives n w os → OpAlike n (NameLives n) (as_name b w) (as_name b (set_objects os w))
  as_name_alike (AValue v) w os h i = faults i
  as_name_alike (AName x) w os h i = gives h i

  pub construct_alike : (t : Bytes) (fs : List Bytes) (vs : List MVal) (w : MW) (os : Heap) → ValuesLive n vs → WorldLives n w os → OpAlike n (ReturnedLives n) (construct_op t fs vs w) (construct_op t fs vs (set_objects os w))
  construct_alike t fs vs w os h i = then_alike n (ValueLives n) (ReturnedLives n) _ (new_alike (RecordOf t fs (field_values fs vs)) w os (field_values_live fs vs h) i) (λ v u xs k j. gives {a = AValue v} {w = u} k j)

  pub select_alike : (f : Bytes) (vs : List MVal) (w : MW) (os : Heap) → ValuesLive n vs → WorldLives n w os → OpAlike n (ReturnedLives n) (select_op f vs w) (select_op f vs (set_objects os w))
  select_alike f vs w os h i = then_alike n (NameLives n) (ReturnedLives n) _ (field_alike f (arg_at vs 0) w os (arg_lives vs 0 h) i) (λ x u xs k j. gives k j)
