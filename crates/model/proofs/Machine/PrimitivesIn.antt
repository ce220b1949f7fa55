-- Primitives and calls keep expressions in range.
use Rattle.std.proofs.Common.{ℕ, zero, suc, List, [], ◌∷◌, ◌++◌, replicate, ℤ, pos, negsuc, Option, Some, None, Bool}
use Rattle.std.specs.List.{AllByRecursion}
use Rattle.model.specs.declared.instr.ReturnKind.{ReturnKind}
use Rattle.model.specs.declared.instr.ReturnKind.TheVariants as kind
use Rattle.model.specs.declared.primitives.PrimId.{PrimId}
use Rattle.model.specs.declared.primitives.PrimId.TheVariants as p
use Rattle.model.specs.Deck.Trees.{Bytes}
use Rattle.model.specs.Language.Names.{prim_at}
use Rattle.model.specs.Pattern.Patterns.{KLen, KPos, KRPos, KTab, KRTab, KAny, KNotAny, KSpan, KBreak}
use Rattle.model.specs.Language.Values.{Str, Obj, Bounds, Key, IntegerAt, StringAt, Entry, Object, ArrayOf, TableOf, RecordOf, set_var}
use Rattle.model.specs.Language.Conversions.{Conv, Got, Bad, Op, conv, to_text, to_integer, to_pattern, to_name, to_variable, is_null}
use Rattle.model.specs.Language.Prototypes.{FunctionPrototype, function_prototype, TypePrototype, type_prototype, array_prototype, elements_in}
use Rattle.model.specs.Language.Aggregates as g
use Rattle.model.specs.Language.Aggregates.{place_from, index_of, pairs, new_object, array_op, copy_of, copy_op, field_values, all_integers, named_element, keyed_name, table_element, element_in, element_op, named_field, field_in, field_op, type_of, rows, row_count, rows_array, table_array, as_array}
use Rattle.model.specs.Language.Calls.{AValue, AName, Saved, Kept, arg_at, saved_of, bind_arguments, restore, kept_of, enter_call, or_no_name, leave_op, as_value, as_name, construct_op, select_op}
use Rattle.model.specs.Language.Primitives.{Outcome, same_value, holds_if, compare_op, comes_after, same_op, is_integer, repeated, replaced_in, remainder, or_fail, converted, set_fields, data_op, to_entry_label, define_op, unit_number, unit_op, set_reads, set_writes, returned, item_op, applied, prim_op}
use Rattle.model.specs.Machine.Steps.{PCode, codes_of, MVal, MW, MBack}
use Rattle.model.specs.Machine.InRange.{CodeIn, ValueIn, ValuesIn, EntriesIn, ObjectIn, WorldIn, ReturnedIn, OutcomeIn, SavedIn, KeptIn}
use Rattle.model.proofs.Machine.Lists.{IfThere, choice_in, join_in, replicate_in}
use Rattle.model.proofs.Machine.OperationsIn.{Any, IfGot, OpIn, gives, refuses, faults, conv_in, got_in, then_in, pattern_in, arbno_code_in, fence_code_in, var_in, object_in, fetch_in, kind_in}

module _ (n : ℕ) where
  -- ---- new objects

  new_in : (o : Object MVal) (w : MW) → ObjectIn n o → WorldIn n w → OpIn n (ValueIn n) (new_object o w)
  new_in o w h i = gives tt (record { vars = i.vars; objects = join_in (ObjectIn n) w.objects (o ∷ []) i.objects (h, tt) })

  array_in : (o : Option (List Bounds)) (v : MVal) (w : MW) → ValueIn n v → WorldIn n w → OpIn n (ValueIn n) (array_op o v w)
  array_in None v w h i = faults i
  array_in (Some bs) v w h i = new_in (ArrayOf bs (replicate (elements_in bs) v)) w (replicate_in (ValueIn n) (elements_in bs) v h) i

  copy_of_in : (o : Option (Object MVal)) (w : MW) → IfThere (ObjectIn n) o → WorldIn n w → OpIn n (ValueIn n) (copy_of o w)
  copy_of_in None w h i = faults i
  copy_of_in (Some (ArrayOf bs vs)) w h i = new_in (ArrayOf bs vs) w h i
  copy_of_in (Some (TableOf es)) w h i = faults i
  copy_of_in (Some (RecordOf t fs vs)) w h i = faults i

  copy_in : (v : MVal) (w : MW) → WorldIn n w → OpIn n (ValueIn n) (copy_op v w)
  copy_in (Obj k) w i = copy_of_in _ w (object_in n w k i) i
  copy_in v w i = faults i

  field_values_in : (fs : List Bytes) (vs : List MVal) → ValuesIn n vs → ValuesIn n (field_values fs vs)
  field_values_in [] vs h = tt
  field_values_in (f ∷ fs) [] h = (tt, field_values_in fs [] tt)
  field_values_in (f ∷ fs) (v ∷ vs) h = (h.0, field_values_in fs vs h.1)

  -- ---- elements and fields

  named_in : (k : ℕ) (o : Option ℕ) (w : MW) → WorldIn n w → OpIn n Any (named_element k o w)
  named_in k None w i = refuses i
  named_in k (Some j) w i = gives tt i

  table_in : (k : ℕ) (vs : List MVal) (w : MW) → WorldIn n w → OpIn n Any (table_element k vs w)
  table_in k [] w i = faults i
  table_in k (v ∷ []) w i = conv_in n Any (keyed_name k v) w _ i (λ x. gives tt i)
  table_in k (v ∷ u ∷ vs) w i = faults i

  object_element_in : (k : ℕ) (o : Option (Object MVal)) (vs : List MVal) (w : MW) → WorldIn n w → OpIn n Any (element_in k o vs w)
  object_element_in k None vs w i = faults i
  object_element_in k (Some (ArrayOf bs es)) vs w i = choice_in (OpIn n Any) _ (conv_in n Any (all_integers vs) w _ i (λ zs. named_in k (place_from 0 bs zs) w i)) (faults i)
  object_element_in k (Some (TableOf es)) vs w i = table_in k vs w i
  object_element_in k (Some (RecordOf t fs es)) vs w i = faults i

  pub element_op_in : (v : MVal) (vs : List MVal) (w : MW) → WorldIn n w → OpIn n Any (element_op v vs w)
  element_op_in (Obj k) vs w i = object_element_in k _ vs w i
  element_op_in v vs w i = faults i

  named_field_in : (k : ℕ) (o : Option ℕ) (w : MW) → WorldIn n w → OpIn n Any (named_field k o w)
  named_field_in k None w i = faults i
  named_field_in k (Some j) w i = gives tt i

  object_field_in : (f : Bytes) (k : ℕ) (o : Option (Object MVal)) (w : MW) → WorldIn n w → OpIn n Any (field_in f k o w)
  object_field_in f k None w i = faults i
  object_field_in f k (Some (ArrayOf bs vs)) w i = faults i
  object_field_in f k (Some (TableOf es)) w i = faults i
  object_field_in f k (Some (RecordOf t fs vs)) w i = named_field_in k (index_of 0 f fs) w i

  field_op_in : (f : Bytes) (v : MVal) (w : MW) → WorldIn n w → OpIn n Any (field_op f v w)
  field_op_in f (Obj k) w i = object_field_in f k _ w i
  field_op_in f v w i = faults i

  -- ---- tables as arrays

  key_value_in : (k : Key) → ValueIn n (g.value_of_key k)
  key_value_in (IntegerAt z) = tt
  key_value_in (StringAt s) = tt

  rows_in : (es : List (Entry MVal)) → EntriesIn n es → ValuesIn n (rows is_null g.value_of_key es)
  rows_in [] h = tt
  rows_in (e ∷ es) h = choice_in (ValuesIn n) (is_null e.value) (rows_in es h.1) (key_value_in e.key, (h.0, rows_in es h.1))

  rows_array_in : (es : List (Entry MVal)) (w : MW) → EntriesIn n es → WorldIn n w → OpIn n (ValueIn n) (rows_array es w)
  rows_array_in es w h i =
      choice_in (OpIn n (ValueIn n)) _ (refuses i) (choice_in (OpIn n (ValueIn n)) _ (faults i) (new_in (ArrayOf (pairs (row_count is_null es)) (rows is_null g.value_of_key es)) w (rows_in es h) i))

  table_array_in : (o : Option (Object MVal)) (w : MW) → IfThere (ObjectIn n) o → WorldIn n w → OpIn n (ValueIn n) (table_array o w)
  table_array_in None w h i = refuses i
  table_array_in (Some (ArrayOf bs vs)) w h i = refuses i
  table_array_in (Some (TableOf es)) w h i = rows_array_in es w h i
  table_array_in (Some (RecordOf t fs vs)) w h i = refuses i

  as_array_in : (v : MVal) (w : MW) → WorldIn n w → OpIn n (ValueIn n) (as_array v w)
  as_array_in (Obj k) w i = table_array_in _ w (object_in n w k i) i
  as_array_in v w i = refuses i

  -- ---- predicates, strings and integers

  pub arg_in : (vs : List MVal) (k : ℕ) → ValuesIn n vs → ValueIn n (arg_at vs k)
  arg_in [] k h = tt
  arg_in (v ∷ vs) zero h = h.0
  arg_in (v ∷ vs) (suc k) h = arg_in vs k h.1

  holds_in : (b : Bool) (w : MW) → WorldIn n w → OpIn n (ValueIn n) (holds_if b w)
  holds_in b w i = choice_in (OpIn n (ValueIn n)) b (gives tt i) (refuses i)

  compare_in : (test : ℤ → ℤ → Bool) (a b : MVal) (w : MW) → WorldIn n w → OpIn n (ValueIn n) (compare_op test a b w)
  compare_in test a b w i = conv_in n (ValueIn n) (to_integer a) w _ i (λ x. conv_in n (ValueIn n) (to_integer b) w _ i (λ y. holds_in (test x y) w i))

  same_in : (f : Bool → Bool) (o : Option Bool) (w : MW) → WorldIn n w → OpIn n (ValueIn n) (same_op f o w)
  same_in f None w i = faults i
  same_in f (Some b) w i = holds_in (f b) w i

  repeated_in : (s : Bytes) (z : ℤ) (w : MW) → WorldIn n w → OpIn n (ValueIn n) (repeated s z w)
  repeated_in s (pos k) w i = choice_in (OpIn n (ValueIn n)) _ (gives tt i) (faults i)
  repeated_in s (negsuc k) w i = refuses i

  replace_in : (s t u : Bytes) (w : MW) → WorldIn n w → OpIn n (ValueIn n) (replaced_in s t u w)
  replace_in s t u w i = choice_in (OpIn n (ValueIn n)) _ (refuses i) (gives tt i)

  remainder_in : (x y : ℤ) (w : MW) → WorldIn n w → OpIn n (ValueIn n) (remainder x y w)
  remainder_in x (pos zero) w i = faults i
  remainder_in x (pos (suc k)) w i = gives tt i
  remainder_in x (negsuc k) w i = gives tt i

  -- ---- CONVERT

  or_fail_in : {A : Type 0} (S : A → Type 0) (c : Conv A) (w : MW) (k : A → Op MW MVal) → IfGot S c → WorldIn n w → ((a : A) → S a → OpIn n (ValueIn n) (k a)) → OpIn n (ValueIn n) (or_fail c w k)
  or_fail_in S (Got a) w k g i h = h a g
  or_fail_in S (Bad e) w k g i h = refuses i

  -- of any conversion
  plain : {A : Type 0} (c : Conv A) → IfGot Any c
  plain (Got a) = tt
  plain (Bad e) = tt

  converted_in : (v : MVal) (t : Bytes) (w : MW) → ValueIn n v → WorldIn n w → OpIn n (ValueIn n) (converted codes_of v t w)
  converted_in v t w h i =
      choice_in (OpIn n (ValueIn n)) _ (gives h i)
      (choice_in (OpIn n (ValueIn n)) _ (or_fail_in Any (to_text v) w _ (plain (to_text v)) i (λ s _. gives tt i))
      (choice_in (OpIn n (ValueIn n)) _ (or_fail_in Any (to_integer v) w _ (plain (to_integer v)) i (λ z _. gives tt i))
      (choice_in (OpIn n (ValueIn n)) _ (or_fail_in (CodeIn n) (to_pattern codes_of v) w _ (pattern_in n v h) i (λ c g. gives g i))
      (choice_in (OpIn n (ValueIn n)) _ (as_array_in v w i) (refuses i)))))

  -- ---- functions and units

  fields_in : (fs : List Bytes) (w : MW) → WorldIn n w → WorldIn n (set_fields fs w)
  fields_in [] w i = i
  fields_in (f ∷ fs) w i = fields_in fs _ i

  data_in : (t : Option TypePrototype) (w : MW) → WorldIn n w → OpIn n (ValueIn n) (data_op t w)
  data_in None w i = faults i
  data_in (Some t) w i = gives tt (fields_in t.fields _ i)

  define_in : (l : Option Bytes) (f : Option FunctionPrototype) (w : MW) → WorldIn n w → OpIn n (ValueIn n) (define_op l f w)
  define_in l None w i = faults i
  define_in l (Some f) w i = gives tt i

  unit_in : (usual : ℕ) (v : MVal) (w : MW) (k : ℕ → Op MW MVal) → WorldIn n w → ((u : ℕ) → OpIn n (ValueIn n) (k u)) → OpIn n (ValueIn n) (unit_op usual v w k)
  unit_in usual v w k i h = choice_in (OpIn n (ValueIn n)) (is_null v) (h usual) (conv_in n (ValueIn n) (to_integer v) w _ i (λ z. conv_in n (ValueIn n) (unit_number z) w k i h))

  -- ---- all primitives

  returned_in : {o : Op MW MVal} → OpIn n (ValueIn n) o → OpIn n (OutcomeIn n) (returned o)
  returned_in h = then_in n (ValueIn n) (OutcomeIn n) _ h (λ v w k i. gives k i)

  -- what comes of a text
  text_in : (v : MVal) (w : MW) (k : Bytes → Op MW MVal) → WorldIn n w → ((s : Bytes) → OpIn n (ValueIn n) (k s)) → OpIn n (ValueIn n) (conv (to_text v) w k)
  text_in v w k i h = conv_in n (ValueIn n) (to_text v) w k i h

  integer_in : (v : MVal) (w : MW) (k : ℤ → Op MW MVal) → WorldIn n w → ((z : ℤ) → OpIn n (ValueIn n) (k z)) → OpIn n (ValueIn n) (conv (to_integer v) w k)
  integer_in v w k i h = conv_in n (ValueIn n) (to_integer v) w k i h

  item_op_in : (vs : List MVal) (w : MW) → WorldIn n w → OpIn n (OutcomeIn n) (item_op vs w)
  item_op_in [] w i = faults i
  item_op_in (v ∷ vs) w i = then_in n Any (OutcomeIn n) _ (element_op_in v vs w i) (λ x u _ j. gives tt j)

  applied_in : (f : Bytes) (vs : List MVal) (w : MW) (k : PrimId → Op MW (Outcome PCode ℕ)) → ValuesIn n vs → WorldIn n w → ((q : PrimId) → OpIn n (OutcomeIn n) (k q)) → (o : Option PrimId) → OpIn n (OutcomeIn n) (applied f vs w k o)
  applied_in f vs w k h i g None = gives h i
  applied_in f vs w k h i g (Some q) = choice_in (OpIn n (OutcomeIn n)) _ (faults i) (g q)

  pub prim_in : (f : PrimId) (vs : List MVal) (w : MW) → ValuesIn n vs → WorldIn n w → OpIn n (OutcomeIn n) (prim_op codes_of f vs w)
  prim_in p.Len vs w h i = returned_in (kind_in n KLen (arg_at vs 0) w (arg_in vs 0 h) i)
  prim_in p.Pos vs w h i = returned_in (kind_in n KPos (arg_at vs 0) w (arg_in vs 0 h) i)
  prim_in p.RPos vs w h i = returned_in (kind_in n KRPos (arg_at vs 0) w (arg_in vs 0 h) i)
  prim_in p.Tab vs w h i = returned_in (kind_in n KTab (arg_at vs 0) w (arg_in vs 0 h) i)
  prim_in p.RTab vs w h i = returned_in (kind_in n KRTab (arg_at vs 0) w (arg_in vs 0 h) i)
  prim_in p.Any vs w h i = returned_in (kind_in n KAny (arg_at vs 0) w (arg_in vs 0 h) i)
  prim_in p.NotAny vs w h i = returned_in (kind_in n KNotAny (arg_at vs 0) w (arg_in vs 0 h) i)
  prim_in p.Span vs w h i = returned_in (kind_in n KSpan (arg_at vs 0) w (arg_in vs 0 h) i)
  prim_in p.Break vs w h i = returned_in (kind_in n KBreak (arg_at vs 0) w (arg_in vs 0 h) i)
  prim_in p.Arbno vs w h i = returned_in (got_in n (CodeIn n) (ValueIn n) (to_pattern codes_of (arg_at vs 0)) w _ (pattern_in n (arg_at vs 0) (arg_in vs 0 h)) i (λ c k. gives (arbno_code_in n c k) i))
  prim_in p.Eq vs w h i = returned_in (compare_in _ (arg_at vs 0) (arg_at vs 1) w i)
  prim_in p.Ne vs w h i = returned_in (compare_in _ (arg_at vs 0) (arg_at vs 1) w i)
  prim_in p.Lt vs w h i = returned_in (compare_in _ (arg_at vs 0) (arg_at vs 1) w i)
  prim_in p.Le vs w h i = returned_in (compare_in _ (arg_at vs 0) (arg_at vs 1) w i)
  prim_in p.Gt vs w h i = returned_in (compare_in _ (arg_at vs 0) (arg_at vs 1) w i)
  prim_in p.Ge vs w h i = returned_in (compare_in _ (arg_at vs 0) (arg_at vs 1) w i)
  prim_in p.Lgt vs w h i = returned_in (text_in (arg_at vs 0) w _ i (λ s. text_in (arg_at vs 1) w _ i (λ t. holds_in (comes_after s t) w i)))
  prim_in p.Ident vs w h i = returned_in (same_in _ (same_value (arg_at vs 0) (arg_at vs 1)) w i)
  prim_in p.Differ vs w h i = returned_in (same_in _ (same_value (arg_at vs 0) (arg_at vs 1)) w i)
  prim_in p.Integer vs w h i = returned_in (holds_in (is_integer (arg_at vs 0)) w i)
  prim_in p.Size vs w h i = returned_in (text_in (arg_at vs 0) w _ i (λ s. gives tt i))
  prim_in p.Trim vs w h i = returned_in (text_in (arg_at vs 0) w _ i (λ s. gives tt i))
  prim_in p.Dupl vs w h i = returned_in (text_in (arg_at vs 0) w _ i (λ s. integer_in (arg_at vs 1) w _ i (λ z. repeated_in s z w i)))
  prim_in p.Replace vs w h i = returned_in (text_in (arg_at vs 0) w _ i (λ s. text_in (arg_at vs 1) w _ i (λ t. text_in (arg_at vs 2) w _ i (λ u. replace_in s t u w i))))
  prim_in p.Remdr vs w h i = returned_in (integer_in (arg_at vs 0) w _ i (λ x. integer_in (arg_at vs 1) w _ i (λ y. remainder_in x y w i)))
  prim_in p.DataType vs w h i = gives tt i
  prim_in p.Array vs w h i = returned_in (text_in (arg_at vs 0) w _ i (λ s. array_in (array_prototype s) (arg_at vs 1) w (arg_in vs 1 h) i))
  prim_in p.Table vs w h i = returned_in (new_in (TableOf []) w tt i)
  prim_in p.Item vs w h i = item_op_in vs w i
  prim_in p.Copy vs w h i = returned_in (copy_in (arg_at vs 0) w i)
  prim_in p.Convert vs w h i = returned_in (text_in (arg_at vs 1) w _ i (λ t. converted_in (arg_at vs 0) t w (arg_in vs 0 h) i))
  prim_in p.Data vs w h i = returned_in (text_in (arg_at vs 0) w _ i (λ s. data_in (type_prototype w.plain.level s) w i))
  prim_in p.Define vs w h i = returned_in (text_in (arg_at vs 0) w _ i (λ s. conv_in n (ValueIn n) (to_entry_label (arg_at vs 1)) w _ i (λ l. define_in l (function_prototype w.plain.level s) w i)))
  prim_in p.Input vs w h i = returned_in (conv_in n (ValueIn n) (to_variable (arg_at vs 0)) w _ i (λ x. unit_in 5 (arg_at vs 1) w _ i (λ u. gives {a = Str []} {w = set_reads x (Some u) w} tt i)))
  prim_in p.Output vs w h i = returned_in (conv_in n (ValueIn n) (to_variable (arg_at vs 0)) w _ i (λ x. unit_in 6 (arg_at vs 1) w _ i (λ u. gives {a = Str []} {w = set_writes x (Some u) w} tt i)))
  prim_in p.Detach vs w h i = returned_in (conv_in n (ValueIn n) (to_variable (arg_at vs 0)) w _ i (λ x. gives tt i))
  prim_in p.Fence vs w h i = returned_in (got_in n (CodeIn n) (ValueIn n) (to_pattern codes_of (arg_at vs 0)) w _ (pattern_in n (arg_at vs 0) (arg_in vs 0 h)) i (λ c k. gives (fence_code_in n c k) i))
  prim_in p.Apply [] w h i = faults i
  prim_in p.Apply (v ∷ vs) w h i = conv_in n (OutcomeIn n) (to_variable v) w _ i (λ f. applied_in f vs w _ h.1 i (λ q. prim_in q vs w h.1 i) (prim_at w.plain.level f))

  -- ---- calls

  saved_in : (xs : List Bytes) (w : MW) → WorldIn n w → AllByRecursion (SavedIn n) (saved_of xs w)
  saved_in [] w i = tt
  saved_in (x ∷ xs) w i = (i.vars x, saved_in xs w i)

  pub kept_in : (f : Bytes) (xs ys : List Bytes) (w : MW) → WorldIn n w → KeptIn n (kept_of f xs ys w)
  kept_in f xs ys w i = saved_in (f ∷ (xs ++ ys)) w i

  bind_in : (xs : List Bytes) (vs : List MVal) (w : MW) → ValuesIn n vs → WorldIn n w → WorldIn n (bind_arguments xs vs w)
  bind_in [] vs w h i = i
  bind_in (x ∷ xs) [] w h i = bind_in xs [] (set_var x (Str []) w) tt (var_in n x (Str []) w tt i)
  bind_in (x ∷ xs) (v ∷ vs) w h i = bind_in xs vs (set_var x v w) h.1 (var_in n x v w h.0 i)

  pub enter_in : (f : Bytes) (xs ys : List Bytes) (vs : List MVal) (w : MW) → ValuesIn n vs → WorldIn n w → WorldIn n (enter_call f xs ys vs w)
  enter_in f xs ys vs w h i = bind_in ys [] _ tt (bind_in xs vs (set_var f (Str []) w) h (var_in n f (Str []) w tt i))

  restore_in : (ss : List (Saved PCode ℕ)) (w : MW) → AllByRecursion (SavedIn n) ss → WorldIn n w → WorldIn n (restore ss w)
  restore_in [] w h i = i
  restore_in (s ∷ ss) w h i = var_in n s.var s.value (restore ss w) h.0 (restore_in ss w h.1 i)

  pub leave_in : (r : ReturnKind) (k : Kept PCode ℕ) (w : MW) → KeptIn n k → WorldIn n w → OpIn n (ReturnedIn n) (leave_op r k w)
  leave_in kind.Return k w h i = gives (i.vars k.name) (restore_in k.saved w h i)
  leave_in kind.FReturn k w h i = refuses (restore_in k.saved w h i)
  leave_in kind.NReturn k w h i = conv_in n (ReturnedIn n) (or_no_name (to_name (w.vars k.name))) w _ i (λ x. gives tt (restore_in k.saved w h i))

  pub as_value_in : (b : MBack) (w : MW) → ReturnedIn n b → WorldIn n w → OpIn n (ValueIn n) (as_value b w)
  as_value_in (AValue v) w h i = gives h i
  as_value_in (AName x) w h i = fetch_in n x w i

  pub as_name_in : (b : MBack) (w : MW) → WorldIn n w → OpIn n Any (as_name b w)
  as_name_in (AValue v) w i = faults i
  as_name_in (AName x) w i = gives tt i

  pub construct_in : (t : Bytes) (fs : List Bytes) (vs : List MVal) (w : MW) → ValuesIn n vs → WorldIn n w → OpIn n (ReturnedIn n) (construct_op t fs vs w)
  construct_in t fs vs w h i = then_in n (ValueIn n) (ReturnedIn n) _ (new_in (RecordOf t fs (field_values fs vs)) w (field_values_in fs vs h) i) (λ v u k j. gives {a = AValue v} {w = u} k j)

  pub select_in : (f : Bytes) (vs : List MVal) (w : MW) → WorldIn n w → OpIn n (ReturnedIn n) (select_op f vs w)
  select_in f vs w i = then_in n Any (ReturnedIn n) _ (field_op_in f (arg_at vs 0) w i) (λ x u _ j. gives tt j)
