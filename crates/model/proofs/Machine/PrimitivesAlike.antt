-- Primitives and calls of the machine stand for those of the meaning.
use Rattle.std.proofs.Common.{◌≡◌, ℕ, zero, suc, ◌+◌, ◌*◌, List, [], ◌∷◌, ◌++◌, length, replicate, ℤ, pos, negsuc, int_le, Option, Some, None, Bool, true, false, bytes_eq, nat_eq, nat_lt, if◌then◌else◌, refl, sym, ap, subst}
use Rattle.model.specs.declared.run.ErrorCode.TheVariants as error
use Rattle.model.specs.declared.instr.ReturnKind.{ReturnKind}
use Rattle.model.specs.declared.instr.ReturnKind.TheVariants as kind
use Rattle.model.specs.declared.primitives.PrimId.{PrimId}
use Rattle.model.specs.declared.primitives.PrimId.TheVariants as p
use Rattle.model.specs.Deck.Trees.{Bytes, Expr}
use Rattle.model.specs.Language.Names.{prim_at, most_args}
use Rattle.model.specs.Language.Keywords.{counted_up, return_name}
use Rattle.model.specs.Pattern.Patterns.{KLen, KPos, KRPos, KTab, KRTab, KAny, KNotAny, KSpan, KBreak}
use Rattle.model.specs.Pattern.Stands.{Stands}
use Rattle.model.specs.Language.Values.{Str, Pat, Obj, Plain, Pattern, pattern_trees, Bounds, Key, IntegerAt, StringAt, Entry, Object, ArrayOf, Function, Defined, Constructor, Field}
use Rattle.model.specs.Language.Conversions.{Conv, Got, Bad, Op, Gives, then_conv, is_null}
use Rattle.model.specs.Language.Prototypes.{FunctionPrototype, function_prototype, TypePrototype, type_prototype, array_prototype, elements_in}
use Rattle.model.specs.Language.Aggregates as g
use Rattle.model.specs.Language.Aggregates.{place_from, index_of, pairs, new_object, array_op, copy_of, copy_op, field_values, all_integers, named_element, table_element, element_in, element_op, named_field, field_in, field_op, object_type, type_of, rows, row_count, rows_array, table_array, as_array}
use Rattle.model.specs.Language.Calls.{AName, Saved, Kept, arg_at, saved_of, bind_arguments, restore, kept_of, enter_call, back_to_caller, or_no_name, leave_op, as_value, as_name, construct_op, select_op}
use Rattle.model.specs.Language.Primitives.{Outcome, Returns, Calls, same_value, holds_if, compare_op, same_op, is_integer, repeated, replaced_in, remainder, or_fail, converted, set_function, set_fields, data_op, to_entry_label, entry_or, define_op, unit_number, unit_op, set_reads, set_writes, returned, item_op, applied, prim_op}
use Rattle.model.specs.Language.Meaning.{Val, W, Back}
use Rattle.model.specs.Machine.Steps.{PCode, codes_of, MVal, MW, MBack}
use Rattle.model.specs.Machine.Alike.{VR, rstr, rint, rpat, rnam, rexp, robj, VRs, rnil, rcons, EntriesR, enil, econs, ObjectR, rarray, rtable, rrecord, ObjectsR, onil, ocons, GR, rval, rname, WR}
use Rattle.model.proofs.Machine.OperationsAlike as o
use Rattle.model.proofs.Machine.OperationsAlike.{OptR, none, some, ConvR, got, bad, OpR, gives, refuses, faults, text_same, name_same, variable_same, label_same, null_same, pattern_same, conv_same, conv_stands, if_same, then_same, plain_same, objects_same, var_same, keys_same, set_keys_same, object_same, fetch_same, kind_same}

-- what a primitive comes to is alike
pub data OutcomeR (at : ℕ → Option Expr) : Outcome Pattern Expr → Outcome PCode ℕ → Type 0 where
  returns : {g : Back} {h : MBack} → GR at g h → OutcomeR at (Returns g) (Returns h)
  calls : (f : Bytes) {vs : List Val} {ms : List MVal} → VRs at vs ms → OutcomeR at (Calls f vs) (Calls f ms)

module _ (at : ℕ → Option Expr) where
  pub arg_same : {vs : List Val} {ms : List MVal} → VRs at vs ms → (i : ℕ) → VR at (arg_at vs i) (arg_at ms i)
  arg_same rnil i = rstr []
  arg_same (rcons h hs) zero = h
  arg_same (rcons h hs) (suc i) = arg_same hs i

  pub length_same : {vs : List Val} {ms : List MVal} → VRs at vs ms → length ms ≡ length vs
  length_same rnil = refl
  length_same (rcons h hs) = ap suc (length_same hs)

  -- ---- new objects

  objects_length : {os : List (Object Val)} {xs : List (Object MVal)} → ObjectsR at os xs → length xs ≡ length os
  objects_length onil = refl
  objects_length (ocons h hs) = ap suc (objects_length hs)

  one_more : {os : List (Object Val)} {xs : List (Object MVal)} {o : Object Val} {x : Object MVal} → ObjectsR at os xs → ObjectR at o x → ObjectsR at (os ++ o ∷ []) (xs ++ x ∷ [])
  one_more onil h = ocons h onil
  one_more (ocons k ks) h = ocons k (one_more ks h)

  new_same : {o : Object Val} {x : Object MVal} {w : W} {m : MW} → ObjectR at o x → WR at w m → OpR at (VR at) (new_object o w) (new_object x m)
  new_same {w = w} {m} h wr = gives (subst (λ n. VR at (Obj (length w.objects)) (Obj n)) (sym (objects_length wr.objects)) (robj (length w.objects))) (objects_same at (one_more wr.objects h) wr)

  replicate_same : (n : ℕ) {v : Val} {m : MVal} → VR at v m → VRs at (replicate n v) (replicate n m)
  replicate_same zero h = rnil
  replicate_same (suc n) h = rcons h (replicate_same n h)

  array_same : (o : Option (List Bounds)) {v : Val} {a : MVal} {w : W} {m : MW} → VR at v a → WR at w m → OpR at (VR at) (array_op o v w) (array_op o a m)
  array_same None h wr = faults error.BadArray wr
  array_same (Some bs) h wr = new_same (rarray bs (replicate_same (elements_in bs) h)) wr

  copy_of_same : {o : Option (Object Val)} {x : Option (Object MVal)} {w : W} {m : MW} → OptR (ObjectR at) o x → WR at w m → OpR at (VR at) (copy_of o w) (copy_of x m)
  copy_of_same none wr = faults error.WrongType wr
  copy_of_same (some (rarray bs hs)) wr = new_same (rarray bs hs) wr
  copy_of_same (some (rtable es)) wr = faults error.WrongType wr
  copy_of_same (some (rrecord t fs hs)) wr = faults error.WrongType wr

  copy_same : {v : Val} {a : MVal} {w : W} {m : MW} → VR at v a → WR at w m → OpR at (VR at) (copy_op v w) (copy_op a m)
  copy_same (rstr s) wr = faults error.WrongType wr
  copy_same (rint z) wr = faults error.WrongType wr
  copy_same (rpat c) wr = faults error.WrongType wr
  copy_same (rnam n) wr = faults error.WrongType wr
  copy_same (rexp e) wr = faults error.WrongType wr
  copy_same (robj k) wr = copy_of_same (object_same at wr.objects k) wr

  field_values_same : (fs : List Bytes) {vs : List Val} {ms : List MVal} → VRs at vs ms → VRs at (field_values fs vs) (field_values fs ms)
  field_values_same [] hs = rnil
  field_values_same (f ∷ fs) rnil = rcons (rstr []) (field_values_same fs rnil)
  field_values_same (f ∷ fs) (rcons h hs) = rcons h (field_values_same fs hs)

  -- ---- elements and fields

  integers_same : {vs : List Val} {ms : List MVal} → VRs at vs ms → all_integers ms ≡ all_integers vs
  integers_same rnil = refl
  integers_same (rcons h hs) = λ i. then_conv (o.int_same at h i) (λ z. then_conv (integers_same hs i) (λ zs. Got (z ∷ zs)))

  named_same : (k : ℕ) (i : Option ℕ) {w : W} {m : MW} → WR at w m → OpR at ◌≡◌ (named_element k i w) (named_element k i m)
  named_same k None wr = refuses wr
  named_same k (Some i) wr = gives refl wr

  key_same : (k : ℕ) {v : Val} {a : MVal} → VR at v a → g.keyed_name k a ≡ g.keyed_name k v
  key_same k (rstr s) = refl
  key_same k (rint z) = refl
  key_same k (rpat c) = refl
  key_same k (rnam n) = refl
  key_same k (rexp e) = refl
  key_same k (robj n) = refl

  table_same : (k : ℕ) {vs : List Val} {ms : List MVal} {w : W} {m : MW} → VRs at vs ms → WR at w m → OpR at ◌≡◌ (table_element k vs w) (table_element k ms m)
  table_same k rnil wr = faults error.BadArray wr
  table_same k (rcons h rnil) wr = conv_same at ◌≡◌ _ _ _ _ (key_same k h) wr (λ n. gives refl wr)
  table_same k (rcons h (rcons i hs)) wr = faults error.BadArray wr

  in_same : (k : ℕ) {o : Option (Object Val)} {x : Option (Object MVal)} {vs : List Val} {ms : List MVal} {w : W} {m : MW} → OptR (ObjectR at) o x → VRs at vs ms → WR at w m → OpR at ◌≡◌ (element_in k o vs w) (element_in k x ms m)
  in_same k none hs wr = faults error.WrongType wr
  in_same k (some (rarray bs ks)) hs wr =
      if_same at ◌≡◌ _ _ _ _ _ _ (ap (λ n. nat_eq n (length bs)) (length_same hs)) (conv_same at ◌≡◌ _ _ _ _ (integers_same hs) wr (λ zs. named_same k (place_from 0 bs zs) wr)) (faults error.BadArray wr)
  in_same k (some (rtable es)) hs wr = table_same k hs wr
  in_same k (some (rrecord t fs ks)) hs wr = faults error.WrongType wr

  pub element_same : {v : Val} {a : MVal} {vs : List Val} {ms : List MVal} {w : W} {m : MW} → VR at v a → VRs at vs ms → WR at w m → OpR at ◌≡◌ (element_op v vs w) (element_op a ms m)
  element_same (rstr s) hs wr = faults error.WrongType wr
  element_same (rint z) hs wr = faults error.WrongType wr
  element_same (rpat c) hs wr = faults error.WrongType wr
  element_same (rnam n) hs wr = faults error.WrongType wr
  element_same (rexp e) hs wr = faults error.WrongType wr
  element_same (robj k) hs wr = in_same k (object_same at wr.objects k) hs wr

  named_field_same : (k : ℕ) (i : Option ℕ) {w : W} {m : MW} → WR at w m → OpR at ◌≡◌ (named_field k i w) (named_field k i m)
  named_field_same k None wr = faults error.WrongType wr
  named_field_same k (Some i) wr = gives refl wr

  field_in_same : (f : Bytes) (k : ℕ) {o : Option (Object Val)} {x : Option (Object MVal)} {w : W} {m : MW} → OptR (ObjectR at) o x → WR at w m → OpR at ◌≡◌ (field_in f k o w) (field_in f k x m)
  field_in_same f k none wr = faults error.WrongType wr
  field_in_same f k (some (rarray bs hs)) wr = faults error.WrongType wr
  field_in_same f k (some (rtable es)) wr = faults error.WrongType wr
  field_in_same f k (some (rrecord t fs hs)) wr = named_field_same k (index_of 0 f fs) wr

  field_same : (f : Bytes) {v : Val} {a : MVal} {w : W} {m : MW} → VR at v a → WR at w m → OpR at ◌≡◌ (field_op f v w) (field_op f a m)
  field_same f (rstr s) wr = faults error.WrongType wr
  field_same f (rint z) wr = faults error.WrongType wr
  field_same f (rpat c) wr = faults error.WrongType wr
  field_same f (rnam n) wr = faults error.WrongType wr
  field_same f (rexp e) wr = faults error.WrongType wr
  field_same f (robj k) wr = field_in_same f k (object_same at wr.objects k) wr

  -- ---- types

  object_type_same : {o : Option (Object Val)} {x : Option (Object MVal)} → OptR (ObjectR at) o x → object_type x ≡ object_type o
  object_type_same none = refl
  object_type_same (some (rarray bs hs)) = refl
  object_type_same (some (rtable es)) = refl
  object_type_same (some (rrecord t fs hs)) = refl

  type_same : {v : Val} {a : MVal} {w : W} {m : MW} → VR at v a → WR at w m → type_of m a ≡ type_of w v
  type_same (rstr s) wr = refl
  type_same (rint z) wr = refl
  type_same (rpat c) wr = refl
  type_same (rnam n) wr = refl
  type_same (rexp e) wr = refl
  type_same (robj k) wr = object_type_same (object_same at wr.objects k)

  -- ---- tables as arrays

  key_value_same : (k : Key) → VR at (g.value_of_key k) (g.value_of_key k)
  key_value_same (IntegerAt z) = rint z
  key_value_same (StringAt s) = rstr s

  if_rows : (b c : Bool) {vs us : List Val} {ms ns : List MVal} → c ≡ b → VRs at vs ms → VRs at us ns → VRs at (if b then vs else us) (if c then ms else ns)
  if_rows b c {vs} {us} {ms} {ns} e h k = subst (λ c. VRs at (if b then vs else us) (if c then ms else ns)) (sym e) (go b)
    where
      go : (b : Bool) → VRs at (if b then vs else us) (if b then ms else ns)
      go true = h
      go false = k

  rows_same : {es : List (Entry Val)} {fs : List (Entry MVal)} → EntriesR at es fs → VRs at (rows is_null g.value_of_key es) (rows is_null g.value_of_key fs)
  rows_same enil = rnil
  rows_same (econs k h hs) = if_rows _ _ (null_same at h) (rows_same hs) (rcons (key_value_same k) (rcons h (rows_same hs)))

  count_same : {es : List (Entry Val)} {fs : List (Entry MVal)} → EntriesR at es fs → row_count is_null fs ≡ row_count is_null es
  count_same enil = refl
  count_same (econs k h hs) = λ i. if null_same at h i then count_same hs i else count_same hs i + 1

  rows_array_same : {es : List (Entry Val)} {fs : List (Entry MVal)} {w : W} {m : MW} → EntriesR at es fs → WR at w m → OpR at (VR at) (rows_array es w) (rows_array fs m)
  rows_array_same {es} {fs} {w} {m} hs wr =
      if_same at (VR at) _ _ _ _ _ _ (ap (λ n. nat_eq n 0) (count_same hs)) (refuses wr)
      (if_same at (VR at) _ _ _ _ _ _ (ap (λ n. nat_lt 524288 n) (count_same hs)) (faults error.BadArray wr)
      (subst (λ n. OpR at (VR at) (new_object (ArrayOf (pairs (row_count is_null es)) (rows is_null g.value_of_key es)) w) (new_object (ArrayOf (pairs n) (rows is_null g.value_of_key fs)) m)) (sym (count_same hs)) (new_same (rarray (pairs (row_count is_null es)) (rows_same hs)) wr)))

  table_array_same : {o : Option (Object Val)} {x : Option (Object MVal)} {w : W} {m : MW} → OptR (ObjectR at) o x → WR at w m → OpR at (VR at) (table_array o w) (table_array x m)
  table_array_same none wr = refuses wr
  table_array_same (some (rarray bs hs)) wr = refuses wr
  table_array_same (some (rtable es)) wr = rows_array_same es wr
  table_array_same (some (rrecord t fs hs)) wr = refuses wr

  as_array_same : {v : Val} {a : MVal} {w : W} {m : MW} → VR at v a → WR at w m → OpR at (VR at) (as_array v w) (as_array a m)
  as_array_same (rstr s) wr = refuses wr
  as_array_same (rint z) wr = refuses wr
  as_array_same (rpat c) wr = refuses wr
  as_array_same (rnam n) wr = refuses wr
  as_array_same (rexp e) wr = refuses wr
  as_array_same (robj k) wr = table_array_same (object_same at wr.objects k) wr

  -- ---- comparing

  same_same : {u v : Val} {a b : MVal} → VR at u a → VR at v b → same_value a b ≡ same_value u v
  same_same (rpat s) h = refl
  same_same (rexp s) h = refl
  same_same (rstr s) (rstr t) = refl
  same_same (rstr s) (rint t) = refl
  same_same (rstr s) (rpat t) = refl
  same_same (rstr s) (rnam t) = refl
  same_same (rstr s) (rexp t) = refl
  same_same (rstr s) (robj t) = refl
  same_same (rint s) (rstr t) = refl
  same_same (rint s) (rint t) = refl
  same_same (rint s) (rpat t) = refl
  same_same (rint s) (rnam t) = refl
  same_same (rint s) (rexp t) = refl
  same_same (rint s) (robj t) = refl
  same_same (rnam s) (rstr t) = refl
  same_same (rnam s) (rint t) = refl
  same_same (rnam s) (rpat t) = refl
  same_same (rnam s) (rnam t) = refl
  same_same (rnam s) (rexp t) = refl
  same_same (rnam s) (robj t) = refl
  same_same (robj s) (rstr t) = refl
  same_same (robj s) (rint t) = refl
  same_same (robj s) (rpat t) = refl
  same_same (robj s) (rnam t) = refl
  same_same (robj s) (rexp t) = refl
  same_same (robj s) (robj t) = refl

  holds_same : (b c : Bool) {w : W} {m : MW} → c ≡ b → WR at w m → OpR at (VR at) (holds_if b w) (holds_if c m)
  holds_same b c e wr = if_same at (VR at) b c _ _ _ _ e (gives (rstr []) wr) (refuses wr)

  compare_same : (f : ℤ → ℤ → Bool) {u v : Val} {a b : MVal} {w : W} {m : MW} → VR at u a → VR at v b → WR at w m → OpR at (VR at) (compare_op f u v w) (compare_op f a b m)
  compare_same f h k wr = conv_same at (VR at) _ _ _ _ (o.int_same at h) wr (λ i. conv_same at (VR at) _ _ _ _ (o.int_same at k) wr (λ j. holds_same (f i j) (f i j) refl wr))

  same_op_same : (f : Bool → Bool) (x y : Option Bool) {w : W} {m : MW} → y ≡ x → WR at w m → OpR at (VR at) (same_op f x w) (same_op f y m)
  same_op_same f x y {w} {m} e wr = subst (λ y. OpR at (VR at) (same_op f x w) (same_op f y m)) (sym e) (go x)
    where
      go : (x : Option Bool) → OpR at (VR at) (same_op f x w) (same_op f x m)
      go None = faults error.WrongType wr
      go (Some b) = holds_same (f b) (f b) refl wr

  is_integer_same : {v : Val} {a : MVal} → VR at v a → is_integer a ≡ is_integer v
  is_integer_same (rstr s) = refl
  is_integer_same (rint z) = refl
  is_integer_same (rpat c) = refl
  is_integer_same (rnam n) = refl
  is_integer_same (rexp e) = refl
  is_integer_same (robj k) = refl

  -- ---- strings and integers

  repeated_same : (s : Bytes) (z : ℤ) {w : W} {m : MW} → WR at w m → OpR at (VR at) (repeated s z w) (repeated s z m)
  repeated_same s (pos n) wr = if_same at (VR at) _ _ _ _ _ _ (ap (λ k. int_le (pos (n * length s)) k.maxlngth) (keys_same at wr)) (gives (rstr _) wr) (faults error.StringTooLong wr)
  repeated_same s (negsuc n) wr = refuses wr

  replaced_same : (s t u : Bytes) {w : W} {m : MW} → WR at w m → OpR at (VR at) (replaced_in s t u w) (replaced_in s t u m)
  replaced_same s t u wr = if_same at (VR at) _ _ _ _ _ _ refl (refuses wr) (gives (rstr _) wr)

  remainder_same : (i j : ℤ) {w : W} {m : MW} → WR at w m → OpR at (VR at) (remainder i j w) (remainder i j m)
  remainder_same i (pos zero) wr = faults error.Arithmetic wr
  remainder_same i (pos (suc n)) wr = gives (rint _) wr
  remainder_same i (negsuc n) wr = gives (rint _) wr

  -- ---- CONVERT

  or_fail_same : {A : Type 0} (c d : Conv A) {w : W} {m : MW} (k : A → Op W Val) (l : A → Op MW MVal) → d ≡ c → WR at w m → ((a : A) → OpR at (VR at) (k a) (l a)) → OpR at (VR at) (or_fail c w k) (or_fail d m l)
  or_fail_same c d {w} {m} k l e wr h = subst (λ d. OpR at (VR at) (or_fail c w k) (or_fail d m l)) (sym e) (go c)
    where
      go : (c : Conv _) → OpR at (VR at) (or_fail c w k) (or_fail c m l)
      go (Got a) = h a
      go (Bad n) = refuses wr

  as_pattern_same : {c : Conv Pattern} {d : Conv PCode} {w : W} {m : MW} → ConvR (λ p c. Stands at p c) c d → WR at w m → OpR at (VR at) (or_fail c w (λ q. Gives (Pat q) w)) (or_fail d m (λ q. Gives (Pat q) m))
  as_pattern_same (got s) wr = gives (rpat s) wr
  as_pattern_same (bad e) wr = refuses wr

  converted_same : {v : Val} {a : MVal} (t : Bytes) {w : W} {m : MW} → VR at v a → WR at w m → OpR at (VR at) (converted pattern_trees v t w) (converted codes_of a t m)
  converted_same t h wr =
      if_same at (VR at) _ _ _ _ _ _ (ap (bytes_eq t) (type_same h wr)) (gives h wr)
      (if_same at (VR at) _ _ _ _ _ _ refl (or_fail_same _ _ _ _ (text_same at h) wr (λ s. gives (rstr s) wr))
      (if_same at (VR at) _ _ _ _ _ _ refl (or_fail_same _ _ _ _ (o.int_same at h) wr (λ z. gives (rint z) wr))
      (if_same at (VR at) _ _ _ _ _ _ refl (as_pattern_same (pattern_same at h) wr)
      (if_same at (VR at) _ _ _ _ _ _ refl (as_array_same h wr) (refuses wr)))))

  -- ---- functions and units

  level_same : {w : W} {m : MW} → WR at w m → w.plain.level ≡ m.plain.level
  level_same wr = ap (λ (x : Plain). x.level) wr.plain

  function_same : (f : Bytes) (d : Function) {w : W} {m : MW} → WR at w m → WR at (set_function f d w) (set_function f d m)
  function_same f d wr = plain_same at _ _ (λ i. record (wr.plain i) { functions = λ g. if bytes_eq f g then Some d else (wr.plain i).functions g }) wr

  fields_same : (fs : List Bytes) {w : W} {m : MW} → WR at w m → WR at (set_fields fs w) (set_fields fs m)
  fields_same [] wr = wr
  fields_same (f ∷ fs) wr = fields_same fs (function_same f Field wr)

  data_same : (t : Option TypePrototype) {w : W} {m : MW} → WR at w m → OpR at (VR at) (data_op t w) (data_op t m)
  data_same None wr = faults error.BadPrototype wr
  data_same (Some t) wr = gives (rstr []) (fields_same t.fields (function_same t.name (Constructor t.fields) wr))

  entry_same : {v : Val} {a : MVal} → VR at v a → to_entry_label a ≡ to_entry_label v
  entry_same h = λ i. if null_same at h i then Got None else then_conv (label_same at h i) (λ l. Got (Some l))

  define_same : (l : Option Bytes) (f : Option FunctionPrototype) {w : W} {m : MW} → WR at w m → OpR at (VR at) (define_op l f w) (define_op l f m)
  define_same l None wr = faults error.BadPrototype wr
  define_same l (Some f) wr = gives (rstr []) (function_same f.name (Defined (entry_or f.name l) f.arguments f.locals) wr)

  unit_same : (n : ℕ) {v : Val} {a : MVal} {w : W} {m : MW} (k : ℕ → Op W Val) (l : ℕ → Op MW MVal) → VR at v a → WR at w m → ((u : ℕ) → OpR at (VR at) (k u) (l u)) → OpR at (VR at) (unit_op n v w k) (unit_op n a m l)
  unit_same n k l h wr f =
      if_same at (VR at) _ _ _ _ _ _ (null_same at h) (f n) (conv_same at (VR at) _ _ _ _ (o.int_same at h) wr (λ z. conv_same at (VR at) (unit_number z) (unit_number z) _ _ refl wr f))

  reads_same : (x : Bytes) (u : Option ℕ) {w : W} {m : MW} → WR at w m → WR at (set_reads x u w) (set_reads x u m)
  reads_same x u wr = plain_same at _ _ (λ i. record (wr.plain i) { reads = λ y. if bytes_eq x y then u else (wr.plain i).reads y }) wr

  writes_same : (x : Bytes) (u : Option ℕ) {w : W} {m : MW} → WR at w m → WR at (set_writes x u w) (set_writes x u m)
  writes_same x u wr = plain_same at _ _ (λ i. record (wr.plain i) { writes = λ y. if bytes_eq x y then u else (wr.plain i).writes y }) wr

  -- ---- all primitives

  returned_same : {x : Op W Val} {y : Op MW MVal} → OpR at (VR at) x y → OpR at (OutcomeR at) (returned x) (returned y)
  returned_same h = then_same at (VR at) (OutcomeR at) _ _ h (λ a c w m k wr. gives (returns (rval k)) wr)

  item_op_same : {vs : List Val} {ms : List MVal} {w : W} {m : MW} → VRs at vs ms → WR at w m → OpR at (OutcomeR at) (item_op vs w) (item_op ms m)
  item_op_same rnil wr = faults error.WrongType wr
  item_op_same (rcons h hs) wr =
      then_same at ◌≡◌ (OutcomeR at) _ _ (element_same h hs wr) (λ n k w m e r. subst (λ k. OpR at (OutcomeR at) (Gives (Returns (AName n)) w) (Gives (Returns (AName k)) m)) e (gives (returns (rname n)) r))

  applied_same : (f : Bytes) {vs : List Val} {ms : List MVal} {w : W} {m : MW} (k : PrimId → Op W (Outcome Pattern Expr)) (l : PrimId → Op MW (Outcome PCode ℕ)) → VRs at vs ms → WR at w m
      → ((q : PrimId) → OpR at (OutcomeR at) (k q) (l q)) → (x : Option PrimId) → OpR at (OutcomeR at) (applied f vs w k x) (applied f ms m l x)
  applied_same f k l hs wr h None = gives (calls f hs) wr
  applied_same f k l hs wr h (Some q) = if_same at (OutcomeR at) _ _ _ _ _ _ (ap (nat_lt (most_args q)) (length_same hs)) (faults error.TooManyArguments wr) (h q)

  applied_at_level : (f : Bytes) {vs : List Val} {ms : List MVal} {w : W} {m : MW} (k : PrimId → Op W (Outcome Pattern Expr)) (l : PrimId → Op MW (Outcome PCode ℕ)) → VRs at vs ms → WR at w m
      → ((q : PrimId) → OpR at (OutcomeR at) (k q) (l q)) → OpR at (OutcomeR at) (applied f vs w k (prim_at w.plain.level f)) (applied f ms m l (prim_at m.plain.level f))
  applied_at_level f {vs} {ms} {w} {m} k l hs wr h =
      subst (λ x. OpR at (OutcomeR at) (applied f vs w k (prim_at w.plain.level f)) (applied f ms m l (prim_at x f))) (level_same wr) (applied_same f k l hs wr h (prim_at w.plain.level f))

  pub prim_same : (f : PrimId) {vs : List Val} {ms : List MVal} {w : W} {m : MW} → VRs at vs ms → WR at w m → OpR at (OutcomeR at) (prim_op pattern_trees f vs w) (prim_op codes_of f ms m)
  prim_same p.Len hs wr = returned_same (kind_same at KLen (arg_same hs 0) wr)
  prim_same p.Pos hs wr = returned_same (kind_same at KPos (arg_same hs 0) wr)
  prim_same p.RPos hs wr = returned_same (kind_same at KRPos (arg_same hs 0) wr)
  prim_same p.Tab hs wr = returned_same (kind_same at KTab (arg_same hs 0) wr)
  prim_same p.RTab hs wr = returned_same (kind_same at KRTab (arg_same hs 0) wr)
  prim_same p.Any hs wr = returned_same (kind_same at KAny (arg_same hs 0) wr)
  prim_same p.NotAny hs wr = returned_same (kind_same at KNotAny (arg_same hs 0) wr)
  prim_same p.Span hs wr = returned_same (kind_same at KSpan (arg_same hs 0) wr)
  prim_same p.Break hs wr = returned_same (kind_same at KBreak (arg_same hs 0) wr)
  prim_same p.Arbno hs wr = returned_same (conv_stands at (λ p c. Stands at p c) (VR at) _ _ (pattern_same at (arg_same hs 0)) wr (λ p c x. gives (rpat (c, x, refl)) wr))
  prim_same p.Eq hs wr = returned_same (compare_same _ (arg_same hs 0) (arg_same hs 1) wr)
  prim_same p.Ne hs wr = returned_same (compare_same _ (arg_same hs 0) (arg_same hs 1) wr)
  prim_same p.Lt hs wr = returned_same (compare_same _ (arg_same hs 0) (arg_same hs 1) wr)
  prim_same p.Le hs wr = returned_same (compare_same _ (arg_same hs 0) (arg_same hs 1) wr)
  prim_same p.Gt hs wr = returned_same (compare_same _ (arg_same hs 0) (arg_same hs 1) wr)
  prim_same p.Ge hs wr = returned_same (compare_same _ (arg_same hs 0) (arg_same hs 1) wr)
  prim_same p.Lgt hs wr = returned_same (conv_same at (VR at) _ _ _ _ (text_same at (arg_same hs 0)) wr (λ s. conv_same at (VR at) _ _ _ _ (text_same at (arg_same hs 1)) wr (λ t. holds_same _ _ refl wr)))
  prim_same p.Ident hs wr = returned_same (same_op_same _ _ _ (same_same (arg_same hs 0) (arg_same hs 1)) wr)
  prim_same p.Differ hs wr = returned_same (same_op_same _ _ _ (same_same (arg_same hs 0) (arg_same hs 1)) wr)
  prim_same p.Integer hs wr = returned_same (holds_same _ _ (is_integer_same (arg_same hs 0)) wr)
  prim_same p.Size hs wr = returned_same (conv_same at (VR at) _ _ _ _ (text_same at (arg_same hs 0)) wr (λ s. gives (rint _) wr))
  prim_same p.Trim hs wr = returned_same (conv_same at (VR at) _ _ _ _ (text_same at (arg_same hs 0)) wr (λ s. gives (rstr _) wr))
  prim_same p.Dupl hs wr =
      returned_same (conv_same at (VR at) _ _ _ _ (text_same at (arg_same hs 0)) wr (λ s. conv_same at (VR at) _ _ _ _ (o.int_same at (arg_same hs 1)) wr (λ n. repeated_same s n wr)))
  prim_same p.Replace hs wr =
      returned_same (conv_same at (VR at) _ _ _ _ (text_same at (arg_same hs 0)) wr
      (λ s. conv_same at (VR at) _ _ _ _ (text_same at (arg_same hs 1)) wr (λ t. conv_same at (VR at) _ _ _ _ (text_same at (arg_same hs 2)) wr (λ u. replaced_same s t u wr))))
  prim_same p.Remdr hs wr =
      returned_same (conv_same at (VR at) _ _ _ _ (o.int_same at (arg_same hs 0)) wr (λ i. conv_same at (VR at) _ _ _ _ (o.int_same at (arg_same hs 1)) wr (λ j. remainder_same i j wr)))
  prim_same p.DataType {vs} {ms} {w} {m} hs wr =
      returned_same (subst (λ t. OpR at (VR at) (Gives (Str (type_of w (arg_at vs 0))) w) (Gives (Str t) m)) (sym (type_same (arg_same hs 0) wr)) (gives (rstr _) wr))
  prim_same p.Array hs wr = returned_same (conv_same at (VR at) _ _ _ _ (text_same at (arg_same hs 0)) wr (λ s. array_same (array_prototype s) (arg_same hs 1) wr))
  prim_same p.Table hs wr = returned_same (new_same (rtable enil) wr)
  prim_same p.Item hs wr = item_op_same hs wr
  prim_same p.Copy hs wr = returned_same (copy_same (arg_same hs 0) wr)
  prim_same p.Convert hs wr = returned_same (conv_same at (VR at) _ _ _ _ (text_same at (arg_same hs 1)) wr (λ t. converted_same t (arg_same hs 0) wr))
  prim_same p.Data {vs} {ms} {w} {m} hs wr =
      returned_same (conv_same at (VR at) _ _ _ _ (text_same at (arg_same hs 0)) wr
      (λ s. subst (λ l. OpR at (VR at) (data_op (type_prototype w.plain.level s) w) (data_op (type_prototype l s) m)) (level_same wr) (data_same (type_prototype w.plain.level s) wr)))
  prim_same p.Define {vs} {ms} {w} {m} hs wr =
      returned_same (conv_same at (VR at) _ _ _ _ (text_same at (arg_same hs 0)) wr (λ s. conv_same at (VR at) _ _ _ _ (entry_same (arg_same hs 1)) wr
      (λ e. subst (λ l. OpR at (VR at) (define_op e (function_prototype w.plain.level s) w) (define_op e (function_prototype l s) m)) (level_same wr) (define_same e (function_prototype w.plain.level s) wr))))
  prim_same p.Input hs wr =
      returned_same (conv_same at (VR at) _ _ _ _ (variable_same at (arg_same hs 0)) wr (λ x. unit_same 5 _ _ (arg_same hs 1) wr (λ u. gives (rstr []) (reads_same x (Some u) wr))))
  prim_same p.Output hs wr =
      returned_same (conv_same at (VR at) _ _ _ _ (variable_same at (arg_same hs 0)) wr (λ x. unit_same 6 _ _ (arg_same hs 1) wr (λ u. gives (rstr []) (writes_same x (Some u) wr))))
  prim_same p.Detach hs wr = returned_same (conv_same at (VR at) _ _ _ _ (variable_same at (arg_same hs 0)) wr (λ x. gives (rstr []) (writes_same x None (reads_same x None wr))))
  prim_same p.Fence hs wr = returned_same (conv_stands at (λ p c. Stands at p c) (VR at) _ _ (pattern_same at (arg_same hs 0)) wr (λ p c x. gives (rpat (c, x, refl)) wr))
  prim_same p.Apply rnil wr = faults error.NotAName wr
  prim_same p.Apply (rcons h hs) wr = conv_same at (OutcomeR at) _ _ _ _ (variable_same at h) wr (λ f. applied_at_level f _ _ hs wr (λ q. prim_same q hs wr))

  -- ---- calls

  pub data SavedR : List (Saved Pattern Expr) → List (Saved PCode ℕ) → Type 0 where
    snil : SavedR [] []
    scons : (x : Bytes) {v : Val} {a : MVal} {s : List (Saved Pattern Expr)} {t : List (Saved PCode ℕ)} → VR at v a → SavedR s t → SavedR (record { var = x; value = v } ∷ s) (record { var = x; value = a } ∷ t)

  pub record KeptR (k : Kept Pattern Expr) (l : Kept PCode ℕ) : Type 0 where
    pub name : k.name ≡ l.name
    pub saved : SavedR k.saved l.saved
    pub stno : l.stno ≡ k.stno
    pub fnclevel : l.fnclevel ≡ k.fnclevel

  saved_same : (xs : List Bytes) {w : W} {m : MW} → WR at w m → SavedR (saved_of xs w) (saved_of xs m)
  saved_same [] wr = snil
  saved_same (x ∷ xs) wr = scons x (wr.vars x) (saved_same xs wr)

  pub kept_same : (f : Bytes) (xs ys : List Bytes) {w : W} {m : MW} → WR at w m → KeptR (kept_of f xs ys w) (kept_of f xs ys m)
  kept_same f xs ys wr = record { name = refl; saved = saved_same (f ∷ (xs ++ ys)) wr; stno = ap (λ k. k.stno) (keys_same at wr); fnclevel = ap (λ k. k.fnclevel) (keys_same at wr) }

  bind_same : (xs : List Bytes) {vs : List Val} {ms : List MVal} {w : W} {m : MW} → VRs at vs ms → WR at w m → WR at (bind_arguments xs vs w) (bind_arguments xs ms m)
  bind_same [] hs wr = wr
  bind_same (x ∷ xs) rnil wr = bind_same xs rnil (var_same at x (rstr []) wr)
  bind_same (x ∷ xs) (rcons h hs) wr = bind_same xs hs (var_same at x h wr)

  pub enter_call_same : (f : Bytes) (xs ys : List Bytes) {vs : List Val} {ms : List MVal} {w : W} {m : MW} → VRs at vs ms → WR at w m → WR at (enter_call f xs ys vs w) (enter_call f xs ys ms m)
  enter_call_same f xs ys hs wr = set_keys_same at (λ k. record k { fnclevel = counted_up k.fnclevel }) (bind_same ys rnil (bind_same xs hs (var_same at f (rstr []) wr)))

  restore_same : {s : List (Saved Pattern Expr)} {t : List (Saved PCode ℕ)} {w : W} {m : MW} → SavedR s t → WR at w m → WR at (restore s w) (restore t m)
  restore_same snil wr = wr
  restore_same (scons x h hs) wr = var_same at x h (restore_same hs wr)

  back_same : (r : ReturnKind) {k : Kept Pattern Expr} {l : Kept PCode ℕ} {w : W} {m : MW} → KeptR k l → WR at w m → WR at (back_to_caller r k w) (back_to_caller r l m)
  back_same r kr wr =
      let a = restore_same kr.saved wr in
      plain_same at _ _ (λ i. record (a.plain i) { keys = record ((a.plain i).keys) { stno = sym kr.stno i; fnclevel = sym kr.fnclevel i; rtntype = return_name r } }) a

  pub leave_same : (r : ReturnKind) {k : Kept Pattern Expr} {l : Kept PCode ℕ} {w : W} {m : MW} → KeptR k l → WR at w m → OpR at (GR at) (leave_op r k w) (leave_op r l m)
  leave_same kind.Return {k} {l} {w} {m} kr wr = gives (rval (subst (λ f. VR at (w.vars k.name) (m.vars f)) kr.name (wr.vars k.name))) (back_same kind.Return kr wr)
  leave_same kind.FReturn kr wr = refuses (back_same kind.FReturn kr wr)
  leave_same kind.NReturn {k} {l} {w} {m} kr wr =
      conv_same at (GR at) _ _ _ _ (ap or_no_name (name_same at (subst (λ f. VR at (w.vars k.name) (m.vars f)) kr.name (wr.vars k.name)))) wr (λ n. gives (rname n) (back_same kind.NReturn kr wr))

  pub as_value_same : {g : Back} {h : MBack} {w : W} {m : MW} → GR at g h → WR at w m → OpR at (VR at) (as_value g w) (as_value h m)
  as_value_same (rval h) wr = gives h wr
  as_value_same (rname n) wr = fetch_same at n wr

  pub as_name_same : {g : Back} {h : MBack} {w : W} {m : MW} → GR at g h → WR at w m → OpR at ◌≡◌ (as_name g w) (as_name h m)
  as_name_same (rval h) wr = faults error.NotAName wr
  as_name_same (rname n) wr = gives refl wr

  pub construct_same : (t : Bytes) (fs : List Bytes) {vs : List Val} {ms : List MVal} {w : W} {m : MW} → VRs at vs ms → WR at w m → OpR at (GR at) (construct_op t fs vs w) (construct_op t fs ms m)
  construct_same t fs hs wr = then_same at (VR at) (GR at) _ _ (new_same (rrecord t fs (field_values_same fs hs)) wr) (λ a c w m k r. gives (rval k) r)

  pub select_same : (f : Bytes) {vs : List Val} {ms : List MVal} {w : W} {m : MW} → VRs at vs ms → WR at w m → OpR at (GR at) (select_op f vs w) (select_op f ms m)
  select_same f hs wr = then_same at ◌≡◌ (GR at) _ _ (field_same f (arg_same hs 0) wr) (λ n k w m e r. subst (λ k. OpR at (GR at) (Gives (AName n) w) (Gives (AName k) m)) e (gives (rname n) r))
