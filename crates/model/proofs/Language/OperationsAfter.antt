-- What an operation does doesn't depend on what was printed before.
use Rattle.std.proofs.Common.{◌≡◌, ℕ, zero, suc, List, [], ◌∷◌, ◌++◌, take, drop, slice_get, ℤ, pos, negsuc, Option, Some, None, Bool, true, false, nat_lt, nat_eq, bytes_eq, if◌then◌else◌, refl, ap, ◌∙◌, append_assoc}
use Rattle.model.specs.declared.instr.ArithOp.{ArithOp}
use Rattle.model.specs.declared.instr.SignOp.{SignOp}
use Rattle.model.specs.declared.instr.ReturnKind.{ReturnKind}
use Rattle.model.specs.declared.instr.ReturnKind.TheVariants as kind
use Rattle.model.specs.declared.keys.KeyId.{KeyId}
use Rattle.model.specs.declared.primitives.PrimId.{PrimId}
use Rattle.model.specs.declared.primitives.PrimId.TheVariants as p
use Rattle.model.specs.Deck.Trees.{Bytes}
use Rattle.model.specs.Language.Keywords.{counted_up, return_name}
use Rattle.model.specs.Deck.Target.{Name, Variable, Element, IntegerKey, StringKey}
use Rattle.model.specs.Language.Names.{prim_at}
use Rattle.model.specs.Pattern.Patterns.{Kind, KLen, KPos, KRPos, KTab, KRTab, KAny, KNotAny, KSpan, KBreak, Pending, want_of_kind}
use Rattle.model.specs.Language.Values.{Value, Str, Int, Pat, Nam, Exp, Obj, Makes, Constructor, Field, Bounds, Entry, Object, ArrayOf, TableOf, RecordOf, World, set_io, set_var, set_keys, keys_of}
use Rattle.model.specs.Language.Conversions.{Op, Gives, Refuses, Faults, Conv, Got, Bad, conv, then_op, to_text, to_integer, to_pattern, to_name, to_variable, is_null, answer_of}
use Rattle.model.specs.Language.Operators.{arith_of, arith_op, sign_of, sign_op, two_patterns, text_joined, join_rest, cat_op, alt_op, cond_op, imm_op, indir_op, take_record, fetch_var, there, fetch_op, print_text, write_var, with_item, put_objects, put_object, assign_op, assign_all, splice_op, keyset_op, kind_op, match_op}
use Rattle.model.specs.Language.Prototypes.{FunctionPrototype, function_prototype, TypePrototype, type_prototype, array_prototype}
use Rattle.model.specs.Language.Aggregates.{new_object, array_op, type_of, copy_of, copy_op, row_count, all_integers, named_element, keyed_name, table_element, element_in, element_op, named_field, field_in, field_op, rows_array, table_array, as_array, place_from, index_of}
use Rattle.model.specs.Language.Calls.{Returned, AValue, AName, Saved, Kept, bind_arguments, saved_of, kept_of, restore, back_to_caller, or_no_name, enter_call, leave_op, as_value, as_name, construct_op, select_op, arg_at}
use Rattle.model.specs.Language.Primitives.{Outcome, Returns, holds_if, compare_op, same_value, same_op, repeated, remainder, or_fail, converted, set_function, set_fields, data_op, to_entry_label, define_op, unit_number, unit_op, set_reads, set_writes, returned, item_op, applied, prim_op}
use Rattle.model.specs.Laws.Agreement.{Records}
use Rattle.model.specs.Laws.PrintedBefore.{after_w}

module _ {P E : Type 0} (before : Records) where
  abbrev aft : World P E → World P E
  aft w = after_w before w

  -- an operation's worlds, with these records printed before all others
  abbrev pub sh : {A : Type 0} → Op (World P E) A → Op (World P E) A
  sh (Gives a w) = Gives a (aft w)
  sh (Refuses w) = Refuses (aft w)
  sh (Faults e w) = Faults e (aft w)

  by_conv : {A B : Type 0} (w : World P E) (c : Conv A) (k k' : A → Op (World P E) B) → ((a : A) → k' a ≡ sh (k a)) → conv c (aft w) k' ≡ sh (conv c w k)
  by_conv w (Got a) k k' h = h a
  by_conv w (Bad e) k k' h = refl

  if_on : {A : Type 0} (b : Bool) (x y x' y' : Op (World P E) A) → x' ≡ sh x → y' ≡ sh y → (if b then x' else y') ≡ sh (if b then x else y)
  if_on true x y x' y' h k = h
  if_on false x y x' y' h k = k

  then_sh : {A B : Type 0} (o : Op (World P E) A) (k : A → World P E → Op (World P E) B) → ((a : A) (v : World P E) → k a (aft v) ≡ sh (k a v)) → then_op (sh o) k ≡ sh (then_op o k)
  then_sh (Gives a w) k h = h a w
  then_sh (Refuses w) k h = refl
  then_sh (Faults e w) k h = refl

  then_on : {A B : Type 0} (o o' : Op (World P E) A) (k : A → World P E → Op (World P E) B) → o' ≡ sh o → ((a : A) (v : World P E) → k a (aft v) ≡ sh (k a v)) → then_op o' k ≡ sh (then_op o k)
  then_on o o' k e h = ap (λ x. then_op x k) e ∙ then_sh o k h

  pub arith_after : (o : ArithOp) (a b : Value P E) (w : World P E) → arith_op o a b (aft w) ≡ sh (arith_op o a b w)
  arith_after o a b w = by_conv w (to_integer a) _ _ (λ i. by_conv w (to_integer b) _ _ (λ j. by_conv w (arith_of o i j) _ _ (λ k. refl)))

  pub sign_after : (o : SignOp) (a : Value P E) (w : World P E) → sign_op o a (aft w) ≡ sh (sign_op o a w)
  sign_after o a w = by_conv w (to_integer a) _ _ (λ i. by_conv w (sign_of o i) _ _ (λ k. refl))

  pub two_after : (mk : Makes P E) (f : P → P → P) (a b : Value P E) (w : World P E) → two_patterns mk f a b (aft w) ≡ sh (two_patterns mk f a b w)
  two_after mk f a b w = by_conv w (to_pattern mk a) _ _ (λ p. by_conv w (to_pattern mk b) _ _ (λ q. refl))

  rest_after : (mk : Makes P E) (o : Option Bytes) (a b : Value P E) (w : World P E) → join_rest mk o a b (aft w) ≡ sh (join_rest mk o a b w)
  rest_after mk (Some s) a b w = if_on _ _ _ _ _ refl refl
  rest_after mk None a b w = two_after mk mk.cat a b w

  pub cat_after : (mk : Makes P E) (a b : Value P E) (w : World P E) → cat_op mk a b (aft w) ≡ sh (cat_op mk a b w)
  cat_after mk a b w = if_on (is_null a) _ _ _ _ refl (if_on (is_null b) _ _ _ _ refl (rest_after mk (text_joined (to_text a) (to_text b)) a b w))

  pub alt_after : (mk : Makes P E) (a b : Value P E) (w : World P E) → alt_op mk a b (aft w) ≡ sh (alt_op mk a b w)
  alt_after mk a b w = two_after mk mk.alt a b w

  pub cond_after : (mk : Makes P E) (a : Value P E) (n : Name) (w : World P E) → cond_op mk a n (aft w) ≡ sh (cond_op mk a n w)
  cond_after mk a n w = by_conv w (to_pattern mk a) _ _ (λ p. refl)

  pub imm_after : (mk : Makes P E) (a : Value P E) (n : Name) (w : World P E) → imm_op mk a n (aft w) ≡ sh (imm_op mk a n w)
  imm_after mk a n w = by_conv w (to_pattern mk a) _ _ (λ p. refl)

  pub indir_after : (a : Value P E) (w : World P E) → indir_op a (aft w) ≡ sh (indir_op a w)
  indir_after a w = by_conv w (to_name a) _ _ (λ n. refl)

  -- ---- names

  take_after : (x : Bytes) (u : ℕ) (l : List Bytes) (w : World P E) → take_record x u l (aft w) ≡ sh (take_record x u l w)
  take_after x u [] w = refl
  take_after x u (r ∷ rs) w = if_on _ _ _ _ _ refl refl

  fetch_var_after : (x : Bytes) (r : Option ℕ) (w : World P E) → fetch_var x r (aft w) ≡ sh (fetch_var x r w)
  fetch_var_after x None w = refl
  fetch_var_after x (Some u) w = if_on _ _ _ _ _ refl (take_after x u (w.io.left u) w)

  there_after : {A : Type 0} (o : Option A) (w : World P E) → there o (aft w) ≡ sh (there o w)
  there_after None w = refl
  there_after (Some a) w = refl

  pub fetch_after : (n : Name) (w : World P E) → fetch_op n (aft w) ≡ sh (fetch_op n w)
  fetch_after (Variable x) w = fetch_var_after x (w.plain.reads x) w
  fetch_after (Element k i) w = there_after _ w
  fetch_after (IntegerKey k z) w = there_after _ w
  fetch_after (StringKey k s) w = there_after _ w

  print_after : (u : ℕ) (c : Conv Bytes) (w : World P E) → print_text u c (aft w) ≡ sh (print_text u c w)
  print_after u (Got s) w = ap (λ l. Gives (record {}) (set_io (record w.io { printed = l }) w)) (append_assoc before w.io.printed (record { unit = u; bytes = s } ∷ []))
  print_after u (Bad e) w = refl

  write_after : (r : Option ℕ) (a : Value P E) (w : World P E) → write_var r a (aft w) ≡ sh (write_var r a w)
  write_after None a w = refl
  write_after (Some u) a w = if_on _ _ _ _ _ refl (print_after u (to_text a) w)

  objects_after : (o : Option (List (Object (Value P E)))) (w : World P E) → put_objects o (aft w) ≡ sh (put_objects o w)
  objects_after None w = refl
  objects_after (Some os) w = refl

  put_after : (k : ℕ) (o : Option (Object (Value P E))) (w : World P E) → put_object k o (aft w) ≡ sh (put_object k o w)
  put_after k None w = refl
  put_after k (Some o) w = objects_after (with_item k o w.objects) w

  pub assign_after : (n : Name) (a : Value P E) (w : World P E) → assign_op n a (aft w) ≡ sh (assign_op n a w)
  assign_after (Variable x) a w = write_after (w.plain.writes x) a (set_var x a w)
  assign_after (Element k i) a w = put_after k _ w
  assign_after (IntegerKey k z) a w = put_after k _ w
  assign_after (StringKey k s) a w = put_after k _ w

  pub assign_all_after : (a : Pending) (w : World P E) → assign_all a (aft w) ≡ sh (assign_all a w)
  assign_all_after [] w = refl
  assign_all_after (x ∷ a) w = then_on _ _ _ (assign_after x.0 (Str x.1) w) (λ _ v. assign_all_after a v)

  pub splice_after : (n : Name) (s : Bytes) (b e : ℕ) (a : Value P E) (w : World P E) → splice_op n s b e a (aft w) ≡ sh (splice_op n s b e a w)
  splice_after n s b e a w = by_conv w (to_text a) _ _ (λ t. if_on _ _ _ _ _ (assign_after n (Str (take b s ++ (t ++ drop e s))) w) refl)

  pub keyset_after : (k : KeyId) (a : Value P E) (w : World P E) → keyset_op k a (aft w) ≡ sh (keyset_op k a w)
  keyset_after k a w = by_conv w (to_integer a) _ _ (λ z. if_on _ _ _ _ _ refl refl)

  -- ---- matches

  kind_after : (mk : Makes P E) (k : Kind) (a : Value P E) (w : World P E) → kind_op mk k a (aft w) ≡ sh (kind_op mk k a w)
  kind_after mk k (Exp e) w = refl
  kind_after mk k (Str s) w = by_conv w (answer_of mk (want_of_kind k) (Str s)) _ _ (λ y. refl)
  kind_after mk k (Int z) w = by_conv w (answer_of mk (want_of_kind k) (Int z)) _ _ (λ y. refl)
  kind_after mk k (Pat p) w = by_conv w (answer_of mk (want_of_kind k) (Pat p)) _ _ (λ y. refl)
  kind_after mk k (Nam n) w = by_conv w (answer_of mk (want_of_kind k) (Nam n)) _ _ (λ y. refl)
  kind_after mk k (Obj n) w = by_conv w (answer_of mk (want_of_kind k) (Obj n)) _ _ (λ y. refl)

  pub match_after : (mk : Makes P E) (a b : Value P E) (w : World P E) → match_op mk a b (aft w) ≡ sh (match_op mk a b w)
  match_after mk a b w = by_conv w (to_text a) _ _ (λ s. by_conv w (to_pattern mk b) _ _ (λ p. refl))

  -- ---- objects

  new_after : (o : Object (Value P E)) (w : World P E) → new_object o (aft w) ≡ sh (new_object o w)
  new_after o w = refl

  array_after : (o : Option (List Bounds)) (a : Value P E) (w : World P E) → array_op o a (aft w) ≡ sh (array_op o a w)
  array_after None a w = refl
  array_after (Some bs) a w = refl

  copy_of_after : (o : Option (Object (Value P E))) (w : World P E) → copy_of o (aft w) ≡ sh (copy_of o w)
  copy_of_after None w = refl
  copy_of_after (Some (ArrayOf bs vs)) w = refl
  copy_of_after (Some (TableOf es)) w = refl
  copy_of_after (Some (RecordOf t fs vs)) w = refl

  copy_after : (a : Value P E) (w : World P E) → copy_op a (aft w) ≡ sh (copy_op a w)
  copy_after (Str s) w = refl
  copy_after (Int z) w = refl
  copy_after (Pat p) w = refl
  copy_after (Nam n) w = refl
  copy_after (Exp e) w = refl
  copy_after (Obj k) w = copy_of_after (slice_get w.objects k) w

  named_element_after : (k : ℕ) (o : Option ℕ) (w : World P E) → named_element k o (aft w) ≡ sh (named_element k o w)
  named_element_after k None w = refl
  named_element_after k (Some i) w = refl

  table_after : (k : ℕ) (vs : List (Value P E)) (w : World P E) → table_element k vs (aft w) ≡ sh (table_element k vs w)
  table_after k [] w = refl
  table_after k (v ∷ []) w = by_conv w (keyed_name k v) _ _ (λ n. refl)
  table_after k (v ∷ u ∷ vs) w = refl

  in_after : (k : ℕ) (o : Option (Object (Value P E))) (vs : List (Value P E)) (w : World P E) → element_in k o vs (aft w) ≡ sh (element_in k o vs w)
  in_after k None vs w = refl
  in_after k (Some (ArrayOf bs es)) vs w = if_on _ _ _ _ _ (by_conv w (all_integers vs) _ _ (λ zs. named_element_after k (place_from 0 bs zs) w)) refl
  in_after k (Some (TableOf es)) vs w = table_after k vs w
  in_after k (Some (RecordOf t fs es)) vs w = refl

  pub element_after : (a : Value P E) (vs : List (Value P E)) (w : World P E) → element_op a vs (aft w) ≡ sh (element_op a vs w)
  element_after (Str s) vs w = refl
  element_after (Int z) vs w = refl
  element_after (Pat p) vs w = refl
  element_after (Nam n) vs w = refl
  element_after (Exp e) vs w = refl
  element_after (Obj k) vs w = in_after k (slice_get w.objects k) vs w

  named_field_after : (k : ℕ) (o : Option ℕ) (w : World P E) → named_field k o (aft w) ≡ sh (named_field k o w)
  named_field_after k None w = refl
  named_field_after k (Some i) w = refl

  field_in_after : (f : Bytes) (k : ℕ) (o : Option (Object (Value P E))) (w : World P E) → field_in f k o (aft w) ≡ sh (field_in f k o w)
  field_in_after f k None w = refl
  field_in_after f k (Some (ArrayOf bs vs)) w = refl
  field_in_after f k (Some (TableOf es)) w = refl
  field_in_after f k (Some (RecordOf t fs vs)) w = named_field_after k (index_of 0 f fs) w

  field_after : (f : Bytes) (a : Value P E) (w : World P E) → field_op f a (aft w) ≡ sh (field_op f a w)
  field_after f (Str s) w = refl
  field_after f (Int z) w = refl
  field_after f (Pat p) w = refl
  field_after f (Nam n) w = refl
  field_after f (Exp e) w = refl
  field_after f (Obj k) w = field_in_after f k (slice_get w.objects k) w

  rows_after : (es : List (Entry (Value P E))) (w : World P E) → rows_array es (aft w) ≡ sh (rows_array es w)
  rows_after es w = if_on (nat_eq (row_count is_null es) 0) _ _ _ _ refl (if_on (nat_lt 524288 (row_count is_null es)) _ _ _ _ refl refl)

  table_array_after : (o : Option (Object (Value P E))) (w : World P E) → table_array o (aft w) ≡ sh (table_array o w)
  table_array_after None w = refl
  table_array_after (Some (ArrayOf bs vs)) w = refl
  table_array_after (Some (TableOf es)) w = rows_after es w
  table_array_after (Some (RecordOf t fs vs)) w = refl

  as_array_after : (a : Value P E) (w : World P E) → as_array a (aft w) ≡ sh (as_array a w)
  as_array_after (Str s) w = refl
  as_array_after (Int z) w = refl
  as_array_after (Pat p) w = refl
  as_array_after (Nam n) w = refl
  as_array_after (Exp e) w = refl
  as_array_after (Obj k) w = table_array_after (slice_get w.objects k) w

  -- ---- primitives

  holds_after : (b : Bool) (w : World P E) → holds_if b (aft w) ≡ sh (holds_if b w)
  holds_after b w = if_on b _ _ _ _ refl refl

  compare_after : (f : ℤ → ℤ → Bool) (a b : Value P E) (w : World P E) → compare_op f a b (aft w) ≡ sh (compare_op f a b w)
  compare_after f a b w = by_conv w (to_integer a) _ _ (λ i. by_conv w (to_integer b) _ _ (λ j. holds_after (f i j) w))

  same_after : (f : Bool → Bool) (o : Option Bool) (w : World P E) → same_op f o (aft w) ≡ sh (same_op f o w)
  same_after f None w = refl
  same_after f (Some b) w = holds_after (f b) w

  repeated_after : (s : Bytes) (z : ℤ) (w : World P E) → repeated s z (aft w) ≡ sh (repeated s z w)
  repeated_after s (pos n) w = if_on _ _ _ _ _ refl refl
  repeated_after s (negsuc n) w = refl

  remainder_after : (i j : ℤ) (w : World P E) → remainder i j (aft w) ≡ sh (remainder i j w)
  remainder_after i (pos zero) w = refl
  remainder_after i (pos (suc n)) w = refl
  remainder_after i (negsuc n) w = refl

  or_fail_after : {A : Type 0} (c : Conv A) (w : World P E) (k k' : A → Op (World P E) (Value P E)) → ((a : A) → k' a ≡ sh (k a)) → or_fail c (aft w) k' ≡ sh (or_fail c w k)
  or_fail_after (Got a) w k k' h = h a
  or_fail_after (Bad e) w k k' h = refl

  type_after : (v : Value P E) (w : World P E) → type_of (aft w) v ≡ type_of w v
  type_after (Str s) w = refl
  type_after (Int z) w = refl
  type_after (Pat p) w = refl
  type_after (Nam n) w = refl
  type_after (Exp e) w = refl
  type_after (Obj k) w = refl

  if_alike : {A : Type 0} (b b' : Bool) (x y x' y' : Op (World P E) A) → b' ≡ b → x' ≡ sh x → y' ≡ sh y → (if b' then x' else y') ≡ sh (if b then x else y)
  if_alike b b' x y x' y' e h k = ap (λ c. if c then x' else y') e ∙ if_on b x y x' y' h k

  converted_after : (mk : Makes P E) (v : Value P E) (t : Bytes) (w : World P E) → converted mk v t (aft w) ≡ sh (converted mk v t w)
  converted_after mk v t w =
      if_alike _ _ _ _ _ _ (ap (bytes_eq t) (type_after v w)) refl
      (if_on _ _ _ _ _ (or_fail_after (to_text v) w _ _ (λ s. refl))
      (if_on _ _ _ _ _ (or_fail_after (to_integer v) w _ _ (λ z. refl))
      (if_on _ _ _ _ _ (or_fail_after (to_pattern mk v) w _ _ (λ q. refl))
      (if_on _ _ _ _ _ (as_array_after v w) refl))))

  fields_after : (fs : List Bytes) (w : World P E) → set_fields fs (aft w) ≡ aft (set_fields fs w)
  fields_after [] w = refl
  fields_after (f ∷ fs) w = fields_after fs (set_function f Field w)

  data_after : (o : Option TypePrototype) (w : World P E) → data_op o (aft w) ≡ sh (data_op o w)
  data_after None w = refl
  data_after (Some t) w = ap (λ v. Gives (Str []) v) (fields_after t.fields (set_function t.name (Constructor t.fields) w))

  define_after : (l : Option Bytes) (o : Option FunctionPrototype) (w : World P E) → define_op l o (aft w) ≡ sh (define_op l o w)
  define_after l None w = refl
  define_after l (Some f) w = refl

  unit_after : (n : ℕ) (v : Value P E) (w : World P E) (k k' : ℕ → Op (World P E) (Value P E)) → ((u : ℕ) → k' u ≡ sh (k u)) → unit_op n v (aft w) k' ≡ sh (unit_op n v w k)
  unit_after n v w k k' h = if_on _ _ _ _ _ (h n) (by_conv w (to_integer v) _ _ (λ z. by_conv w (unit_number z) _ _ h))

  returned_after : (o o' : Op (World P E) (Value P E)) → o' ≡ sh o → returned o' ≡ sh (returned o)
  returned_after o o' h = then_on _ _ _ h (λ v u. refl)

  item_after : (vs : List (Value P E)) (w : World P E) → item_op vs (aft w) ≡ sh (item_op vs w)
  item_after [] w = refl
  item_after (v ∷ vs) w = then_on _ _ _ (element_after v vs w) (λ n u. refl)

  applied_after : (f : Bytes) (vs : List (Value P E)) (w : World P E) (k k' : PrimId → Op (World P E) (Outcome P E)) → ((q : PrimId) → k' q ≡ sh (k q)) → (o : Option PrimId) → applied f vs (aft w) k' o ≡ sh (applied f vs w k o)
  applied_after f vs w k k' h None = refl
  applied_after f vs w k k' h (Some q) = if_on _ _ _ _ _ refl (h q)

  pub prim_after : (mk : Makes P E) (f : PrimId) (vs : List (Value P E)) (w : World P E) → prim_op mk f vs (aft w) ≡ sh (prim_op mk f vs w)
  prim_after mk p.Len vs w = returned_after _ _ (kind_after mk KLen (arg_at vs 0) w)
  prim_after mk p.Pos vs w = returned_after _ _ (kind_after mk KPos (arg_at vs 0) w)
  prim_after mk p.RPos vs w = returned_after _ _ (kind_after mk KRPos (arg_at vs 0) w)
  prim_after mk p.Tab vs w = returned_after _ _ (kind_after mk KTab (arg_at vs 0) w)
  prim_after mk p.RTab vs w = returned_after _ _ (kind_after mk KRTab (arg_at vs 0) w)
  prim_after mk p.Any vs w = returned_after _ _ (kind_after mk KAny (arg_at vs 0) w)
  prim_after mk p.NotAny vs w = returned_after _ _ (kind_after mk KNotAny (arg_at vs 0) w)
  prim_after mk p.Span vs w = returned_after _ _ (kind_after mk KSpan (arg_at vs 0) w)
  prim_after mk p.Break vs w = returned_after _ _ (kind_after mk KBreak (arg_at vs 0) w)
  prim_after mk p.Arbno vs w = returned_after _ _ (by_conv w (to_pattern mk (arg_at vs 0)) _ _ (λ q. refl))
  prim_after mk p.Eq vs w = returned_after _ _ (compare_after _ (arg_at vs 0) (arg_at vs 1) w)
  prim_after mk p.Ne vs w = returned_after _ _ (compare_after _ (arg_at vs 0) (arg_at vs 1) w)
  prim_after mk p.Lt vs w = returned_after _ _ (compare_after _ (arg_at vs 0) (arg_at vs 1) w)
  prim_after mk p.Le vs w = returned_after _ _ (compare_after _ (arg_at vs 0) (arg_at vs 1) w)
  prim_after mk p.Gt vs w = returned_after _ _ (compare_after _ (arg_at vs 0) (arg_at vs 1) w)
  prim_after mk p.Ge vs w = returned_after _ _ (compare_after _ (arg_at vs 0) (arg_at vs 1) w)
  prim_after mk p.Lgt vs w = returned_after _ _ (by_conv w (to_text (arg_at vs 0)) _ _ (λ s. by_conv w (to_text (arg_at vs 1)) _ _ (λ t. holds_after _ w)))
  prim_after mk p.Ident vs w = returned_after _ _ (same_after _ (same_value (arg_at vs 0) (arg_at vs 1)) w)
  prim_after mk p.Differ vs w = returned_after _ _ (same_after _ (same_value (arg_at vs 0) (arg_at vs 1)) w)
  prim_after mk p.Integer vs w = returned_after _ _ (holds_after _ w)
  prim_after mk p.Size vs w = returned_after _ _ (by_conv w (to_text (arg_at vs 0)) _ _ (λ s. refl))
  prim_after mk p.Trim vs w = returned_after _ _ (by_conv w (to_text (arg_at vs 0)) _ _ (λ s. refl))
  prim_after mk p.Dupl vs w = returned_after _ _ (by_conv w (to_text (arg_at vs 0)) _ _ (λ s. by_conv w (to_integer (arg_at vs 1)) _ _ (λ n. repeated_after s n w)))
  prim_after mk p.Replace vs w =
      returned_after _ _ (by_conv w (to_text (arg_at vs 0)) _ _ (λ s. by_conv w (to_text (arg_at vs 1)) _ _ (λ t. by_conv w (to_text (arg_at vs 2)) _ _ (λ u. if_on _ _ _ _ _ refl refl))))
  prim_after mk p.Remdr vs w = returned_after _ _ (by_conv w (to_integer (arg_at vs 0)) _ _ (λ i. by_conv w (to_integer (arg_at vs 1)) _ _ (λ j. remainder_after i j w)))
  prim_after mk p.DataType vs w = ap (λ s. Gives (Returns (AValue (Str s))) (aft w)) (type_after (arg_at vs 0) w)
  prim_after mk p.Array vs w = returned_after _ _ (by_conv w (to_text (arg_at vs 0)) _ _ (λ s. array_after (array_prototype s) (arg_at vs 1) w))
  prim_after mk p.Table vs w = refl
  prim_after mk p.Item vs w = item_after vs w
  prim_after mk p.Copy vs w = returned_after _ _ (copy_after (arg_at vs 0) w)
  prim_after mk p.Convert vs w = returned_after _ _ (by_conv w (to_text (arg_at vs 1)) _ _ (λ t. converted_after mk (arg_at vs 0) t w))
  prim_after mk p.Data vs w = returned_after _ _ (by_conv w (to_text (arg_at vs 0)) _ _ (λ s. data_after (type_prototype w.plain.level s) w))
  prim_after mk p.Define vs w = returned_after _ _ (by_conv w (to_text (arg_at vs 0)) _ _ (λ s. by_conv w (to_entry_label (arg_at vs 1)) _ _ (λ l. define_after l (function_prototype w.plain.level s) w)))
  prim_after mk p.Input vs w = returned_after _ _ (by_conv w (to_variable (arg_at vs 0)) _ _ (λ x. unit_after 5 (arg_at vs 1) w (λ u. Gives (Str []) (set_reads x (Some u) w)) _ (λ u. refl)))
  prim_after mk p.Output vs w = returned_after _ _ (by_conv w (to_variable (arg_at vs 0)) _ _ (λ x. unit_after 6 (arg_at vs 1) w (λ u. Gives (Str []) (set_writes x (Some u) w)) _ (λ u. refl)))
  prim_after mk p.Detach vs w = returned_after _ _ (by_conv w (to_variable (arg_at vs 0)) _ _ (λ x. refl))
  prim_after mk p.Fence vs w = returned_after _ _ (by_conv w (to_pattern mk (arg_at vs 0)) _ _ (λ q. refl))
  prim_after mk p.Apply [] w = refl
  prim_after mk p.Apply (v ∷ vs) w = by_conv w (to_variable v) _ _ (λ f. applied_after f vs w _ _ (λ q. prim_after mk q vs w) (prim_at w.plain.level f))

  -- ---- calls

  bind_after : (xs : List Bytes) (vs : List (Value P E)) (w : World P E) → bind_arguments xs vs (aft w) ≡ aft (bind_arguments xs vs w)
  bind_after [] vs w = refl
  bind_after (x ∷ xs) [] w = bind_after xs [] (set_var x (Str []) w)
  bind_after (x ∷ xs) (v ∷ vs) w = bind_after xs vs (set_var x v w)

  pub enter_after : (f : Bytes) (xs ys : List Bytes) (vs : List (Value P E)) (w : World P E) → enter_call f xs ys vs (aft w) ≡ aft (enter_call f xs ys vs w)
  enter_after f xs ys vs w =
      ap (λ v. set_keys (record (keys_of v) { fnclevel = counted_up (keys_of v).fnclevel }) v)
      (ap (bind_arguments ys []) (bind_after xs vs (set_var f (Str []) w)) ∙ bind_after ys [] (bind_arguments xs vs (set_var f (Str []) w)))

  saved_after : (xs : List Bytes) (w : World P E) → saved_of xs (aft w) ≡ saved_of xs w
  saved_after [] w = refl
  saved_after (x ∷ xs) w = ap (λ l. record { var = x; value = w.vars x } ∷ l) (saved_after xs w)

  pub kept_after : (f : Bytes) (xs ys : List Bytes) (w : World P E) → kept_of f xs ys (aft w) ≡ kept_of f xs ys w
  kept_after f xs ys w = ap (λ l. record { name = f; saved = l; stno = (keys_of w).stno; fnclevel = (keys_of w).fnclevel }) (saved_after (f ∷ (xs ++ ys)) w)

  restore_after : (s : List (Saved P E)) (w : World P E) → restore s (aft w) ≡ aft (restore s w)
  restore_after [] w = refl
  restore_after (x ∷ s) w = ap (set_var x.var x.value) (restore_after s w)

  back_after : (r : ReturnKind) (c : Kept P E) (w : World P E) → back_to_caller r c (aft w) ≡ aft (back_to_caller r c w)
  back_after r c w = ap (λ v. set_keys (record (keys_of v) { stno = c.stno; fnclevel = c.fnclevel; rtntype = return_name r }) v) (restore_after c.saved w)

  pub leave_after : (r : ReturnKind) (c : Kept P E) (w : World P E) → leave_op r c (aft w) ≡ sh (leave_op r c w)
  leave_after kind.Return c w = ap (Gives (AValue (w.vars c.name))) (back_after kind.Return c w)
  leave_after kind.FReturn c w = ap Refuses (back_after kind.FReturn c w)
  leave_after kind.NReturn c w = by_conv w (or_no_name (to_name (w.vars c.name))) _ _ (λ n. ap (Gives (AName n)) (back_after kind.NReturn c w))

  pub as_value_after : (g : Returned P E) (w : World P E) → as_value g (aft w) ≡ sh (as_value g w)
  as_value_after (AValue v) w = refl
  as_value_after (AName n) w = fetch_after n w

  pub as_name_after : (g : Returned P E) (w : World P E) → as_name g (aft w) ≡ sh (as_name g w)
  as_name_after (AValue v) w = refl
  as_name_after (AName n) w = refl

  pub construct_after : (t : Bytes) (fs : List Bytes) (vs : List (Value P E)) (w : World P E) → construct_op t fs vs (aft w) ≡ sh (construct_op t fs vs w)
  construct_after t fs vs w = refl

  pub select_after : (f : Bytes) (vs : List (Value P E)) (w : World P E) → select_op f vs (aft w) ≡ sh (select_op f vs w)
  select_after f vs w = then_on _ _ _ (field_after f (arg_at vs 0) w) (λ n u. refl)
