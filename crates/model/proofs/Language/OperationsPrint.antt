-- No operation takes back what was printed.
use Rattle.std.proofs.Common.{◌≡◌, ℕ, zero, suc, List, [], ◌∷◌, ◌++◌, take, drop, slice_get, ℤ, pos, negsuc, Option, Some, None, Bool, true, false, if◌then◌else◌, refl, sym, ap, ◌∙◌, append-nil}
use Rattle.model.specs.declared.run.ErrorCode.{ErrorCode}
use Rattle.model.specs.declared.instr.ArithOp.{ArithOp}
use Rattle.model.specs.declared.instr.SignOp.{SignOp}
use Rattle.model.specs.declared.instr.ReturnKind.{ReturnKind}
use Rattle.model.specs.declared.instr.ReturnKind.TheVariants as kind
use Rattle.model.specs.declared.keys.KeyId.{KeyId}
use Rattle.model.specs.declared.primitives.PrimId.{PrimId}
use Rattle.model.specs.declared.primitives.PrimId.TheVariants as p
use Rattle.model.specs.Deck.Trees.{Bytes}
use Rattle.model.specs.Deck.Target.{Name, Variable, Element, IntegerKey, StringKey}
use Rattle.model.specs.Language.Names.{prim_at}
use Rattle.model.specs.Pattern.Patterns.{Kind, KLen, KPos, KRPos, KTab, KRTab, KAny, KNotAny, KSpan, KBreak, Pending, want_of_kind}
use Rattle.model.specs.Language.Values.{Value, Str, Int, Pat, Nam, Exp, Obj, Makes, Bounds, Entry, Object, ArrayOf, TableOf, RecordOf, World, set_var, printed_of}
use Rattle.model.specs.Language.Conversions.{Op, Gives, Refuses, Faults, Conv, Got, Bad, conv, then_op, to_text, to_integer, to_pattern, to_name, to_variable, is_null, answer_of}
use Rattle.model.specs.Language.Operators.{arith_of, arith_op, sign_of, sign_op, two_patterns, text_joined, join_rest, cat_op, alt_op, cond_op, imm_op, indir_op, take_record, fetch_var, there, fetch_op, print_text, write_var, with_item, put_objects, put_object, assign_op, assign_all, splice_op, keyset_op, kind_op, match_op}
use Rattle.model.specs.Language.Prototypes.{FunctionPrototype, function_prototype, TypePrototype, type_prototype, array_prototype}
use Rattle.model.specs.Language.Aggregates.{field_values, new_object, array_op, copy_of, copy_op, all_integers, named_element, keyed_name, table_element, element_in, element_op, named_field, field_in, field_op, rows_array, table_array, as_array, place_from, index_of}
use Rattle.model.specs.Language.Calls.{Returned, AValue, AName, Saved, Kept, bind_arguments, restore, or_no_name, enter_call, leave_op, as_value, as_name, construct_op, select_op, arg_at}
use Rattle.model.specs.Language.Primitives.{Outcome, holds_if, compare_op, same_value, same_op, repeated, remainder, or_fail, converted, set_fields, data_op, to_entry_label, define_op, unit_number, unit_op, set_reads, set_writes, returned, item_op, applied, prim_op}
use Rattle.model.proofs.Language.MeaningGrows.{Before, before_refl, before_trans}

-- each world of an operation comes after this one
pub data OpOn {P E A : Type 0} (v : World P E) : Op (World P E) A → Type 0 where
  gon : {a : A} {w : World P E} → Before v w → OpOn v (Gives a w)
  ron : {w : World P E} → Before v w → OpOn v (Refuses w)
  fon : {e : ErrorCode} {w : World P E} → Before v w → OpOn v (Faults e w)

-- a world with as much printed
pub same_printed : {P E : Type 0} (v w : World P E) → printed_of w ≡ printed_of v → Before v w
same_printed v w e = record { new = []; is = e ∙ sym (append-nil (printed_of v)) }

pub conv_on : {P E A B : Type 0} (v w : World P E) (c : Conv A) (k : A → Op (World P E) B) → Before v w → ((a : A) → OpOn v (k a)) → OpOn v (conv c w k)
conv_on v w (Got a) k b h = h a
conv_on v w (Bad e) k b h = fon b

pub if_on : {P E A : Type 0} (v : World P E) (b : Bool) (x y : Op (World P E) A) → OpOn v x → OpOn v y → OpOn v (if b then x else y)
if_on v true x y h k = h
if_on v false x y h k = k

pub op_later : {P E A : Type 0} (u v : World P E) {o : Op (World P E) A} → Before u v → OpOn v o → OpOn u o
op_later u v b (gon {w = w} h) = gon (before_trans u v w b h)
op_later u v b (ron {w = w} h) = ron (before_trans u v w b h)
op_later u v b (fon {w = w} h) = fon (before_trans u v w b h)

pub then_on : {P E A B : Type 0} (v : World P E) {o : Op (World P E) A} (k : A → World P E → Op (World P E) B) → OpOn v o → ((a : A) (w : World P E) → OpOn w (k a w)) → OpOn v (then_op o k)
then_on v k (gon {a = a} {w = w} b) h = op_later v w b (h a w)
then_on v k (ron b) h = ron b
then_on v k (fon b) h = fon b

module _ {P E : Type 0} where
  -- what leaves the world as it is
  kept : {A : Type 0} {a : A} (w : World P E) → OpOn w (Gives a w)
  kept w = gon (before_refl w)

  refused : {A : Type 0} (w : World P E) → OpOn {A = A} w (Refuses w)
  refused w = ron (before_refl w)

  faulted : {A : Type 0} {e : ErrorCode} (w : World P E) → OpOn {A = A} w (Faults e w)
  faulted w = fon (before_refl w)

  -- a conversion in the same world
  pub by_conv : {A B : Type 0} (w : World P E) (c : Conv A) (k : A → Op (World P E) B) → ((a : A) → OpOn w (k a)) → OpOn w (conv c w k)
  by_conv w c k h = conv_on w w c k (before_refl w) h

  pub arith_on : (o : ArithOp) (a b : Value P E) (w : World P E) → OpOn w (arith_op o a b w)
  arith_on o a b w = by_conv w (to_integer a) _ (λ i. by_conv w (to_integer b) _ (λ j. by_conv w (arith_of o i j) _ (λ k. kept w)))

  pub sign_on : (o : SignOp) (a : Value P E) (w : World P E) → OpOn w (sign_op o a w)
  sign_on o a w = by_conv w (to_integer a) _ (λ i. by_conv w (sign_of o i) _ (λ k. kept w))

  pub two_on : (mk : Makes P E) (f : P → P → P) (a b : Value P E) (w : World P E) → OpOn w (two_patterns mk f a b w)
  two_on mk f a b w = by_conv w (to_pattern mk a) _ (λ p. by_conv w (to_pattern mk b) _ (λ q. kept w))

  rest_on : (mk : Makes P E) (o : Option Bytes) (a b : Value P E) (w : World P E) → OpOn w (join_rest mk o a b w)
  rest_on mk (Some s) a b w = if_on w _ _ _ (kept w) (faulted w)
  rest_on mk None a b w = two_on mk mk.cat a b w

  pub cat_on : (mk : Makes P E) (a b : Value P E) (w : World P E) → OpOn w (cat_op mk a b w)
  cat_on mk a b w = if_on w (is_null a) (Gives b w) _ (kept w) (if_on w (is_null b) (Gives a w) _ (kept w) (rest_on mk (text_joined (to_text a) (to_text b)) a b w))

  pub alt_on : (mk : Makes P E) (a b : Value P E) (w : World P E) → OpOn w (alt_op mk a b w)
  alt_on mk a b w = two_on mk mk.alt a b w

  pub cond_on : (mk : Makes P E) (a : Value P E) (n : Name) (w : World P E) → OpOn w (cond_op mk a n w)
  cond_on mk a n w = by_conv w (to_pattern mk a) _ (λ p. kept w)

  pub imm_on : (mk : Makes P E) (a : Value P E) (n : Name) (w : World P E) → OpOn w (imm_op mk a n w)
  imm_on mk a n w = by_conv w (to_pattern mk a) _ (λ p. kept w)

  pub indir_on : (a : Value P E) (w : World P E) → OpOn w (indir_op a w)
  indir_on a w = by_conv w (to_name a) _ (λ n. kept w)

  -- ---- names

  take_on : (x : Bytes) (u : ℕ) (l : List Bytes) (w : World P E) → OpOn w (take_record x u l w)
  take_on x u [] w = refused w
  take_on x u (r ∷ rs) w = if_on w _ _ _ (gon (same_printed w _ refl)) (fon (same_printed w _ refl))

  fetch_var_on : (x : Bytes) (r : Option ℕ) (w : World P E) → OpOn w (fetch_var x r w)
  fetch_var_on x None w = kept w
  fetch_var_on x (Some u) w = if_on w _ _ _ (kept w) (take_on x u (w.io.left u) w)

  there_on : {A : Type 0} (o : Option A) (w : World P E) → OpOn w (there o w)
  there_on None w = faulted w
  there_on (Some a) w = kept w

  pub fetch_on : (n : Name) (w : World P E) → OpOn w (fetch_op n w)
  fetch_on (Variable x) w = fetch_var_on x (w.plain.reads x) w
  fetch_on (Element k i) w = there_on _ w
  fetch_on (IntegerKey k z) w = there_on _ w
  fetch_on (StringKey k s) w = there_on _ w

  print_on : (u : ℕ) (c : Conv Bytes) (v w : World P E) → printed_of w ≡ printed_of v → OpOn v (print_text u c w)
  print_on u (Got s) v w e = gon (record { new = record { unit = u; bytes = s } ∷ []; is = ap (λ l. l ++ record { unit = u; bytes = s } ∷ []) e })
  print_on u (Bad x) v w e = fon (same_printed v w e)

  write_on : (r : Option ℕ) (a : Value P E) (v w : World P E) → printed_of w ≡ printed_of v → OpOn v (write_var r a w)
  write_on None a v w e = gon (same_printed v w e)
  write_on (Some u) a v w e = if_on v _ _ _ (gon (same_printed v w e)) (print_on u (to_text a) v w e)

  objects_on : (o : Option (List (Object (Value P E)))) (w : World P E) → OpOn w (put_objects o w)
  objects_on None w = faulted w
  objects_on (Some os) w = gon (same_printed w _ refl)

  put_on : (k : ℕ) (o : Option (Object (Value P E))) (w : World P E) → OpOn w (put_object k o w)
  put_on k None w = faulted w
  put_on k (Some o) w = objects_on (with_item k o w.objects) w

  pub assign_on : (n : Name) (a : Value P E) (w : World P E) → OpOn w (assign_op n a w)
  assign_on (Variable x) a w = write_on (w.plain.writes x) a w (set_var x a w) refl
  assign_on (Element k i) a w = put_on k _ w
  assign_on (IntegerKey k z) a w = put_on k _ w
  assign_on (StringKey k s) a w = put_on k _ w

  pub assign_all_on : (a : Pending) (w : World P E) → OpOn w (assign_all a w)
  assign_all_on [] w = kept w
  assign_all_on (x ∷ a) w = then_on w _ (assign_on x.0 (Str x.1) w) (λ _ v. assign_all_on a v)

  pub splice_on : (n : Name) (s : Bytes) (b e : ℕ) (a : Value P E) (w : World P E) → OpOn w (splice_op n s b e a w)
  splice_on n s b e a w = by_conv w (to_text a) _ (λ t. if_on w _ _ _ (assign_on n (Str (take b s ++ (t ++ drop e s))) w) (faulted w))

  pub keyset_on : (k : KeyId) (a : Value P E) (w : World P E) → OpOn w (keyset_op k a w)
  keyset_on k a w = by_conv w (to_integer a) _ (λ z. if_on w _ _ _ (gon (same_printed w _ refl)) (faulted w))

  -- ---- matches

  kind_on : (mk : Makes P E) (k : Kind) (a : Value P E) (w : World P E) → OpOn w (kind_op mk k a w)
  kind_on mk k (Exp e) w = kept w
  kind_on mk k (Str s) w = by_conv w (answer_of mk (want_of_kind k) (Str s)) _ (λ y. kept w)
  kind_on mk k (Int z) w = by_conv w (answer_of mk (want_of_kind k) (Int z)) _ (λ y. kept w)
  kind_on mk k (Pat p) w = by_conv w (answer_of mk (want_of_kind k) (Pat p)) _ (λ y. kept w)
  kind_on mk k (Nam n) w = by_conv w (answer_of mk (want_of_kind k) (Nam n)) _ (λ y. kept w)
  kind_on mk k (Obj n) w = by_conv w (answer_of mk (want_of_kind k) (Obj n)) _ (λ y. kept w)

  pub match_on : (mk : Makes P E) (a b : Value P E) (w : World P E) → OpOn w (match_op mk a b w)
  match_on mk a b w = by_conv w (to_text a) _ (λ s. by_conv w (to_pattern mk b) _ (λ p. kept w))

  -- ---- objects

  new_on : (o : Object (Value P E)) (w : World P E) → OpOn w (new_object o w)
  new_on o w = gon (same_printed w _ refl)

  array_on : (o : Option (List Bounds)) (a : Value P E) (w : World P E) → OpOn w (array_op o a w)
  array_on None a w = faulted w
  array_on (Some bs) a w = new_on _ w

  copy_of_on : (o : Option (Object (Value P E))) (w : World P E) → OpOn w (copy_of o w)
  copy_of_on None w = faulted w
  copy_of_on (Some (ArrayOf bs vs)) w = new_on _ w
  copy_of_on (Some (TableOf es)) w = faulted w
  copy_of_on (Some (RecordOf t fs vs)) w = faulted w

  copy_on : (a : Value P E) (w : World P E) → OpOn w (copy_op a w)
  copy_on (Str s) w = faulted w
  copy_on (Int z) w = faulted w
  copy_on (Pat p) w = faulted w
  copy_on (Nam n) w = faulted w
  copy_on (Exp e) w = faulted w
  copy_on (Obj k) w = copy_of_on (slice_get w.objects k) w

  named_element_on : (k : ℕ) (o : Option ℕ) (w : World P E) → OpOn w (named_element k o w)
  named_element_on k None w = refused w
  named_element_on k (Some i) w = kept w

  table_on : (k : ℕ) (vs : List (Value P E)) (w : World P E) → OpOn w (table_element k vs w)
  table_on k [] w = faulted w
  table_on k (v ∷ []) w = by_conv w (keyed_name k v) _ (λ n. kept w)
  table_on k (v ∷ u ∷ vs) w = faulted w

  in_on : (k : ℕ) (o : Option (Object (Value P E))) (vs : List (Value P E)) (w : World P E) → OpOn w (element_in k o vs w)
  in_on k None vs w = faulted w
  in_on k (Some (ArrayOf bs es)) vs w = if_on w _ _ _ (by_conv w (all_integers vs) _ (λ zs. named_element_on k (place_from 0 bs zs) w)) (faulted w)
  in_on k (Some (TableOf es)) vs w = table_on k vs w
  in_on k (Some (RecordOf t fs es)) vs w = faulted w

  pub element_on : (a : Value P E) (vs : List (Value P E)) (w : World P E) → OpOn w (element_op a vs w)
  element_on (Str s) vs w = faulted w
  element_on (Int z) vs w = faulted w
  element_on (Pat p) vs w = faulted w
  element_on (Nam n) vs w = faulted w
  element_on (Exp e) vs w = faulted w
  element_on (Obj k) vs w = in_on k (slice_get w.objects k) vs w

  named_field_on : (k : ℕ) (o : Option ℕ) (w : World P E) → OpOn w (named_field k o w)
  named_field_on k None w = faulted w
  named_field_on k (Some i) w = kept w

  field_in_on : (f : Bytes) (k : ℕ) (o : Option (Object (Value P E))) (w : World P E) → OpOn w (field_in f k o w)
  field_in_on f k None w = faulted w
  field_in_on f k (Some (ArrayOf bs vs)) w = faulted w
  field_in_on f k (Some (TableOf es)) w = faulted w
  field_in_on f k (Some (RecordOf t fs vs)) w = named_field_on k (index_of 0 f fs) w

  field_on : (f : Bytes) (a : Value P E) (w : World P E) → OpOn w (field_op f a w)
  field_on f (Str s) w = faulted w
  field_on f (Int z) w = faulted w
  field_on f (Pat p) w = faulted w
  field_on f (Nam n) w = faulted w
  field_on f (Exp e) w = faulted w
  field_on f (Obj k) w = field_in_on f k (slice_get w.objects k) w

  rows_on : (es : List (Entry (Value P E))) (w : World P E) → OpOn w (rows_array es w)
  rows_on es w = if_on w _ _ _ (refused w) (if_on w _ _ _ (faulted w) (new_on _ w))

  table_array_on : (o : Option (Object (Value P E))) (w : World P E) → OpOn w (table_array o w)
  table_array_on None w = refused w
  table_array_on (Some (ArrayOf bs vs)) w = refused w
  table_array_on (Some (TableOf es)) w = rows_on es w
  table_array_on (Some (RecordOf t fs vs)) w = refused w

  as_array_on : (a : Value P E) (w : World P E) → OpOn w (as_array a w)
  as_array_on (Str s) w = refused w
  as_array_on (Int z) w = refused w
  as_array_on (Pat p) w = refused w
  as_array_on (Nam n) w = refused w
  as_array_on (Exp e) w = refused w
  as_array_on (Obj k) w = table_array_on (slice_get w.objects k) w

  -- ---- primitives

  holds_on : (b : Bool) (w : World P E) → OpOn w (holds_if b w)
  holds_on b w = if_on w b _ _ (kept w) (refused w)

  compare_on : (f : ℤ → ℤ → Bool) (a b : Value P E) (w : World P E) → OpOn w (compare_op f a b w)
  compare_on f a b w = by_conv w (to_integer a) _ (λ i. by_conv w (to_integer b) _ (λ j. holds_on (f i j) w))

  same_on : (f : Bool → Bool) (o : Option Bool) (w : World P E) → OpOn w (same_op f o w)
  same_on f None w = faulted w
  same_on f (Some b) w = holds_on (f b) w

  repeated_on : (s : Bytes) (z : ℤ) (w : World P E) → OpOn w (repeated s z w)
  repeated_on s (pos n) w = if_on w _ _ _ (kept w) (faulted w)
  repeated_on s (negsuc n) w = refused w

  remainder_on : (i j : ℤ) (w : World P E) → OpOn w (remainder i j w)
  remainder_on i (pos zero) w = faulted w
  remainder_on i (pos (suc n)) w = kept w
  remainder_on i (negsuc n) w = kept w

  or_fail_on : {A : Type 0} (c : Conv A) (w : World P E) (k : A → Op (World P E) (Value P E)) → ((a : A) → OpOn w (k a)) → OpOn w (or_fail c w k)
  or_fail_on (Got a) w k h = h a
  or_fail_on (Bad e) w k h = refused w

  converted_on : (mk : Makes P E) (v : Value P E) (t : Bytes) (w : World P E) → OpOn w (converted mk v t w)
  converted_on mk v t w =
      if_on w _ _ _ (kept w)
      (if_on w _ _ _ (or_fail_on (to_text v) w _ (λ s. kept w))
      (if_on w _ _ _ (or_fail_on (to_integer v) w _ (λ z. kept w))
      (if_on w _ _ _ (or_fail_on (to_pattern mk v) w _ (λ q. kept w))
      (if_on w _ _ _ (as_array_on v w) (refused w)))))

  fields_printed : (fs : List Bytes) (w : World P E) → printed_of (set_fields fs w) ≡ printed_of w
  fields_printed [] w = refl
  fields_printed (f ∷ fs) w = fields_printed fs _

  data_on : (o : Option TypePrototype) (w : World P E) → OpOn w (data_op o w)
  data_on None w = faulted w
  data_on (Some t) w = gon (same_printed w _ (fields_printed t.fields _))

  define_on : (l : Option Bytes) (o : Option FunctionPrototype) (w : World P E) → OpOn w (define_op l o w)
  define_on l None w = faulted w
  define_on l (Some f) w = gon (same_printed w _ refl)

  unit_on : (n : ℕ) (v : Value P E) (w : World P E) (k : ℕ → Op (World P E) (Value P E)) → ((u : ℕ) → OpOn w (k u)) → OpOn w (unit_op n v w k)
  unit_on n v w k h = if_on w _ _ _ (h n) (by_conv w (to_integer v) _ (λ z. by_conv w (unit_number z) _ h))

  returned_on : {w : World P E} {o : Op (World P E) (Value P E)} → OpOn w o → OpOn w (returned o)
  returned_on {w} h = then_on w _ h (λ v u. kept u)

  item_on : (vs : List (Value P E)) (w : World P E) → OpOn w (item_op vs w)
  item_on [] w = faulted w
  item_on (v ∷ vs) w = then_on w _ (element_on v vs w) (λ n u. kept u)

  applied_on : (f : Bytes) (vs : List (Value P E)) (w : World P E) (k : PrimId → Op (World P E) (Outcome P E)) → ((q : PrimId) → OpOn w (k q)) → (o : Option PrimId) → OpOn w (applied f vs w k o)
  applied_on f vs w k h None = kept w
  applied_on f vs w k h (Some q) = if_on w _ _ _ (faulted w) (h q)

  pub prim_on : (mk : Makes P E) (f : PrimId) (vs : List (Value P E)) (w : World P E) → OpOn w (prim_op mk f vs w)
  prim_on mk p.Len vs w = returned_on (kind_on mk KLen (arg_at vs 0) w)
  prim_on mk p.Pos vs w = returned_on (kind_on mk KPos (arg_at vs 0) w)
  prim_on mk p.RPos vs w = returned_on (kind_on mk KRPos (arg_at vs 0) w)
  prim_on mk p.Tab vs w = returned_on (kind_on mk KTab (arg_at vs 0) w)
  prim_on mk p.RTab vs w = returned_on (kind_on mk KRTab (arg_at vs 0) w)
  prim_on mk p.Any vs w = returned_on (kind_on mk KAny (arg_at vs 0) w)
  prim_on mk p.NotAny vs w = returned_on (kind_on mk KNotAny (arg_at vs 0) w)
  prim_on mk p.Span vs w = returned_on (kind_on mk KSpan (arg_at vs 0) w)
  prim_on mk p.Break vs w = returned_on (kind_on mk KBreak (arg_at vs 0) w)
  prim_on mk p.Arbno vs w = returned_on (by_conv w (to_pattern mk (arg_at vs 0)) _ (λ q. kept w))
  prim_on mk p.Eq vs w = returned_on (compare_on _ (arg_at vs 0) (arg_at vs 1) w)
  prim_on mk p.Ne vs w = returned_on (compare_on _ (arg_at vs 0) (arg_at vs 1) w)
  prim_on mk p.Lt vs w = returned_on (compare_on _ (arg_at vs 0) (arg_at vs 1) w)
  prim_on mk p.Le vs w = returned_on (compare_on _ (arg_at vs 0) (arg_at vs 1) w)
  prim_on mk p.Gt vs w = returned_on (compare_on _ (arg_at vs 0) (arg_at vs 1) w)
  prim_on mk p.Ge vs w = returned_on (compare_on _ (arg_at vs 0) (arg_at vs 1) w)
  prim_on mk p.Lgt vs w = returned_on (by_conv w (to_text (arg_at vs 0)) _ (λ s. by_conv w (to_text (arg_at vs 1)) _ (λ t. holds_on _ w)))
  prim_on mk p.Ident vs w = returned_on (same_on _ (same_value (arg_at vs 0) (arg_at vs 1)) w)
  prim_on mk p.Differ vs w = returned_on (same_on _ (same_value (arg_at vs 0) (arg_at vs 1)) w)
  prim_on mk p.Integer vs w = returned_on (holds_on _ w)
  prim_on mk p.Size vs w = returned_on (by_conv w (to_text (arg_at vs 0)) _ (λ s. kept w))
  prim_on mk p.Trim vs w = returned_on (by_conv w (to_text (arg_at vs 0)) _ (λ s. kept w))
  prim_on mk p.Dupl vs w = returned_on (by_conv w (to_text (arg_at vs 0)) _ (λ s. by_conv w (to_integer (arg_at vs 1)) _ (λ n. repeated_on s n w)))
  prim_on mk p.Replace vs w =
      returned_on (by_conv w (to_text (arg_at vs 0)) _ (λ s. by_conv w (to_text (arg_at vs 1)) _ (λ t. by_conv w (to_text (arg_at vs 2)) _ (λ u. if_on w _ _ _ (refused w) (kept w)))))
  prim_on mk p.Remdr vs w = returned_on (by_conv w (to_integer (arg_at vs 0)) _ (λ i. by_conv w (to_integer (arg_at vs 1)) _ (λ j. remainder_on i j w)))
  prim_on mk p.DataType vs w = returned_on (kept w)
  prim_on mk p.Array vs w = returned_on (by_conv w (to_text (arg_at vs 0)) _ (λ s. array_on (array_prototype s) (arg_at vs 1) w))
  prim_on mk p.Table vs w = returned_on (new_on _ w)
  prim_on mk p.Item vs w = item_on vs w
  prim_on mk p.Copy vs w = returned_on (copy_on (arg_at vs 0) w)
  prim_on mk p.Convert vs w = returned_on (by_conv w (to_text (arg_at vs 1)) _ (λ t. converted_on mk (arg_at vs 0) t w))
  prim_on mk p.Data vs w = returned_on (by_conv w (to_text (arg_at vs 0)) _ (λ s. data_on (type_prototype w.plain.level s) w))
  prim_on mk p.Define vs w = returned_on (by_conv w (to_text (arg_at vs 0)) _ (λ s. by_conv w (to_entry_label (arg_at vs 1)) _ (λ l. define_on l (function_prototype w.plain.level s) w)))
  prim_on mk p.Input vs w = returned_on (by_conv w (to_variable (arg_at vs 0)) _ (λ x. unit_on 5 (arg_at vs 1) w (λ u. Gives (Str []) (set_reads x (Some u) w)) (λ u. gon (same_printed w _ refl))))
  prim_on mk p.Output vs w = returned_on (by_conv w (to_variable (arg_at vs 0)) _ (λ x. unit_on 6 (arg_at vs 1) w (λ u. Gives (Str []) (set_writes x (Some u) w)) (λ u. gon (same_printed w _ refl))))
  prim_on mk p.Detach vs w = returned_on (by_conv w (to_variable (arg_at vs 0)) _ (λ x. gon (same_printed w _ refl)))
  prim_on mk p.Fence vs w = returned_on (by_conv w (to_pattern mk (arg_at vs 0)) _ (λ q. kept w))
  prim_on mk p.Apply [] w = faulted w
  prim_on mk p.Apply (v ∷ vs) w = by_conv w (to_variable v) _ (λ f. applied_on f vs w _ (λ q. prim_on mk q vs w) (prim_at w.plain.level f))

  -- ---- calls

  bind_on : (xs : List Bytes) (vs : List (Value P E)) (w : World P E) → printed_of (bind_arguments xs vs w) ≡ printed_of w
  bind_on [] vs w = refl
  bind_on (x ∷ xs) [] w = bind_on xs [] (set_var x (Str []) w)
  bind_on (x ∷ xs) (v ∷ vs) w = bind_on xs vs (set_var x v w)

  pub enter_on : (f : Bytes) (xs ys : List Bytes) (vs : List (Value P E)) (w : World P E) → Before w (enter_call f xs ys vs w)
  enter_on f xs ys vs w = same_printed w _ (bind_on ys [] (bind_arguments xs vs (set_var f (Str []) w)) ∙ bind_on xs vs (set_var f (Str []) w))

  restore_on : (s : List (Saved P E)) (w : World P E) → printed_of (restore s w) ≡ printed_of w
  restore_on [] w = refl
  restore_on (x ∷ s) w = restore_on s w

  pub leave_on : (r : ReturnKind) (c : Kept P E) (w : World P E) → OpOn w (leave_op r c w)
  leave_on kind.Return c w = gon (same_printed w _ (restore_on c.saved w))
  leave_on kind.FReturn c w = ron (same_printed w _ (restore_on c.saved w))
  leave_on kind.NReturn c w = by_conv w (or_no_name (to_name (w.vars c.name))) _ (λ n. gon (same_printed w _ (restore_on c.saved w)))

  pub as_value_on : (g : Returned P E) (w : World P E) → OpOn w (as_value g w)
  as_value_on (AValue v) w = kept w
  as_value_on (AName n) w = fetch_on n w

  pub as_name_on : (g : Returned P E) (w : World P E) → OpOn w (as_name g w)
  as_name_on (AValue v) w = faulted w
  as_name_on (AName n) w = kept w

  pub construct_on : (t : Bytes) (fs : List Bytes) (vs : List (Value P E)) (w : World P E) → OpOn w (construct_op t fs vs w)
  construct_on t fs vs w = then_on w (λ v u. Gives (AValue v) u) (new_on (RecordOf t fs (field_values fs vs)) w) (λ v u. kept u)

  pub select_on : (f : Bytes) (vs : List (Value P E)) (w : World P E) → OpOn w (select_op f vs w)
  select_on f vs w = then_on w _ (field_on f (arg_at vs 0) w) (λ n u. kept u)
