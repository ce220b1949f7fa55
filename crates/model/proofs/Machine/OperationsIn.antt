-- Operations keep expressions in range: conversions, names, operators.
use Rattle.std.proofs.Common.{ℕ, zero, suc, ◌+◌, List, [], ◌∷◌, ◌++◌, length, take, drop, slice_get, ℤ, pos, negsuc, Option, Some, None, Bool, bytes_eq, codes, if◌then◌else◌}
use Rattle.std.specs.List.{AllByRecursion}
use Rattle.std.specs.Fmt.{signed_decimal}
use Rattle.model.specs.declared.run.ErrorCode.{ErrorCode}
use Rattle.model.specs.declared.instr.ArithOp.{ArithOp}
use Rattle.model.specs.declared.instr.SignOp.{SignOp}
use Rattle.model.specs.declared.keys.KeyId.{KeyId}
use Rattle.model.specs.declared.image.Level.{Level}
use Rattle.model.specs.Deck.Trees.{Bytes}
use Rattle.model.specs.Deck.Target.{Name, Variable, Element, IntegerKey, StringKey}
use Rattle.model.specs.Language.Keywords.{KeyValue, IsInteger, IsText, key_value, allows}
use Rattle.model.specs.Pattern.Patterns as p
use Rattle.model.specs.Pattern.Patterns.{Basic, Lit, Instr, Split, Jmp, Pending, Answer, Want, WantPattern, WantCount, WantBytes, Told, Text, Number, Kind, want_of_kind, with_answer}
use Rattle.model.specs.Pattern.Code.{basic_code, exit_past, exits_past, alt_code, cat_code, arbno_code, fence_code, cond_code, imm_code}
use Rattle.model.specs.Language.Values.{Str, Int, Pat, Nam, Exp, Obj, Key, IntegerAt, StringAt, Entry, Object, ArrayOf, TableOf, RecordOf, set_var, keys_of, first_value, first_world}
use Rattle.model.specs.Language.Conversions.{Conv, Got, Bad, Op, Gives, Refuses, Faults, conv, then_conv, then_op, to_text, to_integer, to_pattern, to_name, is_null, count_of, set_of, answer_of}
use Rattle.model.specs.Language.Operators.{arith_of, arith_op, sign_of, sign_op, limited, two_patterns, text_joined, join_rest, cat_op, alt_op, cond_op, imm_op, indir_op, take_record, fetch_var, same_key, element_of, value_for, entry_of, onto, with_item, with_entry, with_elements, with_element, with_value_for, there, fetch_op, print_text, write_var, put_objects, put_object, assign_op, assign_all, splice_op, key_as_value, keyget_op, keyset_op, kind_op, told_value, Begun, match_op}
use Rattle.model.specs.Machine.Steps.{PCode, codes_of, MVal, MW}
use Rattle.model.specs.Machine.InRange.{InstrIn, CodeIn, ValueIn, ValuesIn, EntriesIn, ObjectIn, ObjectsIn, WorldIn, AnswerIn}
use Rattle.model.proofs.Machine.Lists.{IfThere, choice_in, item_in, join_in}

-- nothing is asked of what holds no expression
abbrev pub Any : {A : Type 0} → A → Type 0
Any a = Unit {0}

abbrev pub IfGot : {A : Type 0} → (A → Type 0) → Conv A → Type 0
IfGot R (Got a) = R a
IfGot R (Bad e) = Unit {0}

module _ (n : ℕ) where
  -- what an operation gives has this property, and each world after it is in range
  pub data OpIn {A : Type 0} (R : A → Type 0) : Op MW A → Type 0 where
    gives : {a : A} {w : MW} → R a → WorldIn n w → OpIn R (Gives a w)
    refuses : {w : MW} → WorldIn n w → OpIn R (Refuses w)
    faults : {e : ErrorCode} {w : MW} → WorldIn n w → OpIn R (Faults e w)

  -- a conversion, and what follows it
  pub conv_in : {A B : Type 0} (R : B → Type 0) (c : Conv A) (w : MW) (k : A → Op MW B) → WorldIn n w → ((a : A) → OpIn R (k a)) → OpIn R (conv c w k)
  conv_in R (Got a) w k i h = h a
  conv_in R (Bad e) w k i h = faults i

  pub got_in : {A B : Type 0} (S : A → Type 0) (R : B → Type 0) (c : Conv A) (w : MW) (k : A → Op MW B) → IfGot S c → WorldIn n w → ((a : A) → S a → OpIn R (k a)) → OpIn R (conv c w k)
  got_in S R (Got a) w k g i h = h a g
  got_in S R (Bad e) w k g i h = faults i

  pub if_in : {A : Type 0} (R : A → Type 0) (b : Bool) (x y : Op MW A) → OpIn R x → OpIn R y → OpIn R (if b then x else y)
  if_in R b x y h k = choice_in (OpIn R) b h k

  -- an operation, and another on what it gives
  pub then_in : {A B : Type 0} (S : A → Type 0) (R : B → Type 0) {o : Op MW A} (k : A → MW → Op MW B) → OpIn S o → ((a : A) (w : MW) → S a → WorldIn n w → OpIn R (k a w)) → OpIn R (then_op o k)
  then_in S R k (gives g i) h = h _ _ g i
  then_in S R k (refuses i) h = refuses i
  then_in S R k (faults i) h = faults i

  -- ---- pattern code

  pub basic_in : (k : Basic) → CodeIn n (basic_code k)
  basic_in (Lit []) = tt
  basic_in k = (tt, tt)

  exit_in : (k m : ℕ) (i : Instr) → InstrIn n i → InstrIn n (exit_past k m i)
  exit_in k m (Split (pos d)) h = tt
  exit_in k m (Jmp (pos d)) h = tt
  exit_in k m i h = h

  exits_in : (k : ℕ) (c : PCode) → CodeIn n c → CodeIn n (exits_past k c)
  exits_in k [] h = tt
  exits_in k (i ∷ is) h = (exit_in k (length (i ∷ is)) i h.0, exits_in k is h.1)

  pub cat_code_in : (c d : PCode) → CodeIn n c → CodeIn n d → CodeIn n (cat_code c d)
  cat_code_in c d h k = join_in (InstrIn n) c d h k

  pub alt_code_in : (c d : PCode) → CodeIn n c → CodeIn n d → CodeIn n (alt_code c d)
  alt_code_in c d h k = (tt, join_in (InstrIn n) (exits_past (length d + 1) c) (Jmp (pos (length d + 1)) ∷ d) (exits_in (length d + 1) c h) (tt, k))

  pub arbno_code_in : (c : PCode) → CodeIn n c → CodeIn n (arbno_code c)
  arbno_code_in c h = (tt, (tt, join_in (InstrIn n) c (Jmp (negsuc (length c + 1)) ∷ []) h (tt, tt)))

  pub fence_code_in : (c : PCode) → CodeIn n c → CodeIn n (fence_code c)
  fence_code_in c h = (tt, join_in (InstrIn n) c (p.CloseFence ∷ []) h (tt, tt))

  pub cond_code_in : (c : PCode) (x : Name) → CodeIn n c → CodeIn n (cond_code c x)
  cond_code_in c x h = (tt, join_in (InstrIn n) c (p.Close x ∷ []) h (tt, tt))

  pub imm_code_in : (c : PCode) (x : Name) → CodeIn n c → CodeIn n (imm_code c x)
  imm_code_in c x h = (tt, join_in (InstrIn n) c (p.Say x ∷ []) h (tt, tt))

  pub pattern_in : (v : MVal) → ValueIn n v → IfGot (CodeIn n) (to_pattern codes_of v)
  pattern_in (Str s) h = basic_in (Lit s)
  pattern_in (Int z) h = basic_in (Lit (signed_decimal z))
  pattern_in (Pat c) h = h
  pattern_in (Nam x) h = tt
  pattern_in (Exp k) h = (h, tt)
  pattern_in (Obj k) h = tt

  -- ---- the world

  pub var_in : (x : Bytes) (v : MVal) (w : MW) → ValueIn n v → WorldIn n w → WorldIn n (set_var x v w)
  var_in x v w h i = record { vars = λ y. choice_in (ValueIn n) (bytes_eq x y) h (i.vars y); objects = i.objects }

  pub first_in : (l : Level) (records : ℕ → List Bytes) → WorldIn n (first_world l codes_of records)
  first_in l records = record { vars = variable; objects = tt }
    where
      variable : (x : Bytes) → ValueIn n (first_value codes_of x)
      variable x =
          choice_in (ValueIn n) (bytes_eq x (codes "ARB")) {x = Pat (basic_code p.Arb)} (tt, tt)
          (choice_in (ValueIn n) (bytes_eq x (codes "BAL")) {x = Pat (basic_code p.Bal)} (tt, tt)
          (choice_in (ValueIn n) (bytes_eq x (codes "REM")) {x = Pat (basic_code p.Rem)} (tt, tt)
          (choice_in (ValueIn n) (bytes_eq x (codes "FAIL")) {x = Pat (basic_code p.Fail)} (tt, tt)
          (choice_in (ValueIn n) (bytes_eq x (codes "SUCCEED")) {x = Pat codes_of.succeed} (tt, tt)
          (choice_in (ValueIn n) (bytes_eq x (codes "ABORT")) {x = Pat codes_of.abort} (tt, tt)
          (choice_in (ValueIn n) (bytes_eq x (codes "FENCE")) {x = Pat codes_of.fence} {y = Str []} (tt, tt) tt))))))

  -- ---- objects

  pub object_in : (w : MW) (k : ℕ) → WorldIn n w → IfThere (ObjectIn n) (slice_get w.objects k)
  object_in w k i = item_in (ObjectIn n) w.objects k i.objects

  element_of_in : (o : Option (Object MVal)) (i : ℕ) → IfThere (ObjectIn n) o → IfThere (ValueIn n) (element_of o i)
  element_of_in None i h = tt
  element_of_in (Some (ArrayOf bs vs)) i h = item_in (ValueIn n) vs i h
  element_of_in (Some (TableOf es)) i h = tt
  element_of_in (Some (RecordOf t fs vs)) i h = item_in (ValueIn n) vs i h

  value_for_in : (v : MVal) (k : Key) (es : List (Entry MVal)) → ValueIn n v → EntriesIn n es → ValueIn n (value_for v k es)
  value_for_in v k [] h g = h
  value_for_in v k (e ∷ es) h g = choice_in (ValueIn n) (same_key e.key k) g.0 (value_for_in v k es h g.1)

  entry_of_in : (v : MVal) (o : Option (Object MVal)) (k : Key) → ValueIn n v → IfThere (ObjectIn n) o → IfThere (ValueIn n) (entry_of v o k)
  entry_of_in v None k h g = tt
  entry_of_in v (Some (ArrayOf bs vs)) k h g = tt
  entry_of_in v (Some (TableOf es)) k h g = value_for_in v k es h g
  entry_of_in v (Some (RecordOf t fs vs)) k h g = tt

  onto_in : {A : Type 0} (R : A → Type 0) (x : A) (o : Option (List A)) → R x → IfThere (AllByRecursion R) o → IfThere (AllByRecursion R) (onto x o)
  onto_in R x None h g = tt
  onto_in R x (Some xs) h g = (h, g)

  with_item_in : {A : Type 0} (R : A → Type 0) (i : ℕ) (x : A) (xs : List A) → R x → AllByRecursion R xs → IfThere (AllByRecursion R) (with_item i x xs)
  with_item_in R i x [] h g = tt
  with_item_in R zero x (y ∷ ys) h g = (h, g.1)
  with_item_in R (suc i) x (y ∷ ys) h g = onto_in R y (with_item i x ys) g.0 (with_item_in R i x ys h g.1)

  with_entry_in : (k : Key) (v : MVal) (es : List (Entry MVal)) → ValueIn n v → EntriesIn n es → EntriesIn n (with_entry k v es)
  with_entry_in k v [] h g = (h, tt)
  with_entry_in k v (e ∷ es) h g = choice_in (EntriesIn n) (same_key e.key k) (h, g.1) (g.0, with_entry_in k v es h g.1)

  elements_in : (f : List MVal → Object MVal) (o : Option (List MVal)) → ((vs : List MVal) → ValuesIn n vs → ObjectIn n (f vs)) → IfThere (ValuesIn n) o → IfThere (ObjectIn n) (with_elements f o)
  elements_in f None h g = tt
  elements_in f (Some vs) h g = h vs g

  with_element_in : (i : ℕ) (v : MVal) (o : Option (Object MVal)) → ValueIn n v → IfThere (ObjectIn n) o → IfThere (ObjectIn n) (with_element i v o)
  with_element_in i v None h g = tt
  with_element_in i v (Some (ArrayOf bs vs)) h g = elements_in (ArrayOf bs) (with_item i v vs) (λ vs k. k) (with_item_in (ValueIn n) i v vs h g)
  with_element_in i v (Some (TableOf es)) h g = tt
  with_element_in i v (Some (RecordOf t fs vs)) h g = elements_in (RecordOf t fs) (with_item i v vs) (λ vs k. k) (with_item_in (ValueIn n) i v vs h g)

  with_value_in : (k : Key) (v : MVal) (o : Option (Object MVal)) → ValueIn n v → IfThere (ObjectIn n) o → IfThere (ObjectIn n) (with_value_for k v o)
  with_value_in k v None h g = tt
  with_value_in k v (Some (ArrayOf bs vs)) h g = tt
  with_value_in k v (Some (TableOf es)) h g = with_entry_in k v es h g
  with_value_in k v (Some (RecordOf t fs vs)) h g = tt

  -- ---- operators

  pub arith_in : (o : ArithOp) (a b : MVal) (w : MW) → WorldIn n w → OpIn (ValueIn n) (arith_op o a b w)
  arith_in o a b w i = conv_in (ValueIn n) (to_integer a) w _ i (λ x. conv_in (ValueIn n) (to_integer b) w _ i (λ y. conv_in (ValueIn n) (arith_of o x y) w _ i (λ z. gives tt i)))

  pub sign_in : (o : SignOp) (a : MVal) (w : MW) → WorldIn n w → OpIn (ValueIn n) (sign_op o a w)
  sign_in o a w i = conv_in (ValueIn n) (to_integer a) w _ i (λ x. conv_in (ValueIn n) (sign_of o x) w _ i (λ z. gives tt i))

  pub limited_in : {A : Type 0} (R : A → Type 0) (s : Bytes) (w : MW) (o : Op MW A) → WorldIn n w → OpIn R o → OpIn R (limited s w o)
  limited_in R s w o i h = choice_in (OpIn R) _ h (faults i)

  two_in : (join : PCode → PCode → PCode) (a b : MVal) (w : MW) → ((c d : PCode) → CodeIn n c → CodeIn n d → CodeIn n (join c d)) → ValueIn n a → ValueIn n b → WorldIn n w → OpIn (ValueIn n) (two_patterns codes_of join a b w)
  two_in join a b w f h k i =
      got_in (CodeIn n) (ValueIn n) (to_pattern codes_of a) w _ (pattern_in a h) i (λ c g. got_in (CodeIn n) (ValueIn n) (to_pattern codes_of b) w _ (pattern_in b k) i (λ d e. gives (f c d g e) i))

  rest_in : (o : Option Bytes) (a b : MVal) (w : MW) → ValueIn n a → ValueIn n b → WorldIn n w → OpIn (ValueIn n) (join_rest codes_of o a b w)
  rest_in (Some s) a b w h k i = limited_in (ValueIn n) s w (Gives (Str s) w) i (gives tt i)
  rest_in None a b w h k i = two_in cat_code a b w cat_code_in h k i

  pub cat_in : (a b : MVal) (w : MW) → ValueIn n a → ValueIn n b → WorldIn n w → OpIn (ValueIn n) (cat_op codes_of a b w)
  cat_in a b w h k i = choice_in (OpIn (ValueIn n)) (is_null a) (gives k i) (choice_in (OpIn (ValueIn n)) (is_null b) (gives h i) (rest_in (text_joined (to_text a) (to_text b)) a b w h k i))

  pub alt_in : (a b : MVal) (w : MW) → ValueIn n a → ValueIn n b → WorldIn n w → OpIn (ValueIn n) (alt_op codes_of a b w)
  alt_in a b w h k i = two_in alt_code a b w alt_code_in h k i

  pub cond_in : (a : MVal) (x : Name) (w : MW) → ValueIn n a → WorldIn n w → OpIn (ValueIn n) (cond_op codes_of a x w)
  cond_in a x w h i = got_in (CodeIn n) (ValueIn n) (to_pattern codes_of a) w _ (pattern_in a h) i (λ c g. gives (cond_code_in c x g) i)

  pub imm_in : (a : MVal) (x : Name) (w : MW) → ValueIn n a → WorldIn n w → OpIn (ValueIn n) (imm_op codes_of a x w)
  imm_in a x w h i = got_in (CodeIn n) (ValueIn n) (to_pattern codes_of a) w _ (pattern_in a h) i (λ c g. gives (imm_code_in c x g) i)

  pub indir_in : (a : MVal) (w : MW) → WorldIn n w → OpIn Any (indir_op a w)
  indir_in a w i = conv_in Any (to_name a) w _ i (λ x. gives tt i)

  -- ---- fetching and assigning

  take_in : (x : Bytes) (u : ℕ) (l : List Bytes) (w : MW) → WorldIn n w → OpIn (ValueIn n) (take_record x u l w)
  take_in x u [] w i = refuses i
  take_in x u (r ∷ rs) w i = choice_in (OpIn (ValueIn n)) _ (gives tt (var_in x _ w tt i)) (faults i)

  fetch_var_in : (x : Bytes) (r : Option ℕ) (w : MW) → WorldIn n w → OpIn (ValueIn n) (fetch_var x r w)
  fetch_var_in x None w i = gives (i.vars x) i
  fetch_var_in x (Some u) w i = choice_in (OpIn (ValueIn n)) _ (gives (i.vars x) i) (take_in x u (w.io.left u) w i)

  there_in : (o : Option MVal) (w : MW) → IfThere (ValueIn n) o → WorldIn n w → OpIn (ValueIn n) (there o w)
  there_in None w h i = faults i
  there_in (Some v) w h i = gives h i

  pub fetch_in : (x : Name) (w : MW) → WorldIn n w → OpIn (ValueIn n) (fetch_op x w)
  fetch_in (Variable x) w i = fetch_var_in x (w.plain.reads x) w i
  fetch_in (Element k j) w i = there_in _ w (element_of_in (slice_get w.objects k) j (object_in w k i)) i
  fetch_in (IntegerKey k z) w i = there_in _ w (entry_of_in (Str []) (slice_get w.objects k) (IntegerAt z) tt (object_in w k i)) i
  fetch_in (StringKey k s) w i = there_in _ w (entry_of_in (Str []) (slice_get w.objects k) (StringAt s) tt (object_in w k i)) i

  print_in : (u : ℕ) (c : Conv Bytes) (w : MW) → WorldIn n w → OpIn Any (print_text u c w)
  print_in u (Got s) w i = gives tt i
  print_in u (Bad e) w i = faults i

  write_in : (r : Option ℕ) (v : MVal) (w : MW) → WorldIn n w → OpIn Any (write_var r v w)
  write_in None v w i = gives tt i
  write_in (Some u) v w i = choice_in (OpIn Any) _ (gives tt i) (print_in u (to_text v) w i)

  put_objects_in : (o : Option (List (Object MVal))) (w : MW) → IfThere (ObjectsIn n) o → WorldIn n w → OpIn Any (put_objects o w)
  put_objects_in None w h i = faults i
  put_objects_in (Some os) w h i = gives tt (record { vars = i.vars; objects = h })

  put_object_in : (k : ℕ) (o : Option (Object MVal)) (w : MW) → IfThere (ObjectIn n) o → WorldIn n w → OpIn Any (put_object k o w)
  put_object_in k None w h i = faults i
  put_object_in k (Some o) w h i = put_objects_in (with_item k o w.objects) w (with_item_in (ObjectIn n) k o w.objects h i.objects) i

  pub assign_in : (x : Name) (v : MVal) (w : MW) → ValueIn n v → WorldIn n w → OpIn Any (assign_op x v w)
  assign_in (Variable x) v w h i = write_in (w.plain.writes x) v (set_var x v w) (var_in x v w h i)
  assign_in (Element k j) v w h i = put_object_in k _ w (with_element_in j v (slice_get w.objects k) h (object_in w k i)) i
  assign_in (IntegerKey k z) v w h i = put_object_in k _ w (with_value_in (IntegerAt z) v (slice_get w.objects k) h (object_in w k i)) i
  assign_in (StringKey k s) v w h i = put_object_in k _ w (with_value_in (StringAt s) v (slice_get w.objects k) h (object_in w k i)) i

  pub assign_all_in : (a : Pending) (w : MW) → WorldIn n w → OpIn Any (assign_all a w)
  assign_all_in [] w i = gives tt i
  assign_all_in (x ∷ a) w i = then_in Any Any _ (assign_in x.0 (Str x.1) w tt i) (λ _ v _ j. assign_all_in a v j)

  pub splice_in : (x : Name) (s : Bytes) (b e : ℕ) (v : MVal) (w : MW) → WorldIn n w → OpIn Any (splice_op x s b e v w)
  splice_in x s b e v w i = conv_in Any (to_text v) w _ i (λ t. choice_in (OpIn Any) _ (assign_in x (Str (take b s ++ (t ++ drop e s))) w tt i) (faults i))

  -- ---- keywords

  key_value_in : (x : KeyValue) → ValueIn n (key_as_value x)
  key_value_in (IsInteger z) = tt
  key_value_in (IsText s) = tt

  pub keyget_in : (k : KeyId) (w : MW) → WorldIn n w → OpIn (ValueIn n) (keyget_op k w)
  keyget_in k w i = gives (key_value_in (key_value k (keys_of w))) i

  pub keyset_in : (k : KeyId) (v : MVal) (w : MW) → WorldIn n w → OpIn Any (keyset_op k v w)
  keyset_in k v w i = conv_in Any (to_integer v) w _ i (λ z. choice_in (OpIn Any) (allows k z) (gives tt i) (faults i))

  -- ---- matches

  count_in : (c : Conv ℤ) → IfGot (AnswerIn n) (then_conv c (λ z. then_conv (count_of z) (λ k. Got (p.IsCount k))))
  count_in (Got (pos k)) = tt
  count_in (Got (negsuc k)) = tt
  count_in (Bad e) = tt

  bytes_in : (c : Conv Bytes) → IfGot (AnswerIn n) (then_conv c (λ s. then_conv (set_of s) (λ b. Got (p.IsBytes b))))
  bytes_in (Got []) = tt
  bytes_in (Got (b ∷ bs)) = tt
  bytes_in (Bad e) = tt

  code_answer_in : (c : Conv PCode) → IfGot (CodeIn n) c → IfGot (AnswerIn n) (then_conv c (λ q. Got (p.IsPattern q)))
  code_answer_in (Got c) h = h
  code_answer_in (Bad e) h = tt

  pub answer_in : (k : Want) (v : MVal) → ValueIn n v → IfGot (AnswerIn n) (answer_of codes_of k v)
  answer_in WantPattern v h = code_answer_in (to_pattern codes_of v) (pattern_in v h)
  answer_in WantCount v h = count_in (to_integer v)
  answer_in WantBytes v h = bytes_in (to_text v)

  kind_plain_in : (k : Kind) (v : MVal) (w : MW) → WorldIn n w → OpIn (ValueIn n) (conv (answer_of codes_of (want_of_kind k) v) w (λ y. Gives (Pat (codes_of.basic (with_answer k y))) w))
  kind_plain_in k v w i = conv_in (ValueIn n) (answer_of codes_of (want_of_kind k) v) w _ i (λ y. gives (basic_in (with_answer k y)) i)

  pub kind_in : (k : Kind) (v : MVal) (w : MW) → ValueIn n v → WorldIn n w → OpIn (ValueIn n) (kind_op codes_of k v w)
  kind_in k (Exp e) w h i = gives (h, tt) i
  kind_in k v w h i = kind_plain_in k v w i

  abbrev pub BegunIn : Begun PCode → Type 0
  BegunIn g = CodeIn n g.pattern

  pub match_in : (u v : MVal) (w : MW) → ValueIn n v → WorldIn n w → OpIn BegunIn (match_op codes_of u v w)
  match_in u v w h i = conv_in BegunIn (to_text u) w _ i (λ s. got_in (CodeIn n) BegunIn (to_pattern codes_of v) w _ (pattern_in v h) i (λ c g. gives g i))

  pub told_in : (x : Told) → ValueIn n (told_value x)
  told_in (Text s) = tt
  told_in (Number k) = tt
