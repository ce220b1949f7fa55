-- Operations on worlds that are the same but for objects without marks come to the same: conversions, names, operators.
use Rattle.std.proofs.Common.{◌≡◌, refl, sym, ap, subst, ℕ, zero, suc, ◌+◌, List, [], ◌∷◌, ◌++◌, length, take, drop, slice_get, ℤ, pos, negsuc, Option, Some, None, Bool, true, false, bytes_eq, codes, if◌then◌else◌}
use Rattle.std.specs.List.{AllByRecursion}
use Rattle.std.specs.Fmt.{signed_decimal}
use Rattle.model.specs.declared.run.ErrorCode.{ErrorCode}
use Rattle.model.specs.declared.instr.ArithOp.{ArithOp}
use Rattle.model.specs.declared.instr.SignOp.{SignOp}
use Rattle.model.specs.declared.keys.KeyId.{KeyId}
use Rattle.model.specs.Deck.Trees.{Bytes}
use Rattle.model.specs.Deck.Target.{Name, Variable, Element, IntegerKey, StringKey}
use Rattle.model.specs.Language.Keywords.{KeyValue, IsInteger, IsText, key_value, allows}
use Rattle.model.specs.Pattern.Patterns as p
use Rattle.model.specs.Pattern.Patterns.{Basic, Lit, Instr, Split, Jmp, Pending, Answer, Want, WantPattern, WantCount, WantBytes, Told, Text, Number, Kind, want_of_kind, with_answer}
use Rattle.model.specs.Pattern.Code.{basic_code, exit_past, exits_past, alt_code, cat_code, arbno_code, fence_code, cond_code, imm_code}
use Rattle.model.specs.Language.Values.{Str, Int, Pat, Nam, Exp, Obj, Key, IntegerAt, StringAt, Entry, Object, ArrayOf, TableOf, RecordOf, set_objects, set_var, keys_of, first_value}
use Rattle.model.specs.Language.Conversions.{Conv, Got, Bad, Op, Gives, Refuses, Faults, conv, then_conv, then_op, to_text, to_integer, to_pattern, to_name, is_null, count_of, set_of, answer_of}
use Rattle.model.specs.Language.Operators.{arith_of, arith_op, sign_of, sign_op, two_patterns, text_joined, join_rest, cat_op, alt_op, cond_op, imm_op, indir_op, take_record, fetch_var, same_key, element_of, value_for, entry_of, onto, with_item, with_entry, with_elements, with_element, with_value_for, there, fetch_op, print_text, write_var, put_objects, put_object, assign_op, assign_all, splice_op, key_as_value, keyget_op, keyset_op, kind_op, told_value, Begun, match_op}
use Rattle.model.specs.Machine.Steps.{PCode, codes_of, MVal, MW}
use Rattle.model.specs.Machine.Living.{NameLives, InstrLives, CodeLives, ValueLives, ValuesLive, EntriesLive, ObjectLives, HeapsAlike, WorldLives, AnswerLives, PendingLives}
use Rattle.model.proofs.Machine.Lists.{IfThere, choice_in, item_in, join_in}
use Rattle.model.proofs.Machine.OperationsIn.{Any, IfGot}

abbrev pub Heap : Type 0
Heap = List (Object MVal)

-- both go the same way
pub choice_alike : {A : Type 0} (R : A → A → Type 0) (b : Bool) {x y x' y' : A} → R x x' → R y y' → R (if b then x else y) (if b then x' else y')
choice_alike R true h k = h
choice_alike R false h k = k

module _ (n : ℕ → Bool) where
  -- ---- heaps

  -- a marked number has one object, which lives
  pub get_alike : (marks : ℕ → Bool) (os xs : Heap) (k : ℕ) → HeapsAlike n marks os xs → marks k ≡ true → (slice_get xs k ≡ slice_get os k) × IfThere (ObjectLives n) (slice_get os k)
  get_alike marks [] [] k h m = (refl, tt)
  get_alike marks [] (x ∷ xs) k h m = absurd h
  get_alike marks (o ∷ os) [] k h m = absurd h
  get_alike marks (o ∷ os) (x ∷ xs) zero h m = (ap Some (h.0 m).0, (h.0 m).1)
  get_alike marks (o ∷ os) (x ∷ xs) (suc k) h m = get_alike (λ j. marks (suc j)) os xs k h.1 m

  abbrev PutsAlike : (ℕ → Bool) → Option Heap → Option Heap → Type 0
  PutsAlike marks None None = Unit {0}
  PutsAlike marks (Some os) (Some xs) = HeapsAlike n marks os xs
  PutsAlike marks _ _ = ⊥

  onto_alike : (marks : ℕ → Bool) (o x : Object MVal) (a b : Option Heap) → (marks 0 ≡ true → (x ≡ o) × ObjectLives n o) → PutsAlike (λ k. marks (suc k)) a b → PutsAlike marks (onto o a) (onto x b)
  onto_alike marks o x None None h g = tt
  onto_alike marks o x None (Some b) h g = absurd g
  onto_alike marks o x (Some a) None h g = absurd g
  onto_alike marks o x (Some a) (Some b) h g = (h, g)

  put_alike : (marks : ℕ → Bool) (k : ℕ) (o : Object MVal) (os xs : Heap) → ObjectLives n o → HeapsAlike n marks os xs → PutsAlike marks (with_item k o os) (with_item k o xs)
  put_alike marks k o [] [] l h = tt
  put_alike marks k o [] (x ∷ xs) l h = absurd h
  put_alike marks k o (y ∷ os) [] l h = absurd h
  put_alike marks zero o (y ∷ os) (x ∷ xs) l h = (λ _. (refl, l), h.1)
  put_alike marks (suc k) o (y ∷ os) (x ∷ xs) l h = onto_alike marks y x (with_item k o os) (with_item k o xs) h.0 (put_alike (λ j. marks (suc j)) k o os xs l h.1)

  pub append_alike : (marks : ℕ → Bool) (o : Object MVal) (os xs : Heap) → ObjectLives n o → HeapsAlike n marks os xs → HeapsAlike n marks (os ++ o ∷ []) (xs ++ o ∷ [])
  append_alike marks o [] [] l h = (λ _. (refl, l), λ k. h (suc k))
  append_alike marks o [] (x ∷ xs) l h = absurd h
  append_alike marks o (y ∷ os) [] l h = absurd h
  append_alike marks o (y ∷ os) (x ∷ xs) l h = (h.0, append_alike (λ j. marks (suc j)) o os xs l h.1)

  pub sizes_alike : (marks : ℕ → Bool) (os xs : Heap) → HeapsAlike n marks os xs → length xs ≡ length os
  sizes_alike marks [] [] h = refl
  sizes_alike marks [] (x ∷ xs) h = absurd h
  sizes_alike marks (o ∷ os) [] h = absurd h
  sizes_alike marks (o ∷ os) (x ∷ xs) h = ap suc (sizes_alike (λ j. marks (suc j)) os xs h.1)

  -- the next number is marked
  pub next_marked : (marks : ℕ → Bool) (os xs : Heap) → HeapsAlike n marks os xs → marks (length os) ≡ true
  next_marked marks [] [] h = h 0
  next_marked marks [] (x ∷ xs) h = absurd h
  next_marked marks (o ∷ os) [] h = absurd h
  next_marked marks (o ∷ os) (x ∷ xs) h = next_marked (λ j. marks (suc j)) os xs h.1

  -- ---- operations

  -- both give the same, which has this property, and worlds that are the same but for objects without marks
  pub data OpAlike {A : Type 0} (R : A → Type 0) : Op MW A → Op MW A → Type 0 where
    gives : {a : A} {w : MW} {os : Heap} → R a → WorldLives n w os → OpAlike R (Gives a w) (Gives a (set_objects os w))
    refuses : {w : MW} {os : Heap} → WorldLives n w os → OpAlike R (Refuses w) (Refuses (set_objects os w))
    faults : {e : ErrorCode} {w : MW} {os : Heap} → WorldLives n w os → OpAlike R (Faults e w) (Faults e (set_objects os w))

  -- a conversion, and what follows it
  pub conv_alike : {A B : Type 0} (R : B → Type 0) (c : Conv A) (w : MW) (os : Heap) (k k' : A → Op MW B) → WorldLives n w os → ((a : A) → OpAlike R (k a) (k' a)) → OpAlike R (conv c w k) (conv c (set_objects os w) k')
  conv_alike R (Got a) w os k k' i h = h a
  conv_alike R (Bad e) w os k k' i h = faults i

  pub got_alike : {A B : Type 0} (S : A → Type 0) (R : B → Type 0) (c : Conv A) (w : MW) (os : Heap) (k k' : A → Op MW B) → IfGot S c → WorldLives n w os → ((a : A) → S a → OpAlike R (k a) (k' a)) → OpAlike R (conv c w k) (conv c (set_objects os w) k')
  got_alike S R (Got a) w os k k' g i h = h a g
  got_alike S R (Bad e) w os k k' g i h = faults i

  -- an operation, and another on what it gives
  pub then_alike : {A B : Type 0} (S : A → Type 0) (R : B → Type 0) {o o' : Op MW A} (k : A → MW → Op MW B) → OpAlike S o o' → ((a : A) (w : MW) (os : Heap) → S a → WorldLives n w os → OpAlike R (k a w) (k a (set_objects os w))) → OpAlike R (then_op o k) (then_op o' k)
  then_alike S R k (gives g i) h = h _ _ _ g i
  then_alike S R k (refuses i) h = refuses i
  then_alike S R k (faults i) h = faults i

  -- what is done with the object of a marked number
  pub at_object : {A : Type 0} (R : A → Type 0) (f g : Option (Object MVal) → Op MW A) (w : MW) (os : Heap) (k : ℕ) → n k ≡ true → WorldLives n w os → ((o : Option (Object MVal)) → IfThere (ObjectLives n) o → OpAlike R (f o) (g o)) → OpAlike R (f (slice_get w.objects k)) (g (slice_get os k))
  at_object R f g w os k m i h =
      subst (λ o. OpAlike R (f (slice_get w.objects k)) (g o)) (sym (get_alike n w.objects os k i.objects m).0) (h (slice_get w.objects k) (get_alike n w.objects os k i.objects m).1)

  -- ---- pattern code

  pub basic_lives : (k : Basic) → CodeLives n (basic_code k)
  basic_lives (Lit []) = tt
  basic_lives k = (tt, tt)

  exit_lives : (k m : ℕ) (i : Instr) → InstrLives n i → InstrLives n (exit_past k m i)
  exit_lives k m (Split (pos d)) h = tt
  exit_lives k m (Jmp (pos d)) h = tt
  exit_lives k m i h = h

  exits_live : (k : ℕ) (c : PCode) → CodeLives n c → CodeLives n (exits_past k c)
  exits_live k [] h = tt
  exits_live k (i ∷ is) h = (exit_lives k (length (i ∷ is)) i h.0, exits_live k is h.1)

  pub cat_code_lives : (c d : PCode) → CodeLives n c → CodeLives n d → CodeLives n (cat_code c d)
  cat_code_lives c d h k = join_in (InstrLives n) c d h k

  pub alt_code_lives : (c d : PCode) → CodeLives n c → CodeLives n d → CodeLives n (alt_code c d)
  alt_code_lives c d h k = (tt, join_in (InstrLives n) (exits_past (length d + 1) c) (Jmp (pos (length d + 1)) ∷ d) (exits_live (length d + 1) c h) (tt, k))

  pub arbno_code_lives : (c : PCode) → CodeLives n c → CodeLives n (arbno_code c)
  arbno_code_lives c h = (tt, (tt, join_in (InstrLives n) c (Jmp (negsuc (length c + 1)) ∷ []) h (tt, tt)))

  pub fence_code_lives : (c : PCode) → CodeLives n c → CodeLives n (fence_code c)
  fence_code_lives c h = (tt, join_in (InstrLives n) c (p.CloseFence ∷ []) h (tt, tt))

  pub cond_code_lives : (c : PCode) (x : Name) → CodeLives n c → NameLives n x → CodeLives n (cond_code c x)
  cond_code_lives c x h k = (tt, join_in (InstrLives n) c (p.Close x ∷ []) h (k, tt))

  pub imm_code_lives : (c : PCode) (x : Name) → CodeLives n c → NameLives n x → CodeLives n (imm_code c x)
  imm_code_lives c x h k = (tt, join_in (InstrLives n) c (p.Say x ∷ []) h (k, tt))

  pub pattern_lives : (v : MVal) → ValueLives n v → IfGot (CodeLives n) (to_pattern codes_of v)
  pattern_lives (Str s) h = basic_lives (Lit s)
  pattern_lives (Int z) h = basic_lives (Lit (signed_decimal z))
  pattern_lives (Pat c) h = h
  pattern_lives (Nam x) h = tt
  pattern_lives (Exp k) h = (tt, tt)
  pattern_lives (Obj k) h = tt

  -- a value as a name
  pub name_lives : (v : MVal) → ValueLives n v → IfGot (NameLives n) (to_name v)
  name_lives (Str []) h = tt
  name_lives (Str (b ∷ bs)) h = tt
  name_lives (Int z) h = tt
  name_lives (Pat c) h = tt
  name_lives (Nam x) h = h
  name_lives (Exp k) h = tt
  name_lives (Obj k) h = tt

  -- ---- the world

  pub var_lives : (x : Bytes) (v : MVal) (w : MW) (os : Heap) → ValueLives n v → WorldLives n w os → WorldLives n (set_var x v w) os
  var_lives x v w os h i = record { vars = λ y. choice_in (ValueLives n) (bytes_eq x y) h (i.vars y); objects = i.objects }

  pub first_value_lives : (x : Bytes) → ValueLives n (first_value codes_of x)
  first_value_lives x =
      choice_in (ValueLives n) (bytes_eq x (codes "ARB")) {x = Pat (basic_code p.Arb)} (tt, tt)
      (choice_in (ValueLives n) (bytes_eq x (codes "BAL")) {x = Pat (basic_code p.Bal)} (tt, tt)
      (choice_in (ValueLives n) (bytes_eq x (codes "REM")) {x = Pat (basic_code p.Rem)} (tt, tt)
      (choice_in (ValueLives n) (bytes_eq x (codes "FAIL")) {x = Pat (basic_code p.Fail)} (tt, tt)
      (choice_in (ValueLives n) (bytes_eq x (codes "SUCCEED")) {x = Pat codes_of.succeed} (tt, tt)
      (choice_in (ValueLives n) (bytes_eq x (codes "ABORT")) {x = Pat codes_of.abort} (tt, tt)
      (choice_in (ValueLives n) (bytes_eq x (codes "FENCE")) {x = Pat codes_of.fence} {y = Str []} (tt, tt) tt))))))

  -- ---- objects

  element_of_lives : (o : Option (Object MVal)) (i : ℕ) → IfThere (ObjectLives n) o → IfThere (ValueLives n) (element_of o i)
  element_of_lives None i h = tt
  element_of_lives (Some (ArrayOf bs vs)) i h = item_in (ValueLives n) vs i h
  element_of_lives (Some (TableOf es)) i h = tt
  element_of_lives (Some (RecordOf t fs vs)) i h = item_in (ValueLives n) vs i h

  value_for_lives : (v : MVal) (k : Key) (es : List (Entry MVal)) → ValueLives n v → EntriesLive n es → ValueLives n (value_for v k es)
  value_for_lives v k [] h g = h
  value_for_lives v k (e ∷ es) h g = choice_in (ValueLives n) (same_key e.key k) g.0 (value_for_lives v k es h g.1)

  entry_of_lives : (v : MVal) (o : Option (Object MVal)) (k : Key) → ValueLives n v → IfThere (ObjectLives n) o → IfThere (ValueLives n) (entry_of v o k)
  entry_of_lives v None k h g = tt
  entry_of_lives v (Some (ArrayOf bs vs)) k h g = tt
  entry_of_lives v (Some (TableOf es)) k h g = value_for_lives v k es h g
  entry_of_lives v (Some (RecordOf t fs vs)) k h g = tt

  onto_lives : {A : Type 0} (R : A → Type 0) (x : A) (o : Option (List A)) → R x → IfThere (AllByRecursion R) o → IfThere (AllByRecursion R) (onto x o)
  onto_lives R x None h g = tt
  onto_lives R x (Some xs) h g = (h, g)

  with_item_lives : {A : Type 0} (R : A → Type 0) (i : ℕ) (x : A) (xs : List A) → R x → AllByRecursion R xs → IfThere (AllByRecursion R) (with_item i x xs)
  with_item_lives R i x [] h g = tt
  with_item_lives R zero x (y ∷ ys) h g = (h, g.1)
  with_item_lives R (suc i) x (y ∷ ys) h g = onto_lives R y (with_item i x ys) g.0 (with_item_lives R i x ys h g.1)

  with_entry_lives : (k : Key) (v : MVal) (es : List (Entry MVal)) → ValueLives n v → EntriesLive n es → EntriesLive n (with_entry k v es)
  with_entry_lives k v [] h g = (h, tt)
  with_entry_lives k v (e ∷ es) h g = choice_in (EntriesLive n) (same_key e.key k) (h, g.1) (g.0, with_entry_lives k v es h g.1)

  elements_live : (f : List MVal → Object MVal) (o : Option (List MVal)) → ((vs : List MVal) → ValuesLive n vs → ObjectLives n (f vs)) → IfThere (ValuesLive n) o → IfThere (ObjectLives n) (with_elements f o)
  elements_live f None h g = tt
  elements_live f (Some vs) h g = h vs g

  with_element_lives : (i : ℕ) (v : MVal) (o : Option (Object MVal)) → ValueLives n v → IfThere (ObjectLives n) o → IfThere (ObjectLives n) (with_element i v o)
  with_element_lives i v None h g = tt
  with_element_lives i v (Some (ArrayOf bs vs)) h g = elements_live (ArrayOf bs) (with_item i v vs) (λ vs k. k) (with_item_lives (ValueLives n) i v vs h g)
  with_element_lives i v (Some (TableOf es)) h g = tt
  with_element_lives i v (Some (RecordOf t fs vs)) h g = elements_live (RecordOf t fs) (with_item i v vs) (λ vs k. k) (with_item_lives (ValueLives n) i v vs h g)

  with_value_lives : (k : Key) (v : MVal) (o : Option (Object MVal)) → ValueLives n v → IfThere (ObjectLives n) o → IfThere (ObjectLives n) (with_value_for k v o)
  with_value_lives k v None h g = tt
  with_value_lives k v (Some (ArrayOf bs vs)) h g = tt
  with_value_lives k v (Some (TableOf es)) h g = with_entry_lives k v es h g
  with_value_lives k v (Some (RecordOf t fs vs)) h g = tt

  -- ---- operators

  pub arith_alike : (o : ArithOp) (a b : MVal) (w : MW) (os : Heap) → WorldLives n w os → OpAlike (ValueLives n) (arith_op o a b w) (arith_op o a b (set_objects os w))
  arith_alike o a b w os i = conv_alike (ValueLives n) (to_integer a) w os _ _ i (λ x. conv_alike (ValueLives n) (to_integer b) w os _ _ i (λ y. conv_alike (ValueLives n) (arith_of o x y) w os _ _ i (λ z. gives tt i)))

  pub sign_alike : (o : SignOp) (a : MVal) (w : MW) (os : Heap) → WorldLives n w os → OpAlike (ValueLives n) (sign_op o a w) (sign_op o a (set_objects os w))
  sign_alike o a w os i = conv_alike (ValueLives n) (to_integer a) w os _ _ i (λ x. conv_alike (ValueLives n) (sign_of o x) w os _ _ i (λ z. gives tt i))

  two_alike : (join : PCode → PCode → PCode) (a b : MVal) (w : MW) (os : Heap) → ((c d : PCode) → CodeLives n c → CodeLives n d → CodeLives n (join c d)) → ValueLives n a → ValueLives n b → WorldLives n w os
      → OpAlike (ValueLives n) (two_patterns codes_of join a b w) (two_patterns codes_of join a b (set_objects os w))
  two_alike join a b w os f h k i =
      got_alike (CodeLives n) (ValueLives n) (to_pattern codes_of a) w os _ _ (pattern_lives a h) i (λ c g. got_alike (CodeLives n) (ValueLives n) (to_pattern codes_of b) w os _ _ (pattern_lives b k) i (λ d e. gives (f c d g e) i))

  rest_alike : (o : Option Bytes) (a b : MVal) (w : MW) (os : Heap) → ValueLives n a → ValueLives n b → WorldLives n w os → OpAlike (ValueLives n) (join_rest codes_of o a b w) (join_rest codes_of o a b (set_objects os w))
  rest_alike (Some s) a b w os h k i = choice_alike (OpAlike (ValueLives n)) _ (gives tt i) (faults i)
  rest_alike None a b w os h k i = two_alike cat_code a b w os cat_code_lives h k i

  pub cat_alike : (a b : MVal) (w : MW) (os : Heap) → ValueLives n a → ValueLives n b → WorldLives n w os → OpAlike (ValueLives n) (cat_op codes_of a b w) (cat_op codes_of a b (set_objects os w))
  cat_alike a b w os h k i = choice_alike (OpAlike (ValueLives n)) (is_null a) (gives k i) (choice_alike (OpAlike (ValueLives n)) (is_null b) (gives h i) (rest_alike (text_joined (to_text a) (to_text b)) a b w os h k i))

  pub alt_alike : (a b : MVal) (w : MW) (os : Heap) → ValueLives n a → ValueLives n b → WorldLives n w os → OpAlike (ValueLives n) (alt_op codes_of a b w) (alt_op codes_of a b (set_objects os w))
  alt_alike a b w os h k i = two_alike alt_code a b w os alt_code_lives h k i

  pub cond_alike : (a : MVal) (x : Name) (w : MW) (os : Heap) → ValueLives n a → NameLives n x → WorldLives n w os → OpAlike (ValueLives n) (cond_op codes_of a x w) (cond_op codes_of a x (set_objects os w))
  cond_alike a x w os h k i = got_alike (CodeLives n) (ValueLives n) (to_pattern codes_of a) w os _ _ (pattern_lives a h) i (λ c g. gives (cond_code_lives c x g k) i)

  pub imm_alike : (a : MVal) (x : Name) (w : MW) (os : Heap) → ValueLives n a → NameLives n x → WorldLives n w os → OpAlike (ValueLives n) (imm_op codes_of a x w) (imm_op codes_of a x (set_objects os w))
  imm_alike a x w os h k i = got_alike (CodeLives n) (ValueLives n) (to_pattern codes_of a) w os _ _ (pattern_lives a h) i (λ c g. gives (imm_code_lives c x g k) i)

  pub indir_alike : (a : MVal) (w : MW) (os : Heap) → ValueLives n a → WorldLives n w os → OpAlike (NameLives n) (indir_op a w) (indir_op a (set_objects os w))
  indir_alike a w os h i = got_alike (NameLives n) (NameLives n) (to_name a) w os _ _ (name_lives a h) i (λ x g. gives g i)

  -- ---- fetching and assigning

  take_alike : (x : Bytes) (u : ℕ) (l : List Bytes) (w : MW) (os : Heap) → WorldLives n w os → OpAlike (ValueLives n) (take_record x u l w) (take_record x u l (set_objects os w))
  take_alike x u [] w os i = refuses i
  take_alike x u (r ∷ rs) w os i = choice_alike (OpAlike (ValueLives n)) _ (gives tt (var_lives x _ w os tt i)) (faults i)

  fetch_var_alike : (x : Bytes) (r : Option ℕ) (w : MW) (os : Heap) → WorldLives n w os → OpAlike (ValueLives n) (fetch_var x r w) (fetch_var x r (set_objects os w))
  fetch_var_alike x None w os i = gives (i.vars x) i
  fetch_var_alike x (Some u) w os i = choice_alike (OpAlike (ValueLives n)) _ (gives (i.vars x) i) (take_alike x u (w.io.left u) w os i)

  there_alike : (o : Option MVal) (w : MW) (os : Heap) → IfThere (ValueLives n) o → WorldLives n w os → OpAlike (ValueLives n) (there o w) (there o (set_objects os w))
  there_alike None w os h i = faults i
  there_alike (Some v) w os h i = gives h i

  pub fetch_alike : (x : Name) (w : MW) (os : Heap) → NameLives n x → WorldLives n w os → OpAlike (ValueLives n) (fetch_op x w) (fetch_op x (set_objects os w))
  fetch_alike (Variable x) w os m i = fetch_var_alike x (w.plain.reads x) w os i
  fetch_alike (Element k j) w os m i = at_object (ValueLives n) (λ o. there (element_of o j) w) (λ o. there (element_of o j) (set_objects os w)) w os k m i (λ o h. there_alike _ w os (element_of_lives o j h) i)
  fetch_alike (IntegerKey k z) w os m i = at_object (ValueLives n) (λ o. there (entry_of (Str []) o (IntegerAt z)) w) (λ o. there (entry_of (Str []) o (IntegerAt z)) (set_objects os w)) w os k m i (λ o h. there_alike _ w os (entry_of_lives (Str []) o (IntegerAt z) tt h) i)
  fetch_alike (StringKey k s) w os m i = at_object (ValueLives n) (λ o. there (entry_of (Str []) o (StringAt s)) w) (λ o. there (entry_of (Str []) o (StringAt s)) (set_objects os w)) w os k m i (λ o h. there_alike _ w os (entry_of_lives (Str []) o (StringAt s) tt h) i)

  print_alike : (u : ℕ) (c : Conv Bytes) (w : MW) (os : Heap) → WorldLives n w os → OpAlike Any (print_text u c w) (print_text u c (set_objects os w))
  print_alike u (Got s) w os i = gives tt i
  print_alike u (Bad e) w os i = faults i

  write_alike : (r : Option ℕ) (v : MVal) (w : MW) (os : Heap) → WorldLives n w os → OpAlike Any (write_var r v w) (write_var r v (set_objects os w))
  write_alike None v w os i = gives tt i
  write_alike (Some u) v w os i = choice_alike (OpAlike Any) _ (gives tt i) (print_alike u (to_text v) w os i)

  put_objects_alike : (o x : Option Heap) (w : MW) (os : Heap) → PutsAlike n o x → WorldLives n w os → OpAlike Any (put_objects o w) (put_objects x (set_objects os w))
  put_objects_alike None None w os h i = faults i
  put_objects_alike None (Some xs) w os h i = absurd h
  put_objects_alike (Some ys) None w os h i = absurd h
  put_objects_alike (Some ys) (Some xs) w os h i = gives {w = set_objects ys w} {os = xs} tt (record { vars = i.vars; objects = h })

  put_object_alike : (k : ℕ) (o : Option (Object MVal)) (w : MW) (os : Heap) → IfThere (ObjectLives n) o → WorldLives n w os → OpAlike Any (put_object k o w) (put_object k o (set_objects os w))
  put_object_alike k None w os h i = faults i
  put_object_alike k (Some o) w os h i = put_objects_alike (with_item k o w.objects) (with_item k o os) w os (put_alike n k o w.objects os h i.objects) i

  pub assign_alike : (x : Name) (v : MVal) (w : MW) (os : Heap) → NameLives n x → ValueLives n v → WorldLives n w os → OpAlike Any (assign_op x v w) (assign_op x v (set_objects os w))
  assign_alike (Variable x) v w os m h i = write_alike (w.plain.writes x) v (set_var x v w) os (var_lives x v w os h i)
  assign_alike (Element k j) v w os m h i = at_object Any (λ o. put_object k (with_element j v o) w) (λ o. put_object k (with_element j v o) (set_objects os w)) w os k m i (λ o g. put_object_alike k _ w os (with_element_lives j v o h g) i)
  assign_alike (IntegerKey k z) v w os m h i = at_object Any (λ o. put_object k (with_value_for (IntegerAt z) v o) w) (λ o. put_object k (with_value_for (IntegerAt z) v o) (set_objects os w)) w os k m i (λ o g. put_object_alike k _ w os (with_value_lives (IntegerAt z) v o h g) i)
  assign_alike (StringKey k s) v w os m h i = at_object Any (λ o. put_object k (with_value_for (StringAt s) v o) w) (λ o. put_object k (with_value_for (StringAt s) v o) (set_objects os w)) w os k m i (λ o g. put_object_alike k _ w os (with_value_lives (StringAt s) v o h g) i)

  pub assign_all_alike : (a : Pending) (w : MW) (os : Heap) → PendingLives n a → WorldLives n w os → OpAlike Any (assign_all a w) (assign_all a (set_objects os w))
  assign_all_alike [] w os h i = gives tt i
  assign_all_alike (x ∷ a) w os h i = then_alike Any Any _ (assign_alike x.0 (Str x.1) w os h.0 tt i) (λ _ v xs _ j. assign_all_alike a v xs h.1 j)

  pub splice_alike : (x : Name) (s : Bytes) (b e : ℕ) (v : MVal) (w : MW) (os : Heap) → NameLives n x → WorldLives n w os → OpAlike Any (splice_op x s b e v w) (splice_op x s b e v (set_objects os w))
  splice_alike x s b e v w os m i = conv_alike Any (to_text v) w os _ _ i (λ t. choice_alike (OpAlike Any) _ (assign_alike x (Str (take b s ++ (t ++ drop e s))) w os m tt i) (faults i))

  -- ---- keywords

  key_value_lives : (x : KeyValue) → ValueLives n (key_as_value x)
  key_value_lives (IsInteger z) = tt
  key_value_lives (IsText s) = tt

  pub keyget_alike : (k : KeyId) (w : MW) (os : Heap) → WorldLives n w os → OpAlike (ValueLives n) (keyget_op k w) (keyget_op k (set_objects os w))
  keyget_alike k w os i = gives (key_value_lives (key_value k (keys_of w))) i

  pub keyset_alike : (k : KeyId) (v : MVal) (w : MW) (os : Heap) → WorldLives n w os → OpAlike Any (keyset_op k v w) (keyset_op k v (set_objects os w))
  keyset_alike k v w os i = conv_alike Any (to_integer v) w os _ _ i (λ z. choice_alike (OpAlike Any) (allows k z) (gives tt i) (faults i))

  -- ---- matches

  count_lives : (c : Conv ℤ) → IfGot (AnswerLives n) (then_conv c (λ z. then_conv (count_of z) (λ k. Got (p.IsCount k))))
  count_lives (Got (pos k)) = tt
  count_lives (Got (negsuc k)) = tt
  count_lives (Bad e) = tt

  bytes_live : (c : Conv Bytes) → IfGot (AnswerLives n) (then_conv c (λ s. then_conv (set_of s) (λ b. Got (p.IsBytes b))))
  bytes_live (Got []) = tt
  bytes_live (Got (b ∷ bs)) = tt
  bytes_live (Bad e) = tt

  code_answer_lives : (c : Conv PCode) → IfGot (CodeLives n) c → IfGot (AnswerLives n) (then_conv c (λ q. Got (p.IsPattern q)))
  code_answer_lives (Got c) h = h
  code_answer_lives (Bad e) h = tt

  pub answer_lives : (k : Want) (v : MVal) → ValueLives n v → IfGot (AnswerLives n) (answer_of codes_of k v)
  answer_lives WantPattern v h = code_answer_lives (to_pattern codes_of v) (pattern_lives v h)
  answer_lives WantCount v h = count_lives (to_integer v)
  answer_lives WantBytes v h = bytes_live (to_text v)

  kind_plain_alike : (k : Kind) (v : MVal) (w : MW) (os : Heap) → WorldLives n w os
      → OpAlike (ValueLives n) (conv (answer_of codes_of (want_of_kind k) v) w (λ y. Gives (Pat (codes_of.basic (with_answer k y))) w)) (conv (answer_of codes_of (want_of_kind k) v) (set_objects os w) (λ y. Gives (Pat (codes_of.basic (with_answer k y))) (set_objects os w)))
  kind_plain_alike k v w os i = conv_alike (ValueLives n) (answer_of codes_of (want_of_kind k) v) w os _ _ i (λ y. gives (basic_lives (with_answer k y)) i)

  pub kind_alike : (k : Kind) (v : MVal) (w : MW) (os : Heap) → ValueLives n v → WorldLives n w os → OpAlike (ValueLives n) (kind_op codes_of k v w) (kind_op codes_of k v (set_objects os w))
  kind_alike k (Exp e) w os h i = gives (tt, tt) i
  kind_alike k v w os h i = kind_plain_alike k v w os i

  abbrev pub BegunLives : Begun PCode → Type 0
  BegunLives g = CodeLives n g.pattern

  pub match_alike : (u v : MVal) (w : MW) (os : Heap) → ValueLives n v → WorldLives n w os → OpAlike BegunLives (match_op codes_of u v w) (match_op codes_of u v (set_objects os w))
  match_alike u v w os h i = conv_alike BegunLives (to_text u) w os _ _ i (λ s. got_alike (CodeLives n) BegunLives (to_pattern codes_of v) w os _ _ (pattern_lives v h) i (λ c g. gives g i))

  pub told_lives : (x : Told) → ValueLives n (told_value x)
  told_lives (Text s) = tt
  told_lives (Number k) = tt
