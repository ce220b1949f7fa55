-- Operations of the machine stand for those of the meaning: conversions, names, operators.
use Rattle.std.proofs.Common.{◌≡◌, ℕ, zero, suc, List, [], ◌∷◌, ◌++◌, length, take, drop, slice_get, ℤ, pos, negsuc, int_le, Option, Some, None, Bool, true, false, bytes_eq, nat_eq, if◌then◌else◌, refl, sym, ap, ◌∙◌, subst}
use Rattle.std.specs.Fmt.{signed_decimal}
use Rattle.model.specs.declared.run.ErrorCode.{ErrorCode}
use Rattle.model.specs.declared.run.ErrorCode.TheVariants as error
use Rattle.model.specs.declared.instr.ArithOp.{ArithOp}
use Rattle.model.specs.declared.instr.SignOp.{SignOp}
use Rattle.model.specs.declared.keys.KeyId.{KeyId}
use Rattle.model.specs.Deck.Trees.{Bytes, Expr}
use Rattle.model.specs.Deck.Target.{Name, Variable, Element, IntegerKey, StringKey}
use Rattle.model.specs.Language.Io.{Io}
use Rattle.model.specs.Language.Keywords.{Keys, KeyValue, IsInteger, IsText, key_value, is_zero, allows, put_key, counted_up}
use Rattle.model.specs.Pattern.Patterns as p
use Rattle.model.specs.Pattern.Patterns.{Basic, Lit, Pending, Answer, IsPattern, IsCount, IsBytes, Want, WantPattern, WantCount, WantBytes, Told, Text, Number, Kind, want_of_kind, with_answer}
use Rattle.model.specs.Pattern.Code.{basic_code}
use Rattle.model.specs.Pattern.Stands.{Stands, AlikeAnswer, patterns, counts, bytes, failed, said}
use Rattle.model.specs.Language.Values.{Pat, Pattern, pattern_trees, Plain, Key, IntegerAt, StringAt, Entry, Object, set_plain, set_io, set_objects, set_var, keys_of, set_keys, enter_stmt, count_failure}
use Rattle.model.specs.Language.Conversions.{Conv, Got, Bad, Op, Gives, Refuses, Faults, conv, then_conv, then_op, to_text, to_integer, to_pattern, to_name, to_label, to_variable, variable_of, is_null, count_of, set_of, answer_of}
use Rattle.model.specs.Language.Operators.{arith_of, arith_op, sign_of, sign_op, limited, text_joined, join_rest, cat_op, alt_op, cond_op, imm_op, indir_op, take_record, fetch_var, same_key, element_of, value_for, entry_of, onto, with_item, with_entry, with_elements, with_element, with_value_for, there, fetch_op, print_text, write_var, put_objects, put_object, assign_op, assign_all, splice_op, key_as_value, keyget_op, keyset_op, kind_op, told_value, Begun, match_op}
use Rattle.model.specs.Language.Meaning.{Val, W}
use Rattle.model.specs.Machine.Steps.{PCode, codes_of, MVal, MW}
use Rattle.model.specs.Machine.Alike.{VR, rstr, rint, rpat, rnam, rexp, robj, VRs, rnil, rcons, EntriesR, enil, econs, ObjectR, rarray, rtable, rrecord, ObjectsR, onil, ocons, WR}

pub data OptR {A B : Type 0} (R : A → B → Type 0) : Option A → Option B → Type 0 where
  none : OptR R None None
  some : {a : A} {b : B} → R a b → OptR R (Some a) (Some b)

pub data ConvR {A B : Type 0} (R : A → B → Type 0) : Conv A → Conv B → Type 0 where
  got : {a : A} {b : B} → R a b → ConvR R (Got a) (Got b)
  bad : (e : ErrorCode) → ConvR R (Bad e) (Bad e)

abbrev pub Any : record {} → record {} → Type 0
Any a b = Unit {0}

module _ (at : ℕ → Option Expr) where
  pub data OpR {A B : Type 0} (R : A → B → Type 0) : Op W A → Op MW B → Type 0 where
    gives : {a : A} {b : B} {w : W} {m : MW} → R a b → WR at w m → OpR R (Gives a w) (Gives b m)
    refuses : {w : W} {m : MW} → WR at w m → OpR R (Refuses w) (Refuses m)
    faults : (e : ErrorCode) {w : W} {m : MW} → WR at w m → OpR R (Faults e w) (Faults e m)

  -- ---- conversions

  pub text_same : {v : Val} {m : MVal} → VR at v m → to_text m ≡ to_text v
  text_same (rstr s) = refl
  text_same (rint z) = refl
  text_same (rpat c) = refl
  text_same (rnam n) = refl
  text_same (rexp e) = refl
  text_same (robj k) = refl

  pub int_same : {v : Val} {m : MVal} → VR at v m → to_integer m ≡ to_integer v
  int_same (rstr s) = refl
  int_same (rint z) = refl
  int_same (rpat c) = refl
  int_same (rnam n) = refl
  int_same (rexp e) = refl
  int_same (robj k) = refl

  pub name_same : {v : Val} {m : MVal} → VR at v m → to_name m ≡ to_name v
  name_same (rstr []) = refl
  name_same (rstr (b ∷ s)) = refl
  name_same (rint z) = refl
  name_same (rpat c) = refl
  name_same (rnam n) = refl
  name_same (rexp e) = refl
  name_same (robj k) = refl

  pub variable_same : {v : Val} {m : MVal} → VR at v m → to_variable m ≡ to_variable v
  variable_same h = ap (λ c. then_conv c variable_of) (name_same h)

  pub label_same : {v : Val} {m : MVal} → VR at v m → to_label m ≡ to_label v
  label_same (rstr s) = refl
  label_same (rint z) = refl
  label_same (rpat c) = refl
  label_same (rnam (Variable x)) = refl
  label_same (rnam (Element a i)) = refl
  label_same (rnam (IntegerKey a i)) = refl
  label_same (rnam (StringKey a i)) = refl
  label_same (rexp e) = refl
  label_same (robj k) = refl

  pub null_same : {v : Val} {m : MVal} → VR at v m → is_null m ≡ is_null v
  null_same (rstr []) = refl
  null_same (rstr (b ∷ s)) = refl
  null_same (rint z) = refl
  null_same (rpat c) = refl
  null_same (rnam n) = refl
  null_same (rexp e) = refl
  null_same (robj k) = refl

  pub basic_stands : (k : Basic) → Stands at (p.Plain k) (basic_code k)
  basic_stands k = refl

  pub pattern_same : {v : Val} {m : MVal} → VR at v m → ConvR (λ p c. Stands at p c) (to_pattern pattern_trees v) (to_pattern codes_of m)
  pattern_same (rstr s) = got (basic_stands (Lit s))
  pattern_same (rint z) = got (basic_stands (Lit (signed_decimal z)))
  pattern_same (rpat c) = got c
  pattern_same (rnam n) = bad error.WrongType
  pattern_same (rexp e) = got (_, e, refl)
  pattern_same (robj k) = bad error.WrongType

  -- a conversion, and what follows it
  pub conv_same : {A B C : Type 0} (R : B → C → Type 0) (c d : Conv A) {w : W} {m : MW} (k : A → Op W B) (l : A → Op MW C) → d ≡ c → WR at w m → ((a : A) → OpR R (k a) (l a)) → OpR R (conv c w k) (conv d m l)
  conv_same R c d {w} {m} k l e wr h = subst (λ d. OpR R (conv c w k) (conv d m l)) (sym e) (go c)
    where
      go : (c : Conv _) → OpR R (conv c w k) (conv c m l)
      go (Got a) = h a
      go (Bad n) = faults n wr

  pub conv_stands : {A B C D : Type 0} (S : A → D → Type 0) (R : B → C → Type 0) {c : Conv A} {d : Conv D} {w : W} {m : MW} (k : A → Op W B) (l : D → Op MW C) → ConvR S c d → WR at w m → ((a : A) (b : D) → S a b → OpR R (k a) (l b)) → OpR R (conv c w k) (conv d m l)
  conv_stands S R k l (got s) wr h = h _ _ s
  conv_stands S R k l (bad e) wr h = faults e wr

  pub if_same : {A B : Type 0} (R : A → B → Type 0) (b c : Bool) (x y : Op W A) (x' y' : Op MW B) → c ≡ b → OpR R x x' → OpR R y y' → OpR R (if b then x else y) (if c then x' else y')
  if_same R b c x y x' y' e h k = subst (λ c. OpR R (if b then x else y) (if c then x' else y')) (sym e) (go b)
    where
      go : (b : Bool) → OpR R (if b then x else y) (if b then x' else y')
      go true = h
      go false = k

  -- an operation, and another on what it gives
  pub then_same : {A B C D : Type 0} (S : A → C → Type 0) (R : B → D → Type 0) {o : Op W A} {o' : Op MW C} (k : A → W → Op W B) (l : C → MW → Op MW D)
      → OpR S o o' → ((a : A) (c : C) (w : W) (m : MW) → S a c → WR at w m → OpR R (k a w) (l c m)) → OpR R (then_op o k) (then_op o' l)
  then_same S R k l (gives x wr) h = h _ _ _ _ x wr
  then_same S R k l (refuses wr) h = refuses wr
  then_same S R k l (faults e wr) h = faults e wr

  pub if_vr : (b : Bool) {v u : Val} {m n : MVal} → VR at v m → VR at u n → VR at (if b then v else u) (if b then m else n)
  if_vr true h k = h
  if_vr false h k = k

  -- ---- the world

  pub plain_same : {w : W} {m : MW} (p q : Plain) → p ≡ q → WR at w m → WR at (set_plain p w) (set_plain q m)
  plain_same p q e wr = record { vars = wr.vars; objects = wr.objects; plain = e; io = wr.io }

  pub io_same : {w : W} {m : MW} (p q : Io) → p ≡ q → WR at w m → WR at (set_io p w) (set_io q m)
  io_same p q e wr = record { vars = wr.vars; objects = wr.objects; plain = wr.plain; io = e }

  pub objects_same : {w : W} {m : MW} {os : List (Object Val)} {xs : List (Object MVal)} → ObjectsR at os xs → WR at w m → WR at (set_objects os w) (set_objects xs m)
  objects_same h wr = record { vars = wr.vars; objects = h; plain = wr.plain; io = wr.io }

  pub var_same : {w : W} {m : MW} (x : Bytes) {v : Val} {n : MVal} → VR at v n → WR at w m → WR at (set_var x v w) (set_var x n m)
  var_same x h wr = record { vars = λ y. if_vr (bytes_eq x y) h (wr.vars y); objects = wr.objects; plain = wr.plain; io = wr.io }

  pub keys_same : {w : W} {m : MW} → WR at w m → keys_of m ≡ keys_of w
  keys_same wr = ap (λ p. p.keys) (sym wr.plain)

  -- other keywords, made of those that were
  pub set_keys_same : {w : W} {m : MW} (f : Keys → Keys) → WR at w m → WR at (set_keys (f (keys_of w)) w) (set_keys (f (keys_of m)) m)
  set_keys_same f wr = record { vars = wr.vars; objects = wr.objects; plain = λ i. record (wr.plain i) { keys = f (wr.plain i).keys }; io = wr.io }

  pub enter_same : {w : W} {m : MW} (n : ℕ) → WR at w m → WR at (enter_stmt n w) (enter_stmt n m)
  enter_same n wr = set_keys_same (λ ks. record ks { stcount = counted_up ks.stcount; lastno = ks.stno; stno = pos n }) wr

  pub failure_same : {w : W} {m : MW} → WR at w m → WR at (count_failure w) (count_failure m)
  failure_same wr = set_keys_same (λ ks. record ks { stfcount = counted_up ks.stfcount }) wr

  -- the machine's world with the meaning's plain part: enough to prove an operation there
  pub by_plain : {w : W} {m : MW} (T : MW → Type 0) → WR at w m → (WR at w (record { vars = m.vars; objects = m.objects; plain = w.plain; io = w.io }) → T (record { vars = m.vars; objects = m.objects; plain = w.plain; io = w.io })) → T m
  by_plain {w} {m} T wr h =
      subst T (λ i. record { vars = m.vars; objects = m.objects; plain = wr.plain i; io = wr.io i }) (h (record { vars = wr.vars; objects = wr.objects; plain = refl; io = refl }))

  -- ---- objects

  pub item_same : {vs : List Val} {ms : List MVal} → VRs at vs ms → (i : ℕ) → OptR (VR at) (slice_get vs i) (slice_get ms i)
  item_same rnil i = none
  item_same (rcons h hs) zero = some h
  item_same (rcons h hs) (suc i) = item_same hs i

  pub object_same : {os : List (Object Val)} {xs : List (Object MVal)} → ObjectsR at os xs → (i : ℕ) → OptR (ObjectR at) (slice_get os i) (slice_get xs i)
  object_same onil i = none
  object_same (ocons h hs) zero = some h
  object_same (ocons h hs) (suc i) = object_same hs i

  element_of_same : {o : Option (Object Val)} {x : Option (Object MVal)} → OptR (ObjectR at) o x → (i : ℕ) → OptR (VR at) (element_of o i) (element_of x i)
  element_of_same none i = none
  element_of_same (some (rarray bs hs)) i = item_same hs i
  element_of_same (some (rtable es)) i = none
  element_of_same (some (rrecord t fs hs)) i = item_same hs i

  value_for_same : {v : Val} {m : MVal} → VR at v m → (k : Key) {es : List (Entry Val)} {fs : List (Entry MVal)} → EntriesR at es fs → VR at (value_for v k es) (value_for m k fs)
  value_for_same h k enil = h
  value_for_same h k (econs j x xs) = if_vr (same_key j k) x (value_for_same h k xs)

  entry_of_same : {v : Val} {m : MVal} → VR at v m → (k : Key) {o : Option (Object Val)} {x : Option (Object MVal)} → OptR (ObjectR at) o x → OptR (VR at) (entry_of v o k) (entry_of m x k)
  entry_of_same h k none = none
  entry_of_same h k (some (rarray bs hs)) = none
  entry_of_same h k (some (rtable es)) = some (value_for_same h k es)
  entry_of_same h k (some (rrecord t fs hs)) = none

  onto_same : {v : Val} {m : MVal} {o : Option (List Val)} {x : Option (List MVal)} → VR at v m → OptR (VRs at) o x → OptR (VRs at) (onto v o) (onto m x)
  onto_same h none = none
  onto_same h (some hs) = some (rcons h hs)

  with_item_same : (i : ℕ) {v : Val} {m : MVal} {vs : List Val} {ms : List MVal} → VR at v m → VRs at vs ms → OptR (VRs at) (with_item i v vs) (with_item i m ms)
  with_item_same i h rnil = none
  with_item_same zero h (rcons k ks) = some (rcons h ks)
  with_item_same (suc i) h (rcons k ks) = onto_same k (with_item_same i h ks)

  onto_object_same : {v : Object Val} {m : Object MVal} {o : Option (List (Object Val))} {x : Option (List (Object MVal))} → ObjectR at v m → OptR (ObjectsR at) o x → OptR (ObjectsR at) (onto v o) (onto m x)
  onto_object_same h none = none
  onto_object_same h (some hs) = some (ocons h hs)

  with_object_same : (i : ℕ) {v : Object Val} {m : Object MVal} {vs : List (Object Val)} {ms : List (Object MVal)} → ObjectR at v m → ObjectsR at vs ms → OptR (ObjectsR at) (with_item i v vs) (with_item i m ms)
  with_object_same i h onil = none
  with_object_same zero h (ocons k ks) = some (ocons h ks)
  with_object_same (suc i) h (ocons k ks) = onto_object_same k (with_object_same i h ks)

  if_entries : (b : Bool) {es es' : List (Entry Val)} {fs fs' : List (Entry MVal)} → EntriesR at es fs → EntriesR at es' fs' → EntriesR at (if b then es else es') (if b then fs else fs')
  if_entries true h k = h
  if_entries false h k = k

  with_entry_same : (k : Key) {v : Val} {m : MVal} {es : List (Entry Val)} {fs : List (Entry MVal)} → VR at v m → EntriesR at es fs → EntriesR at (with_entry k v es) (with_entry k m fs)
  with_entry_same k h enil = econs k h enil
  with_entry_same k h (econs j x xs) = if_entries (same_key j k) (econs k h xs) (econs j x (with_entry_same k h xs))

  elements_same : {f : List Val → Object Val} {g : List MVal → Object MVal} {o : Option (List Val)} {x : Option (List MVal)} → ((vs : List Val) (ms : List MVal) → VRs at vs ms → ObjectR at (f vs) (g ms)) → OptR (VRs at) o x → OptR (ObjectR at) (with_elements f o) (with_elements g x)
  elements_same h none = none
  elements_same h (some hs) = some (h _ _ hs)

  with_element_same : (i : ℕ) {v : Val} {m : MVal} {o : Option (Object Val)} {x : Option (Object MVal)} → VR at v m → OptR (ObjectR at) o x → OptR (ObjectR at) (with_element i v o) (with_element i m x)
  with_element_same i h none = none
  with_element_same i h (some (rarray bs hs)) = elements_same (λ vs ms k. rarray bs k) (with_item_same i h hs)
  with_element_same i h (some (rtable es)) = none
  with_element_same i h (some (rrecord t fs hs)) = elements_same (λ vs ms k. rrecord t fs k) (with_item_same i h hs)

  with_value_same : (k : Key) {v : Val} {m : MVal} {o : Option (Object Val)} {x : Option (Object MVal)} → VR at v m → OptR (ObjectR at) o x → OptR (ObjectR at) (with_value_for k v o) (with_value_for k m x)
  with_value_same k h none = none
  with_value_same k h (some (rarray bs hs)) = none
  with_value_same k h (some (rtable es)) = some (rtable (with_entry_same k h es))
  with_value_same k h (some (rrecord t fs hs)) = none

  -- ---- operators

  pub arith_same : (o : ArithOp) {u v : Val} {a b : MVal} {w : W} {m : MW} → VR at u a → VR at v b → WR at w m → OpR (VR at) (arith_op o u v w) (arith_op o a b m)
  arith_same o {u} {v} {a} {b} h k wr =
      conv_same (VR at) (to_integer u) (to_integer a) _ _ (int_same h) wr
      (λ i. conv_same (VR at) (to_integer v) (to_integer b) _ _ (int_same k) wr
      (λ j. conv_same (VR at) (arith_of o i j) (arith_of o i j) _ _ refl wr (λ z. gives (rint z) wr)))

  pub sign_same : (o : SignOp) {u : Val} {a : MVal} {w : W} {m : MW} → VR at u a → WR at w m → OpR (VR at) (sign_op o u w) (sign_op o a m)
  sign_same o {u} {a} h wr =
      conv_same (VR at) (to_integer u) (to_integer a) _ _ (int_same h) wr (λ i. conv_same (VR at) (sign_of o i) (sign_of o i) _ _ refl wr (λ z. gives (rint z) wr))

  pub limited_same : {A B : Type 0} (R : A → B → Type 0) (s : Bytes) {w : W} {m : MW} {o : Op W A} {o' : Op MW B} → WR at w m → OpR R o o' → OpR R (limited s w o) (limited s m o')
  limited_same R s wr h = if_same R _ _ _ _ _ _ (ap (λ k. int_le (pos (length s)) k.maxlngth) (keys_same wr)) h (faults error.StringTooLong wr)

  rest_same : (o o' : Option Bytes) {u v : Val} {a b : MVal} {w : W} {m : MW} → o' ≡ o → VR at u a → VR at v b → WR at w m → OpR (VR at) (join_rest pattern_trees o u v w) (join_rest codes_of o' a b m)
  rest_same o o' {u} {v} {a} {b} {w} {m} e h k wr = subst (λ o'. OpR (VR at) (join_rest pattern_trees o u v w) (join_rest codes_of o' a b m)) (sym e) (go o)
    where
      go : (o : Option Bytes) → OpR (VR at) (join_rest pattern_trees o u v w) (join_rest codes_of o a b m)
      go (Some s) = limited_same (VR at) s wr (gives (rstr s) wr)
      go None =
          conv_stands (λ p c. Stands at p c) (VR at) _ _ (pattern_same h) wr (λ p c x. conv_stands (λ p c. Stands at p c) (VR at) _ _ (pattern_same k) wr (λ q d y. gives (rpat (c, d, x, y, refl)) wr))

  pub cat_same : {u v : Val} {a b : MVal} {w : W} {m : MW} → VR at u a → VR at v b → WR at w m → OpR (VR at) (cat_op pattern_trees u v w) (cat_op codes_of a b m)
  cat_same {u} {v} {a} {b} h k wr =
      if_same (VR at) _ _ _ _ _ _ (null_same h) (gives k wr)
      (if_same (VR at) _ _ _ _ _ _ (null_same k) (gives h wr)
      (rest_same _ _ (ap (λ c. text_joined c (to_text b)) (text_same h) ∙ ap (λ c. text_joined (to_text u) c) (text_same k)) h k wr))

  pub alt_same : {u v : Val} {a b : MVal} {w : W} {m : MW} → VR at u a → VR at v b → WR at w m → OpR (VR at) (alt_op pattern_trees u v w) (alt_op codes_of a b m)
  alt_same h k wr =
      conv_stands (λ p c. Stands at p c) (VR at) _ _ (pattern_same h) wr (λ p c x. conv_stands (λ p c. Stands at p c) (VR at) _ _ (pattern_same k) wr (λ q d y. gives (rpat (c, d, x, y, refl)) wr))

  pub cond_same : (n : Name) {v : Val} {a : MVal} {w : W} {m : MW} → VR at v a → WR at w m → OpR (VR at) (cond_op pattern_trees v n w) (cond_op codes_of a n m)
  cond_same n h wr = conv_stands (λ p c. Stands at p c) (VR at) _ _ (pattern_same h) wr (λ p c x. gives (rpat (c, x, refl)) wr)

  pub imm_same : (n : Name) {v : Val} {a : MVal} {w : W} {m : MW} → VR at v a → WR at w m → OpR (VR at) (imm_op pattern_trees v n w) (imm_op codes_of a n m)
  imm_same n h wr = conv_stands (λ p c. Stands at p c) (VR at) _ _ (pattern_same h) wr (λ p c x. gives (rpat (c, x, refl)) wr)

  pub indir_same : {v : Val} {a : MVal} {w : W} {m : MW} → VR at v a → WR at w m → OpR ◌≡◌ (indir_op v w) (indir_op a m)
  indir_same {v} {a} h wr = conv_same ◌≡◌ (to_name v) (to_name a) _ _ (name_same h) wr (λ n. gives refl wr)

  -- ---- fetching and assigning

  -- in worlds with the same plain part
  take_same : (x : Bytes) (u : ℕ) (l : List Bytes) {w : W} (vars : Bytes → MVal) (xs : List (Object MVal)) → WR at w (record { vars = vars; objects = xs; plain = w.plain; io = w.io }) → OpR (VR at) (take_record x u l w) (take_record x u l (record { vars = vars; objects = xs; plain = w.plain; io = w.io }))
  take_same x u [] vars xs wr = refuses wr
  take_same x u (r ∷ rs) {w} vars xs wr = let read = io_same (record w.io { left = λ v. if nat_eq u v then rs else w.io.left v }) (record w.io { left = λ v. if nat_eq u v then rs else w.io.left v }) refl wr in limited_same (VR at) _ read (gives (rstr _) (var_same x (rstr _) read))

  fetch_var_same : (x : Bytes) (r : Option ℕ) {w : W} (vars : Bytes → MVal) (xs : List (Object MVal)) → WR at w (record { vars = vars; objects = xs; plain = w.plain; io = w.io }) → OpR (VR at) (fetch_var x r w) (fetch_var x r (record { vars = vars; objects = xs; plain = w.plain; io = w.io }))
  fetch_var_same x None vars xs wr = gives (wr.vars x) wr
  fetch_var_same x (Some u) {w} vars xs wr = if_same (VR at) _ _ _ _ _ _ refl (gives (wr.vars x) wr) (take_same x u (w.io.left u) vars xs wr)

  there_same : {A B : Type 0} (R : A → B → Type 0) {o : Option A} {x : Option B} {w : W} {m : MW} → OptR R o x → WR at w m → OpR R (there o w) (there x m)
  there_same R none wr = faults error.WrongType wr
  there_same R (some h) wr = gives h wr

  pub fetch_same : (n : Name) {w : W} {m : MW} → WR at w m → OpR (VR at) (fetch_op n w) (fetch_op n m)
  fetch_same (Variable x) {w} {m} wr = by_plain (λ m. OpR (VR at) (fetch_op (Variable x) w) (fetch_op (Variable x) m)) wr (λ wr'. fetch_var_same x (w.plain.reads x) m.vars m.objects wr')
  fetch_same (Element k i) wr = there_same (VR at) (element_of_same (object_same wr.objects k) i) wr
  fetch_same (IntegerKey k z) wr = there_same (VR at) (entry_of_same (rstr []) (IntegerAt z) (object_same wr.objects k)) wr
  fetch_same (StringKey k s) wr = there_same (VR at) (entry_of_same (rstr []) (StringAt s) (object_same wr.objects k)) wr

  print_same : (u : ℕ) (c : Conv Bytes) {w : W} {m : MW} → WR at w m → OpR Any (print_text u c w) (print_text u c m)
  print_same u (Got s) wr = gives tt (io_same _ _ (λ i. record (wr.io i) { printed = (wr.io i).printed ++ record { unit = u; bytes = s } ∷ [] }) wr)
  print_same u (Bad e) wr = faults error.NotPrintable wr

  write_same : (r : Option ℕ) {v : Val} {a : MVal} → VR at v a → {w : W} (vars : Bytes → MVal) (xs : List (Object MVal)) → WR at w (record { vars = vars; objects = xs; plain = w.plain; io = w.io }) → OpR Any (write_var r v w) (write_var r a (record { vars = vars; objects = xs; plain = w.plain; io = w.io }))
  write_same None h vars xs wr = gives tt wr
  write_same (Some u) {v} {a} h {w} vars xs wr =
      if_same Any _ _ _ _ _ _ refl (gives tt wr) (subst (λ c. OpR Any (print_text u (to_text v) w) (print_text u c (record { vars = vars; objects = xs; plain = w.plain; io = w.io }))) (sym (text_same h)) (print_same u (to_text v) wr))

  put_objects_same : {o : Option (List (Object Val))} {x : Option (List (Object MVal))} {w : W} {m : MW} → OptR (ObjectsR at) o x → WR at w m → OpR Any (put_objects o w) (put_objects x m)
  put_objects_same none wr = faults error.WrongType wr
  put_objects_same (some h) wr = gives tt (objects_same h wr)

  put_same : (k : ℕ) {o : Option (Object Val)} {x : Option (Object MVal)} {w : W} {m : MW} → OptR (ObjectR at) o x → WR at w m → OpR Any (put_object k o w) (put_object k x m)
  put_same k none wr = faults error.WrongType wr
  put_same k (some h) wr = put_objects_same (with_object_same k h wr.objects) wr

  pub assign_same : (n : Name) {v : Val} {a : MVal} {w : W} {m : MW} → VR at v a → WR at w m → OpR Any (assign_op n v w) (assign_op n a m)
  assign_same (Variable x) {v} {a} {w} {m} h wr =
      by_plain (λ m. OpR Any (assign_op (Variable x) v w) (assign_op (Variable x) a m)) wr
      (λ wr'. write_same (w.plain.writes x) h (set_var x a (record { vars = m.vars; objects = m.objects; plain = w.plain; io = w.io })).vars m.objects (var_same x h wr'))
  assign_same (Element k i) h wr = put_same k (with_element_same i h (object_same wr.objects k)) wr
  assign_same (IntegerKey k z) h wr = put_same k (with_value_same (IntegerAt z) h (object_same wr.objects k)) wr
  assign_same (StringKey k s) h wr = put_same k (with_value_same (StringAt s) h (object_same wr.objects k)) wr

  pub assign_all_same : (a : Pending) {w : W} {m : MW} → WR at w m → OpR Any (assign_all a w) (assign_all a m)
  assign_all_same [] wr = gives tt wr
  assign_all_same (x ∷ a) wr = then_same Any Any _ _ (assign_same x.0 (rstr x.1) wr) (λ _ _ w m _ r. assign_all_same a r)

  pub splice_same : (n : Name) (s : Bytes) (b e : ℕ) {v : Val} {a : MVal} {w : W} {m : MW} → VR at v a → WR at w m → OpR Any (splice_op n s b e v w) (splice_op n s b e a m)
  splice_same n s b e {v} {a} h wr =
      conv_same Any (to_text v) (to_text a) _ _ (text_same h) wr
      (λ t. limited_same Any (take b s ++ (t ++ drop e s)) wr (assign_same n (rstr (take b s ++ (t ++ drop e s))) wr))

  -- ---- keywords

  key_value_same : (x : KeyValue) → VR at (key_as_value x) (key_as_value x)
  key_value_same (IsInteger z) = rint z
  key_value_same (IsText s) = rstr s

  pub keyget_same : (k : KeyId) {w : W} {m : MW} → WR at w m → OpR (VR at) (keyget_op k w) (keyget_op k m)
  keyget_same k {w} {m} wr = by_plain (λ m. OpR (VR at) (keyget_op k w) (keyget_op k m)) wr (λ wr'. gives (key_value_same (key_value k (keys_of w))) wr')

  pub keyset_same : (k : KeyId) {v : Val} {a : MVal} {w : W} {m : MW} → VR at v a → WR at w m → OpR Any (keyset_op k v w) (keyset_op k a m)
  keyset_same k {v} {a} h wr =
      conv_same Any (to_integer v) (to_integer a) _ _ (int_same h) wr (λ z. if_same Any (allows k z) (allows k z) _ _ _ _ refl (gives tt (set_keys_same (put_key k z) wr)) (faults error.BadKeywordValue wr))

  -- ---- matches

  count_answer : (c : Conv ℤ) → ConvR (AlikeAnswer at) (then_conv c (λ z. then_conv (count_of z) (λ n. Got (IsCount n)))) (then_conv c (λ z. then_conv (count_of z) (λ n. Got (IsCount n))))
  count_answer (Got (pos n)) = got counts
  count_answer (Got (negsuc n)) = bad error.BadPatternArgument
  count_answer (Bad e) = bad e

  bytes_answer : (c : Conv Bytes) → ConvR (AlikeAnswer at) (then_conv c (λ s. then_conv (set_of s) (λ b. Got (IsBytes b)))) (then_conv c (λ s. then_conv (set_of s) (λ b. Got (IsBytes b))))
  bytes_answer (Got []) = bad error.BadPatternArgument
  bytes_answer (Got (b ∷ bs)) = got bytes
  bytes_answer (Bad e) = bad e

  pattern_answer : {c : Conv Pattern} {d : Conv PCode} → ConvR (λ p c. Stands at p c) c d → ConvR (AlikeAnswer at) (then_conv c (λ p. Got (IsPattern p))) (then_conv d (λ p. Got (IsPattern p)))
  pattern_answer (got s) = got (patterns s)
  pattern_answer (bad e) = bad e

  pub answer_same : (k : Want) {v : Val} {a : MVal} → VR at v a → ConvR (AlikeAnswer at) (answer_of pattern_trees k v) (answer_of codes_of k a)
  answer_same WantPattern h = pattern_answer (pattern_same h)
  answer_same WantCount {v} {a} h = subst (λ c. ConvR (AlikeAnswer at) (answer_of pattern_trees WantCount v) (then_conv c (λ z. then_conv (count_of z) (λ n. Got (IsCount n))))) (sym (int_same h)) (count_answer (to_integer v))
  answer_same WantBytes {v} {a} h = subst (λ c. ConvR (AlikeAnswer at) (answer_of pattern_trees WantBytes v) (then_conv c (λ s. then_conv (set_of s) (λ b. Got (IsBytes b))))) (sym (text_same h)) (bytes_answer (to_text v))

  kind_stands : (k : Kind) {y : Answer Pattern} {z : Answer PCode} → AlikeAnswer at y z → Stands at (p.Plain (with_answer k y)) (basic_code (with_answer k z))
  kind_stands k (patterns x) = refl
  kind_stands k (counts {n = n}) = basic_stands (with_answer {P = Pattern} k (IsCount n))
  kind_stands k (bytes {w = b}) = basic_stands (with_answer {P = Pattern} k (IsBytes b))
  kind_stands k failed = refl
  kind_stands k said = refl

  kind_plain : (k : Kind) {v : Val} {a : MVal} {w : W} {m : MW} → VR at v a → WR at w m → OpR (VR at) (conv (answer_of pattern_trees (want_of_kind k) v) w (λ y. Gives (Pat (pattern_trees.basic (with_answer k y))) w)) (conv (answer_of codes_of (want_of_kind k) a) m (λ y. Gives (Pat (codes_of.basic (with_answer k y))) m))
  kind_plain k h wr = conv_stands (AlikeAnswer at) (VR at) _ _ (answer_same (want_of_kind k) h) wr (λ y z x. gives (rpat (kind_stands k x)) wr)

  pub kind_same : (k : Kind) {v : Val} {a : MVal} {w : W} {m : MW} → VR at v a → WR at w m → OpR (VR at) (kind_op pattern_trees k v w) (kind_op codes_of k a m)
  kind_same k (rexp e) wr = gives (rpat (_, e, refl)) wr
  kind_same k (rstr s) wr = kind_plain k (rstr s) wr
  kind_same k (rint z) wr = kind_plain k (rint z) wr
  kind_same k (rpat c) wr = kind_plain k (rpat c) wr
  kind_same k (rnam n) wr = kind_plain k (rnam n) wr
  kind_same k (robj n) wr = kind_plain k (robj n) wr

  pub record BegunR (g : Begun Pattern) (h : Begun PCode) : Type 0 where
    pub subject : h.subject ≡ g.subject
    pub stands : Stands at g.pattern h.pattern
    pub left : h.left ≡ g.left

  pub match_same : {u v : Val} {a b : MVal} {w : W} {m : MW} → VR at u a → VR at v b → WR at w m → OpR BegunR (match_op pattern_trees u v w) (match_op codes_of a b m)
  match_same {u} {v} {a} {b} h k wr =
      conv_same BegunR (to_text u) (to_text a) _ _ (text_same h) wr
      (λ s. conv_stands (λ p c. Stands at p c) BegunR _ _ (pattern_same k) wr
      (λ p c x. gives (record { subject = refl; stands = x; left = ap (λ k. if is_zero k.anchor then length s else 0) (keys_same wr) }) wr))

  pub told_same : (x : Told) → VR at (told_value x) (told_value x)
  told_same (Text s) = rstr s
  told_same (Number n) = rint (pos n)
