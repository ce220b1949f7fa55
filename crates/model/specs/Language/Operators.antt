-- Operators, and the fetching and assigning of names.
use Rattle.std.specs.Prelude.{ℕ, zero, suc, List, [], ◌∷◌, ◌++◌, length, take, drop, slice_get, ℤ, pos, negsuc, ◌+ℤ◌, ◌-ℤ◌, ◌*ℤ◌, int_le, int_div, Option, None, Some, Bool, false, ◌&&◌, nat_eq, bytes_eq, if◌then◌else◌}
use Rattle.model.specs.declared.instr.ArithOp.{ArithOp}
use Rattle.model.specs.declared.instr.ArithOp.TheVariants as arith
use Rattle.model.specs.declared.instr.SignOp.{SignOp}
use Rattle.model.specs.declared.instr.SignOp.TheVariants as sign
use Rattle.model.specs.declared.keys.KeyId.{KeyId}
use Rattle.model.specs.declared.run.ErrorCode.TheVariants as error
use Rattle.model.specs.Deck.Trees.{Bytes}
use Rattle.model.specs.Deck.Target.{Name, Variable, Element, IntegerKey, StringKey}
use Rattle.model.specs.Language.Strings.{trimmed}
use Rattle.model.specs.Language.Keywords.{KeyValue, IsInteger, IsText, key_value, is_zero, allows, put_key}
use Rattle.model.specs.Pattern.Patterns.{Pending, Told, Text, Number, Kind, want_of_kind, with_answer}
use Rattle.model.specs.Language.Values.{Value, Str, Int, Pat, Exp, Makes, Key, IntegerAt, StringAt, Entry, Object, ArrayOf, TableOf, RecordOf, World, set_io, set_objects, set_var, keys_of, set_keys}
use Rattle.model.specs.Language.Conversions.{Conv, Got, Bad, Op, Gives, Refuses, Faults, conv, then_op, to_text, to_integer, to_pattern, to_name, is_null, fit, answer_of}

-- ---- arithmetic

abbrev pub power : ℤ → ℕ → ℤ
power a zero = pos 1
power a (suc n) = a *ℤ power a n

-- division cuts towards zero
abbrev pub quotient : ℤ → ℤ → Conv ℤ
quotient a (pos zero) = Bad error.Arithmetic
quotient a b = fit error.Arithmetic (int_div a b)

abbrev pub raised : ℤ → ℤ → Conv ℤ
raised a (pos n) = fit error.Arithmetic (power a n)
raised a (negsuc n) = Bad error.Arithmetic

abbrev pub arith_of : ArithOp → ℤ → ℤ → Conv ℤ
arith_of arith.Add a b = fit error.Arithmetic (a +ℤ b)
arith_of arith.Subtract a b = fit error.Arithmetic (a -ℤ b)
arith_of arith.Multiply a b = fit error.Arithmetic (a *ℤ b)
arith_of arith.Divide a b = quotient a b
arith_of arith.Power a b = raised a b

abbrev pub sign_of : SignOp → ℤ → Conv ℤ
sign_of sign.Plus a = Got a
sign_of sign.Minus a = fit error.Arithmetic (pos 0 -ℤ a)

-- two texts joined, where both values have one
abbrev pub text_joined : Conv Bytes → Conv Bytes → Option Bytes
text_joined (Got s) (Got t) = Some (s ++ t)
text_joined _ _ = None

module _ {P E : Type 0} where
  abbrev pub arith_op : ArithOp → Value P E → Value P E → World P E → Op (World P E) (Value P E)
  arith_op o a b w = conv (to_integer a) w (λ i. conv (to_integer b) w (λ j. conv (arith_of o i j) w (λ k. Gives (Int k) w)))

  abbrev pub sign_op : SignOp → Value P E → World P E → Op (World P E) (Value P E)
  sign_op o a w = conv (to_integer a) w (λ i. conv (sign_of o i) w (λ k. Gives (Int k) w))

  -- ---- joining

  -- a string that isn't longer than &MAXLNGTH
  abbrev pub limited : {A : Type 0} → Bytes → World P E → Op (World P E) A → Op (World P E) A
  limited s w o = if int_le (pos (length s)) (keys_of w).maxlngth then o else Faults error.StringTooLong w

  abbrev pub two_patterns : Makes P E → (P → P → P) → Value P E → Value P E → World P E → Op (World P E) (Value P E)
  two_patterns m join a b w = conv (to_pattern m a) w (λ p. conv (to_pattern m b) w (λ q. Gives (Pat (join p q)) w))

  abbrev pub join_rest : Makes P E → Option Bytes → Value P E → Value P E → World P E → Op (World P E) (Value P E)
  join_rest m (Some s) a b w = limited s w (Gives (Str s) w)
  join_rest m None a b w = two_patterns m m.cat a b w

  -- the null string joined to anything is the other, unconverted
  abbrev pub cat_op : Makes P E → Value P E → Value P E → World P E → Op (World P E) (Value P E)
  cat_op m a b w = if is_null a then Gives b w else (if is_null b then Gives a w else join_rest m (text_joined (to_text a) (to_text b)) a b w)

  abbrev pub alt_op : Makes P E → Value P E → Value P E → World P E → Op (World P E) (Value P E)
  alt_op m a b w = two_patterns m m.alt a b w

  abbrev pub cond_op : Makes P E → Value P E → Name → World P E → Op (World P E) (Value P E)
  cond_op m a n w = conv (to_pattern m a) w (λ p. Gives (Pat (m.cond p n)) w)

  abbrev pub imm_op : Makes P E → Value P E → Name → World P E → Op (World P E) (Value P E)
  imm_op m a n w = conv (to_pattern m a) w (λ p. Gives (Pat (m.imm p n)) w)

  abbrev pub indir_op : Value P E → World P E → Op (World P E) Name
  indir_op v w = conv (to_name v) w (λ n. Gives n w)

  -- ---- fetching

  -- a record as it is read
  abbrev pub as_read : Bytes → World P E → Bytes
  as_read r w = if is_zero (keys_of w).trim then r else trimmed r

  abbrev pub take_record : Bytes → ℕ → List Bytes → World P E → Op (World P E) (Value P E)
  take_record x u [] w = Refuses w
  take_record x u (r ∷ rs) w =
      let s : Bytes = as_read r w in
      let w1 : World P E = set_io (record w.io { left = λ v. if nat_eq u v then rs else w.io.left v }) w in
      limited s w1 (Gives (Str s) (set_var x (Str s) w1))

  -- an input variable reads a record
  abbrev pub fetch_var : Bytes → Option ℕ → World P E → Op (World P E) (Value P E)
  fetch_var x None w = Gives (w.vars x) w
  fetch_var x (Some u) w = if is_zero (keys_of w).input then Gives (w.vars x) w else take_record x u (w.io.left u) w

abbrev pub same_key : Key → Key → Bool
same_key (IntegerAt i) (IntegerAt j) = int_le i j && int_le j i
same_key (StringAt s) (StringAt t) = bytes_eq s t
same_key _ _ = false

module _ {V : Type 0} where
  -- an element of an array, or the value of a field
  abbrev pub element_of : Option (Object V) → ℕ → Option V
  element_of (Some (ArrayOf bs vs)) i = slice_get vs i
  element_of (Some (RecordOf t fs vs)) i = slice_get vs i
  element_of _ i = None

  -- the value for a key, which is this one if none was ever assigned
  abbrev pub value_for : V → Key → List (Entry V) → V
  value_for null k [] = null
  value_for null k (e ∷ es) = if same_key e.key k then e.value else value_for null k es

  abbrev pub entry_of : V → Option (Object V) → Key → Option V
  entry_of null (Some (TableOf es)) k = Some (value_for null k es)
  entry_of null _ k = None

  abbrev pub onto : V → Option (List V) → Option (List V)
  onto x None = None
  onto x (Some xs) = Some (x ∷ xs)

  -- the list with another element, if it has one there
  abbrev pub with_item : ℕ → V → List V → Option (List V)
  with_item i v [] = None
  with_item zero v (x ∷ xs) = Some (v ∷ xs)
  with_item (suc i) v (x ∷ xs) = onto x (with_item i v xs)

  -- a key that was assigned before keeps its place
  abbrev pub with_entry : Key → V → List (Entry V) → List (Entry V)
  with_entry k v [] = record { key = k; value = v } ∷ []
  with_entry k v (e ∷ es) = if same_key e.key k then record { key = k; value = v } ∷ es else e ∷ with_entry k v es

  abbrev pub with_elements : (List V → Object V) → Option (List V) → Option (Object V)
  with_elements f None = None
  with_elements f (Some vs) = Some (f vs)

  abbrev pub with_element : ℕ → V → Option (Object V) → Option (Object V)
  with_element i v (Some (ArrayOf bs vs)) = with_elements (ArrayOf bs) (with_item i v vs)
  with_element i v (Some (RecordOf t fs vs)) = with_elements (RecordOf t fs) (with_item i v vs)
  with_element i v _ = None

  abbrev pub with_value_for : Key → V → Option (Object V) → Option (Object V)
  with_value_for k v (Some (TableOf es)) = Some (TableOf (with_entry k v es))
  with_value_for k v _ = None

module _ {P E : Type 0} where
  -- what is there, if anything
  abbrev pub there : {A : Type 0} → Option A → World P E → Op (World P E) A
  there None w = Faults error.WrongType w
  there (Some a) w = Gives a w

  abbrev pub fetch_op : Name → World P E → Op (World P E) (Value P E)
  fetch_op (Variable x) w = fetch_var x (w.plain.reads x) w
  fetch_op (Element k i) w = there (element_of (slice_get w.objects k) i) w
  fetch_op (IntegerKey k z) w = there (entry_of (Str []) (slice_get w.objects k) (IntegerAt z)) w
  fetch_op (StringKey k s) w = there (entry_of (Str []) (slice_get w.objects k) (StringAt s)) w

  -- ---- assigning

  abbrev pub print_text : ℕ → Conv Bytes → World P E → Op (World P E) (record {})
  print_text u (Got s) w = Gives (record {}) (set_io (record w.io { printed = w.io.printed ++ record { unit = u; bytes = s } ∷ [] }) w)
  print_text u (Bad e) w = Faults error.NotPrintable w

  -- an output variable writes a record
  abbrev pub write_var : Option ℕ → Value P E → World P E → Op (World P E) (record {})
  write_var None v w = Gives (record {}) w
  write_var (Some u) v w = if is_zero (keys_of w).output then Gives (record {}) w else print_text u (to_text v) w

  -- another object in the place of object k
  abbrev pub put_objects : Option (List (Object (Value P E))) → World P E → Op (World P E) (record {})
  put_objects None w = Faults error.WrongType w
  put_objects (Some os) w = Gives (record {}) (set_objects os w)

  abbrev pub put_object : ℕ → Option (Object (Value P E)) → World P E → Op (World P E) (record {})
  put_object k None w = Faults error.WrongType w
  put_object k (Some o) w = put_objects (with_item k o w.objects) w

  abbrev pub assign_op : Name → Value P E → World P E → Op (World P E) (record {})
  assign_op (Variable x) v w = write_var (w.plain.writes x) v (set_var x v w)
  assign_op (Element k i) v w = put_object k (with_element i v (slice_get w.objects k)) w
  assign_op (IntegerKey k z) v w = put_object k (with_value_for (IntegerAt z) v (slice_get w.objects k)) w
  assign_op (StringKey k s) v w = put_object k (with_value_for (StringAt s) v (slice_get w.objects k)) w

  -- pending assignments, in order
  abbrev pub assign_all : Pending → World P E → Op (World P E) (record {})
  assign_all [] w = Gives (record {}) w
  assign_all (x ∷ a) w = then_op (assign_op x.0 (Str x.1) w) (λ _ w1. assign_all a w1)

  -- a text with what stands from b to e replaced
  abbrev pub splice_op : Name → Bytes → (b e : ℕ) → Value P E → World P E → Op (World P E) (record {})
  splice_op n s b e v w = conv (to_text v) w (λ t. let u : Bytes = take b s ++ (t ++ drop e s) in limited u w (assign_op n (Str u) w))

  -- ---- keywords

  abbrev pub key_as_value : KeyValue → Value P E
  key_as_value (IsInteger z) = Int z
  key_as_value (IsText s) = Str s

  abbrev pub keyget_op : KeyId → World P E → Op (World P E) (Value P E)
  keyget_op k w = Gives (key_as_value (key_value k (keys_of w))) w

  abbrev pub keyset_op : KeyId → Value P E → World P E → Op (World P E) (record {})
  keyset_op k v w = conv (to_integer v) w (λ z. if allows k z then Gives (record {}) (set_keys (put_key k z (keys_of w)) w) else Faults error.BadKeywordValue w)

  -- ---- matches

  -- a pattern of a kind; its argument may be an expression
  abbrev pub kind_op : Makes P E → Kind → Value P E → World P E → Op (World P E) (Value P E)
  kind_op m k (Exp e) w = Gives (Pat (m.defer_kind k e)) w
  kind_op m k v w = conv (answer_of m (want_of_kind k) v) w (λ y. Gives (Pat (m.basic (with_answer k y))) w)

  abbrev pub told_value : Told → Value P E
  told_value (Text s) = Str s
  told_value (Number n) = Int (pos n)

-- a match as it begins: its subject, its pattern, and how many starts are to come after the first
pub record Begun (P : Type 0) : Type 0 where
  pub subject : Bytes
  pub pattern : P
  pub left : ℕ

abbrev pub match_op : {P E : Type 0} → Makes P E → Value P E → Value P E → World P E → Op (World P E) (Begun P)
match_op m u v w =
    conv (to_text u) w (λ s. conv (to_pattern m v) w (λ p. Gives (record { subject = s; pattern = p; left = if is_zero (keys_of w).anchor then length s else 0 }) w))
