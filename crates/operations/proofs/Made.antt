-- Arrays and tables that are made.
use Rattle.std.proofs.Common.{◌≡◌, ℕ, zero, suc, ◌<◌, ◌≤◌, List, [], ◌∷◌, ◌++◌, length, map, replicate, Option, Some, None, Bool, true, false, nat_eq, nat_lt, ◌+◌, refl, sym, ap, ◌∙◌, subst, arith}
use Rattle.std.specs.Prelude.{slice_get, option_map, if◌then◌else◌}
use Rattle.std.proofs.lemmas.Option.{slice_get-map}
use Rattle.std.proofs.lemmas.List.{length-map, map-append}
use Rattle.model.specs.declared.run.ErrorCode.TheVariants as error
use Rattle.model.specs.declared.image.Level.{Level}
use Rattle.model.specs.Deck.Trees.{Bytes}
use Rattle.model.specs.Language.Io.{Io}
use Rattle.model.specs.Language.Keywords.{Keys}
use Rattle.model.specs.Language.Values.{Obj, Key, IntegerAt, StringAt, Bounds, Entry, Object, ArrayOf, TableOf, RecordOf, set_objects}
use Rattle.model.specs.Language.Conversions.{Op, Gives, Refuses, Faults, is_null}
use Rattle.model.specs.Language.Prototypes.{passing, are_bounds, elements_in}
use Rattle.model.specs.Language.Aggregates.{row_count, rows, pairs, new_object, array_op, copy_of, copy_op, value_of_key, rows_array, table_array, as_array}
use Rattle.model.specs.Machine.Steps.{MVal, MW}
use Rattle.heap.specs.Made as heap
use Rattle.heap.specs.Made.{filled, copied, rows_in, number, with_object}
use Rattle.values.specs.Values.{value_of, held_key}
use Rattle.world.specs.Objects.{entry_map, object_map}
use Rattle.values.specs.Functions.{Functions}
use Rattle.world.specs.Held.{WorldView, world_of}
use Rattle.values.specs.declared.value.Value.{Value}
use Rattle.values.specs.declared.variable.Variable.{Variable}

pub made : (vs : List (Bytes × Variable)) (os new : List (Object Value)) (fs : Functions) (ks : Keys) (lv : Level) (ns : List Bytes) (h : WorldView) (io : Io) (o : Object Value) (n : ℕ)
    → record { variables = vs; objects = os; functions = fs; keys = ks; level = lv; names = ns } ≡ h → n ≡ length os → new ≡ os ++ o ∷ []
    → new_object (object_map value_of o) (world_of h io) ≡ Gives (Obj n) (world_of (record { variables = vs; objects = new; functions = fs; keys = ks; level = lv; names = ns }) io)
made vs os new fs ks lv ns h io o n is number more =
    ap (λ z. new_object (object_map value_of o) (world_of z io)) (sym is)
    ∙ ap (λ k. Gives (Obj k) (set_objects (map (object_map value_of) os ++ object_map value_of o ∷ []) (world_of (record { variables = vs; objects = os; functions = fs; keys = ks; level = lv; names = ns }) io))) (length-map os (object_map value_of) ∙ sym number)
    ∙ ap (λ xs. Gives (Obj n) (set_objects xs (world_of (record { variables = vs; objects = os; functions = fs; keys = ks; level = lv; names = ns }) io))) (sym (map-append (object_map value_of) os (o ∷ [])))
    ∙ ap (λ xs. Gives (Obj n) (world_of (record { variables = vs; objects = xs; functions = fs; keys = ks; level = lv; names = ns }) io)) (sym more)

-- what the making of an object comes to, or this where none is made
abbrev pub made_or : (MW → Op MW MVal) → Option (Object MVal) → MW → Op MW MVal
made_or other None w = other w
made_or other (Some o) w = new_object o w

module _ (vs : List (Bytes × Variable)) (os new : List (Object Value)) (fs : Functions) (ks : Keys) (lv : Level) (ns : List Bytes) (h : WorldView) (io : Io) (n : Option ℕ) (r : Option (Object Value)) (other : MW → Op MW MVal)
    (is : record { variables = vs; objects = os; functions = fs; keys = ks; level = lv; names = ns } ≡ h) (at : n ≡ number r os) (more : new ≡ with_object r os) where
  was_made : (j : ℕ) → n ≡ Some j → made_or other (option_map (object_map value_of) r) (world_of h io) ≡ Gives (Obj j) (world_of (record { variables = vs; objects = new; functions = fs; keys = ks; level = lv; names = ns }) io)
  was_made j some = by r (sym at ∙ some) more
    where
      by : (r : Option (Object Value)) → number r os ≡ Some j → new ≡ with_object r os → made_or other (option_map (object_map value_of) r) (world_of h io) ≡ Gives (Obj j) (world_of (record { variables = vs; objects = new; functions = fs; keys = ks; level = lv; names = ns }) io)
      by None e m = absurd (cc)
      by (Some o) e m = made vs os new fs ks lv ns h io o j is (cc) m

  not_made : n ≡ None → made_or other (option_map (object_map value_of) r) (world_of h io) ≡ other (world_of (record { variables = vs; objects = new; functions = fs; keys = ks; level = lv; names = ns }) io)
  not_made none = by r (sym at ∙ none) more
    where
      by : (r : Option (Object Value)) → number r os ≡ None → new ≡ with_object r os → made_or other (option_map (object_map value_of) r) (world_of h io) ≡ other (world_of (record { variables = vs; objects = new; functions = fs; keys = ks; level = lv; names = ns }) io)
      by None e m = ap (λ z. other (world_of z io)) (sym is) ∙ ap (λ xs. other (world_of (record { variables = vs; objects = xs; functions = fs; keys = ks; level = lv; names = ns }) io)) (sym m)
      by (Some o) e m = absurd (cc)

-- ---- arrays

same_everywhere : (n : ℕ) (v : Value) → map value_of (replicate n v) ≡ replicate n (value_of v)
same_everywhere zero v = refl
same_everywhere (suc n) v = ap (λ xs. value_of v ∷ xs) (same_everywhere n v)

array_is : (bs : List Bounds) (v : Value) (w : MW) → array_op (passing are_bounds (Some bs)) (value_of v) w ≡ made_or (Faults error.BadArray) (option_map (object_map value_of) (filled bs v)) w
array_is bs v w = by (are_bounds bs)
  where
    by : (b : Bool) → array_op (if b then Some bs else None) (value_of v) w ≡ made_or (Faults error.BadArray) (option_map (object_map value_of) (if b then Some (ArrayOf bs (replicate (elements_in bs) v)) else None)) w
    by true = ap (λ xs. new_object (ArrayOf bs xs) w) (sym (same_everywhere (elements_in bs) v))
    by false = refl

module _ (vs : List (Bytes × Variable)) (os new : List (Object Value)) (fs : Functions) (ks : Keys) (lv : Level) (ns : List Bytes) (h : WorldView) (io : Io) (n : Option ℕ) (bs : List Bounds) (v : Value)
    (is : record { variables = vs; objects = os; functions = fs; keys = ks; level = lv; names = ns } ≡ h) (at : n ≡ number (filled bs v) os) (more : new ≡ with_object (filled bs v) os) where
  pub was_filled : (j : ℕ) → n ≡ Some j → array_op (passing are_bounds (Some bs)) (value_of v) (world_of h io) ≡ Gives (Obj j) (world_of (record { variables = vs; objects = new; functions = fs; keys = ks; level = lv; names = ns }) io)
  was_filled j some = array_is bs v (world_of h io) ∙ was_made vs os new fs ks lv ns h io n (filled bs v) (Faults error.BadArray) is at more j some

-- ---- copies

copy_is : (o : Option (Object Value)) (w : MW) → copy_of (option_map (object_map value_of) o) w ≡ made_or (Faults error.WrongType) (option_map (object_map value_of) (copied o)) w
copy_is None w = refl
copy_is (Some (ArrayOf bs vs)) w = refl
copy_is (Some (TableOf es)) w = refl
copy_is (Some (RecordOf t fs vs)) w = refl

-- an object of the world, seen as the definitions see it
looked : (vs : List (Bytes × Variable)) (os : List (Object Value)) (fs : Functions) (ks : Keys) (lv : Level) (ns : List Bytes) (h : WorldView) (io : Io) (k : ℕ) → record { variables = vs; objects = os; functions = fs; keys = ks; level = lv; names = ns } ≡ h → slice_get (world_of h io).objects k ≡ option_map (object_map value_of) (slice_get os k)
looked vs os fs ks lv ns h io k is = slice_get-map (object_map value_of) h.objects k ∙ ap (λ z. option_map (object_map value_of) (slice_get z.objects k)) (sym is)

module _ (vs : List (Bytes × Variable)) (os new : List (Object Value)) (fs : Functions) (ks : Keys) (lv : Level) (ns : List Bytes) (h : WorldView) (io : Io) (k : ℕ) (n : Option ℕ)
    (is : record { variables = vs; objects = os; functions = fs; keys = ks; level = lv; names = ns } ≡ h) (at : n ≡ number (copied (slice_get os k)) os) (more : new ≡ with_object (copied (slice_get os k)) os) where
  copying : copy_op (Obj k) (world_of h io) ≡ made_or (Faults error.WrongType) (option_map (object_map value_of) (copied (slice_get os k))) (world_of h io)
  copying = ap (λ o. copy_of o (world_of h io)) (looked vs os fs ks lv ns h io k is) ∙ copy_is (slice_get os k) (world_of h io)

  pub was_copied : (j : ℕ) → n ≡ Some j → copy_op (Obj k) (world_of h io) ≡ Gives (Obj j) (world_of (record { variables = vs; objects = new; functions = fs; keys = ks; level = lv; names = ns }) io)
  was_copied j some = copying ∙ was_made vs os new fs ks lv ns h io n (copied (slice_get os k)) (Faults error.WrongType) is at more j some

-- ---- rows of a table

abbrev pub null_here : Value → Bool
null_here v = is_null (value_of v)

count_seen : (es : List (Entry Value)) → row_count is_null (map (entry_map value_of) es) ≡ row_count null_here es
count_seen [] = refl
count_seen (e ∷ es) = ap (λ n. if null_here e.value then n else n + 1) (count_seen es)

key_seen : (k : Key) → value_of (held_key k) ≡ value_of_key k
key_seen (IntegerAt z) = refl
key_seen (StringAt s) = refl

rows_seen : (es : List (Entry Value)) → rows is_null value_of_key (map (entry_map value_of) es) ≡ map value_of (rows null_here held_key es)
rows_seen [] = refl
rows_seen (e ∷ es) = by (null_here e.value) (rows_seen es)
  where
    by : (b : Bool) → rows is_null value_of_key (map (entry_map value_of) es) ≡ map value_of (rows null_here held_key es)
        → (if b then rows is_null value_of_key (map (entry_map value_of) es) else value_of_key e.key ∷ value_of e.value ∷ rows is_null value_of_key (map (entry_map value_of) es))
        ≡ map value_of (if b then rows null_here held_key es else held_key e.key ∷ e.value ∷ rows null_here held_key es)
    by true h = h
    by false h = λ i. sym (key_seen e.key) i ∷ value_of e.value ∷ h i

-- what the array of so many rows comes to
abbrev rows_by : (none many : Bool) → Object MVal → MW → Op MW MVal
rows_by none many o w = if none then Refuses w else if many then Faults error.BadArray w else new_object o w

abbrev rows_object : List (Entry Value) → Object Value
rows_object es = ArrayOf (pairs (row_count null_here es)) (rows null_here held_key es)

rows_are : (es : List (Entry Value)) (w : MW) → rows_array (map (entry_map value_of) es) w ≡ rows_by (nat_eq (row_count null_here es) 0) (nat_lt 524288 (row_count null_here es)) (object_map value_of (rows_object es)) w
rows_are es w =
    ap (λ n. rows_by (nat_eq n 0) (nat_lt 524288 n) (ArrayOf (pairs n) (rows is_null value_of_key (map (entry_map value_of) es))) w) (count_seen es)
    ∙ ap (λ xs. rows_by (nat_eq (row_count null_here es) 0) (nat_lt 524288 (row_count null_here es)) (ArrayOf (pairs (row_count null_here es)) xs) w) (rows_seen es)

no_more : (n m : ℕ) → m ≤ n → nat_lt n m ≡ false
no_more n m le = go (nat_lt n m) refl
  where
    go : (b : Bool) → nat_lt n m ≡ b → nat_lt n m ≡ false
    go true q = absurd (grind (arith, le, q))
    go false q = q

more_than : (n m : ℕ) → n < m → nat_lt n m ≡ true
more_than n m lt = go (nat_lt n m) refl
  where
    go : (b : Bool) → nat_lt n m ≡ b → nat_lt n m ≡ true
    go true q = q
    go false q = absurd (grind (arith, lt, q))

some_of : (n : ℕ) → 524288 < n → nat_eq n 0 ≡ false
some_of n lt = go (nat_eq n 0) refl
  where
    go : (b : Bool) → nat_eq n 0 ≡ b → nat_eq n 0 ≡ false
    go true q = absurd (grind (arith, lt, q))
    go false q = q

few_rows : (o : Option (Object Value)) (w : MW) → rows_in null_here o ≤ 524288 → table_array (option_map (object_map value_of) o) w ≡ made_or Refuses (option_map (object_map value_of) (heap.rows_array null_here held_key o)) w
few_rows None w le = refl
few_rows (Some (ArrayOf bs vs)) w le = refl
few_rows (Some (RecordOf t fs vs)) w le = refl
few_rows (Some (TableOf es)) w le =
    rows_are es w
    ∙ ap (λ b. rows_by (nat_eq (row_count null_here es) 0) b (object_map value_of (rows_object es)) w) (no_more 524288 (row_count null_here es) le)
    ∙ by (nat_eq (row_count null_here es) 0)
  where
    by : (b : Bool) → rows_by b false (object_map value_of (rows_object es)) w
        ≡ made_or Refuses (option_map (object_map value_of) (heap.as_array (if b then None else Some (pairs (row_count null_here es), rows null_here held_key es)))) w
    by true = refl
    by false = refl

many_rows : (o : Option (Object Value)) (w : MW) → 524288 < rows_in null_here o → table_array (option_map (object_map value_of) o) w ≡ Faults error.BadArray w
many_rows None w lt = absurd (omega arith)
many_rows (Some (ArrayOf bs vs)) w lt = absurd (omega arith)
many_rows (Some (RecordOf t fs vs)) w lt = absurd (omega arith)
many_rows (Some (TableOf es)) w lt =
    rows_are es w
    ∙ ap (λ b. rows_by (nat_eq (row_count null_here es) 0) b (object_map value_of (rows_object es)) w) (more_than 524288 (row_count null_here es) lt)
    ∙ ap (λ b. rows_by b true (object_map value_of (rows_object es)) w) (some_of (row_count null_here es) lt)

pub too_many_rows : (vs : List (Bytes × Variable)) (os : List (Object Value)) (fs : Functions) (ks : Keys) (lv : Level) (ns : List Bytes) (h : WorldView) (io : Io) (k c : ℕ) → record { variables = vs; objects = os; functions = fs; keys = ks; level = lv; names = ns } ≡ h
    → c ≡ rows_in null_here (slice_get os k) → 524288 < c → as_array (Obj k) (world_of h io) ≡ Faults error.BadArray (world_of h io)
too_many_rows vs os fs ks lv ns h io k c is count lt =
    ap (λ o. table_array o (world_of h io)) (looked vs os fs ks lv ns h io k is) ∙ many_rows (slice_get os k) (world_of h io) (subst (λ n. 524288 < n) count lt)

module _ (vs : List (Bytes × Variable)) (os new : List (Object Value)) (fs : Functions) (ks : Keys) (lv : Level) (ns : List Bytes) (h : WorldView) (io : Io) (k c : ℕ) (n : Option ℕ)
    (is : record { variables = vs; objects = os; functions = fs; keys = ks; level = lv; names = ns } ≡ h) (count : c ≡ rows_in null_here (slice_get os k)) (few : c ≤ 524288)
    (at : n ≡ number (heap.rows_array null_here held_key (slice_get os k)) os) (more : new ≡ with_object (heap.rows_array null_here held_key (slice_get os k)) os) where
  listing : as_array (Obj k) (world_of h io) ≡ made_or Refuses (option_map (object_map value_of) (heap.rows_array null_here held_key (slice_get os k))) (world_of h io)
  listing = ap (λ o. table_array o (world_of h io)) (looked vs os fs ks lv ns h io k is) ∙ few_rows (slice_get os k) (world_of h io) (subst (λ m. m ≤ 524288) count few)

  pub was_listed : (j : ℕ) → n ≡ Some j → as_array (Obj k) (world_of h io) ≡ Gives (Obj j) (world_of (record { variables = vs; objects = new; functions = fs; keys = ks; level = lv; names = ns }) io)
  was_listed j some = listing ∙ was_made vs os new fs ks lv ns h io n (heap.rows_array null_here held_key (slice_get os k)) Refuses is at more j some

  pub not_listed : n ≡ None → as_array (Obj k) (world_of h io) ≡ Refuses (world_of (record { variables = vs; objects = new; functions = fs; keys = ks; level = lv; names = ns }) io)
  not_listed none = listing ∙ not_made vs os new fs ks lv ns h io n (heap.rows_array null_here held_key (slice_get os k)) Refuses is at more none
