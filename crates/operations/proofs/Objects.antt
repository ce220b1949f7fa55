-- Objects whose values are seen as others.
use Rattle.std.proofs.Common.{◌≡◌, ℕ, zero, suc, List, [], ◌∷◌, map, Option, Some, None, Bool, true, false, codes, refl, sym, ap, ◌∙◌}
use Rattle.std.specs.Prelude.{slice_get, option_map, option_copied, unwrap_or, if◌then◌else◌}
use Rattle.std.specs.Borrow.{Bor}
use Rattle.std.proofs.lemmas.Option.{slice_get-map}
use Rattle.model.specs.declared.run.ErrorCode.TheVariants as error
use Rattle.model.specs.declared.image.Level.{Level}
use Rattle.model.specs.Deck.Trees.{Bytes}
use Rattle.model.specs.Language.Io.{Io}
use Rattle.model.specs.Language.Keywords.{Keys}
use Rattle.model.specs.Deck.Target.{Element}
use Rattle.model.specs.Language.Values.{Str, Obj, Key, Entry, Object, ArrayOf, TableOf, RecordOf}
use Rattle.model.specs.Language.Conversions.{Gives, Faults}
use Rattle.model.specs.Language.Operators.{same_key, element_of, value_for, entry_of, onto, with_item, with_entry, with_elements, there, fetch_op, put_objects, put_object}
use Rattle.aggregates.specs.Keys.{key_of, value_at}
use Rattle.aggregates.specs.Objects.{if_stored, value_in, stored_at}
use Rattle.heap.specs.Objects.{put_at, record_type}
use Rattle.aggregates.specs.Made.{kind_of}
use Rattle.aggregates.specs.declared.object.ObjectKind.{ObjectKind}
use Rattle.aggregates.specs.declared.object.ObjectKind.TheVariants as kind
use Rattle.aggregates.specs.declared.place.ElementPlace.{ElementPlace}
use Rattle.aggregates.specs.declared.place.ElementPlace.TheVariants as place
use Rattle.model.specs.Language.Aggregates.{object_type, type_of}
use Rattle.model.specs.Machine.Steps.{MVal, MW}
use Rattle.values.specs.Values.{value_of}
use Rattle.values.specs.Functions.{Functions}
use Rattle.world.specs.Objects.{entry_map, object_map}
use Rattle.world.specs.Held.{WorldView, world_of}
use Rattle.values.specs.declared.value.Value.{Value}
use Rattle.values.specs.declared.variable.Variable.{Variable}

-- ---- looking

pub element_seen : {V W : Type 0} (f : V → W) (o : Option (Object V)) (i : ℕ) → element_of (option_map (object_map f) o) i ≡ option_map f (element_of o i)
element_seen f None i = refl
element_seen f (Some (ArrayOf bs vs)) i = slice_get-map f vs i
element_seen f (Some (TableOf es)) i = refl
element_seen f (Some (RecordOf t fs vs)) i = slice_get-map f vs i

value_seen : {V W : Type 0} (f : V → W) (null : W) (k : Key) (es : List (Entry V)) → value_for null k (map (entry_map f) es) ≡ unwrap_or (option_map f (value_at k es)) null
value_seen f null k [] = refl
value_seen f null k (e ∷ es) = by (same_key e.key k) (value_seen f null k es)
  where
    by : (b : Bool) → value_for null k (map (entry_map f) es) ≡ unwrap_or (option_map f (value_at k es)) null
        → (if b then f e.value else value_for null k (map (entry_map f) es)) ≡ unwrap_or (option_map f (if b then Some e.value else value_at k es)) null
    by true h = refl
    by false h = h

-- what a look for a key comes to, by the kind of the object
abbrev pub entry_by : {W : Type 0} → W → Option ObjectKind → Option W → Option W
entry_by null (Some kind.Table) v = Some (unwrap_or v null)
entry_by null _ v = None

pub entry_seen : {V W : Type 0} (f : V → W) (null : W) (o : Option (Object V)) (k : Key) → entry_of null (option_map (object_map f) o) k ≡ entry_by null (option_map kind_of o) (option_map f (value_in k o))
entry_seen f null None k = refl
entry_seen f null (Some (ArrayOf bs vs)) k = refl
entry_seen f null (Some (TableOf es)) k = ap Some (value_seen f null k es)
entry_seen f null (Some (RecordOf t fs vs)) k = refl

-- ---- storing

pub item_put : {V W : Type 0} (f : V → W) (i : ℕ) (v : V) (xs : List V) → with_item i (f v) (map f xs) ≡ option_map (map f) (with_item i v xs)
item_put f i v [] = refl
item_put f zero v (x ∷ xs) = refl
item_put f (suc i) v (x ∷ xs) = ap (onto (f x)) (item_put f i v xs) ∙ by (with_item i v xs)
  where
    by : (o : Option (List _)) → onto (f x) (option_map (map f) o) ≡ option_map (map f) (onto x o)
    by None = refl
    by (Some ys) = refl

entry_put : {V W : Type 0} (f : V → W) (k : Key) (v : V) (es : List (Entry V)) → with_entry k (f v) (map (entry_map f) es) ≡ map (entry_map f) (with_entry k v es)
entry_put f k v [] = refl
entry_put f k v (e ∷ es) = by (same_key e.key k) (entry_put f k v es)
  where
    by : (b : Bool) → with_entry k (f v) (map (entry_map f) es) ≡ map (entry_map f) (with_entry k v es)
        → (if b then record { key = k; value = f v } ∷ map (entry_map f) es else entry_map f e ∷ with_entry k (f v) (map (entry_map f) es)) ≡ map (entry_map f) (if b then record { key = k; value = v } ∷ es else e ∷ with_entry k v es)
    by true h = refl
    by false h = ap (λ xs. entry_map f e ∷ xs) h

elements_put : {V W : Type 0} (f : V → W) (g : List V → Object V) (g' : List W → Object W) → ((vs : List V) → g' (map f vs) ≡ object_map f (g vs)) → (o : Option (List V)) → with_elements g' (option_map (map f) o) ≡ option_map (object_map f) (with_elements g o)
elements_put f g g' same None = refl
elements_put f g g' same (Some vs) = ap Some (same vs)

stored_seen : {V W : Type 0} (f : V → W) (p : ElementPlace) (v : V) (o : Option (Object V)) → stored_at p (f v) (option_map (object_map f) o) ≡ option_map (object_map f) (stored_at p v o)
stored_seen f (place.Element i) v None = refl
stored_seen f (place.Element i) v (Some (ArrayOf bs vs)) = ap (with_elements (ArrayOf bs)) (item_put f i v vs) ∙ elements_put f (ArrayOf bs) (ArrayOf bs) (λ xs. refl) (with_item i v vs)
stored_seen f (place.Element i) v (Some (TableOf es)) = refl
stored_seen f (place.Element i) v (Some (RecordOf t fs vs)) = ap (with_elements (RecordOf t fs)) (item_put f i v vs) ∙ elements_put f (RecordOf t fs) (RecordOf t fs) (λ xs. refl) (with_item i v vs)
stored_seen f (place.Key k) v None = refl
stored_seen f (place.Key k) v (Some (ArrayOf bs vs)) = refl
stored_seen f (place.Key k) v (Some (TableOf es)) = ap (λ xs. Some (TableOf xs)) (entry_put f (key_of k) v es)
stored_seen f (place.Key k) v (Some (RecordOf t fs vs)) = refl

put_seen : {V W : Type 0} (f : V → W) (k : ℕ) (o : Option (Object V)) (os : List (Object V)) → put_at k (option_map (object_map f) o) (map (object_map f) os) ≡ option_map (map (object_map f)) (put_at k o os)
put_seen f k None os = refl
put_seen f k (Some o) os = item_put (object_map f) k o os

-- ---- of the world

pub element_is : (h : WorldView) (io : Io) (k i : ℕ) → fetch_op (Element k i) (world_of h io) ≡ there (option_map value_of (element_of (slice_get h.objects k) i)) (world_of h io)
element_is h io k i =
    ap (λ o. there (element_of o i) (world_of h io)) (slice_get-map (object_map value_of) h.objects k)
    ∙ ap (λ v. there v (world_of h io)) (element_seen value_of (slice_get h.objects k) i)

pub entry_is : (h : WorldView) (io : Io) (k : ℕ) (key : Key) → there (entry_of (Str []) (slice_get (world_of h io).objects k) key) (world_of h io) ≡ there (entry_by (Str []) (option_map kind_of (slice_get h.objects k)) (option_map value_of (value_in key (slice_get h.objects k)))) (world_of h io)
entry_is h io k key =
    ap (λ o. there (entry_of (Str []) o key) (world_of h io)) (slice_get-map (object_map value_of) h.objects k)
    ∙ ap (λ v. there v (world_of h io)) (entry_seen value_of (Str []) (slice_get h.objects k) key)

put_by : (k : ℕ) (o : Option (Object MVal)) (w : MW) → put_object k o w ≡ put_objects (put_at k o w.objects) w
put_by k None w = refl
put_by k (Some o) w = refl

pub store_is : (h : WorldView) (io : Io) (k : ℕ) (p : ElementPlace) (v : Value)
    → put_object k (stored_at p (value_of v) (slice_get (world_of h io).objects k)) (world_of h io) ≡ put_objects (option_map (map (object_map value_of)) (put_at k (stored_at p v (slice_get h.objects k)) h.objects)) (world_of h io)
store_is h io k p v =
    let w : MW = world_of h io in
    put_by k (stored_at p (value_of v) (slice_get w.objects k)) w
    ∙ ap (λ o. put_objects (put_at k (stored_at p (value_of v) o) w.objects) w) (slice_get-map (object_map value_of) h.objects k)
    ∙ ap (λ o. put_objects (put_at k o w.objects) w) (stored_seen value_of p v (slice_get h.objects k))
    ∙ ap (λ os. put_objects os w) (put_seen value_of k (stored_at p v (slice_get h.objects k)) h.objects)

-- a table's value for a key, as it was got
pub entry_got : (h : WorldView) (os : List (Object Value)) (io : Io) (k : ℕ) (key : Key) (kd : Option ObjectKind) (got : Option (Bor Value)) (v : MVal)
    → os ≡ h.objects → kd ≡ option_map kind_of (slice_get os k) → kd ≡ Some kind.Table → option_copied got ≡ value_in key (slice_get os k) → v ≡ unwrap_or (option_map value_of (option_copied got)) (Str [])
    → there (entry_of (Str []) (slice_get (world_of h io).objects k) key) (world_of h io) ≡ Gives v (world_of h io)
entry_got h os io k key kd got v same by table is e =
    let w : MW = world_of h io in
    entry_is h io k key
    ∙ ap (λ xs. there (entry_by (Str []) (option_map kind_of (slice_get xs k)) (option_map value_of (value_in key (slice_get xs k)))) w) (sym same)
    ∙ ap (λ x. there (entry_by (Str []) x (option_map value_of (value_in key (slice_get os k)))) w) (sym by ∙ table)
    ∙ ap (λ x. there (entry_by (Str []) (Some kind.Table) (option_map value_of x)) w) (sym is)
    ∙ ap (λ x. Gives x w) (sym e)

module _ (vs : List (Bytes × Variable)) (os new : List (Object Value)) (fs : Functions) (ks : Keys) (lv : Level) (ns : List Bytes) (h : WorldView) (io : Io) (k : ℕ) (p : ElementPlace) (v : Value) (b : Bool)
    (is : record { variables = vs; objects = os; functions = fs; keys = ks; level = lv; names = ns } ≡ h) (at : if_stored b new ≡ put_at k (stored_at p v (slice_get os k)) os) where
  storing : put_object k (stored_at p (value_of v) (slice_get (world_of h io).objects k)) (world_of h io) ≡ put_objects (option_map (map (object_map value_of)) (if_stored b new)) (world_of (record { variables = vs; objects = os; functions = fs; keys = ks; level = lv; names = ns }) io)
  storing =
      ap (λ z. put_object k (stored_at p (value_of v) (slice_get (world_of z io).objects k)) (world_of z io)) (sym is)
      ∙ store_is (record { variables = vs; objects = os; functions = fs; keys = ks; level = lv; names = ns }) io k p v
      ∙ ap (λ o. put_objects (option_map (map (object_map value_of)) o) (world_of (record { variables = vs; objects = os; functions = fs; keys = ks; level = lv; names = ns }) io)) (sym at)

  pub was_stored : b ≡ true → put_object k (stored_at p (value_of v) (slice_get (world_of h io).objects k)) (world_of h io) ≡ Gives (record {}) (world_of (record { variables = vs; objects = new; functions = fs; keys = ks; level = lv; names = ns }) io)
  was_stored q = storing ∙ ap (λ x. put_objects (option_map (map (object_map value_of)) (if_stored x new)) (world_of (record { variables = vs; objects = os; functions = fs; keys = ks; level = lv; names = ns }) io)) q

  pub not_stored : b ≡ false → new ≡ os → put_object k (stored_at p (value_of v) (slice_get (world_of h io).objects k)) (world_of h io) ≡ Faults error.WrongType (world_of (record { variables = vs; objects = new; functions = fs; keys = ks; level = lv; names = ns }) io)
  not_stored q same =
      storing
      ∙ ap (λ x. put_objects (option_map (map (object_map value_of)) (if_stored x new)) (world_of (record { variables = vs; objects = os; functions = fs; keys = ks; level = lv; names = ns }) io)) q
      ∙ ap (λ xs. Faults error.WrongType (world_of (record { variables = vs; objects = xs; functions = fs; keys = ks; level = lv; names = ns }) io)) (sym same)

-- ---- types

-- the name of an object's type, by what the object is
abbrev pub type_by : Option Bytes → Option ObjectKind → Bytes
type_by (Some t) k = t
type_by None (Some kind.Table) = codes "TABLE"
type_by None _ = codes "ARRAY"

by_type : (o : Option (Object Value)) → object_type (option_map (object_map value_of) o) ≡ type_by (record_type o) (option_map kind_of o)
by_type None = refl
by_type (Some (ArrayOf bs vs)) = refl
by_type (Some (TableOf es)) = refl
by_type (Some (RecordOf t fs vs)) = refl

pub type_is : (h : WorldView) (os : List (Object Value)) (io : Io) (k : ℕ) (t : Option Bytes) (kd : Option ObjectKind) → os ≡ h.objects → t ≡ record_type (slice_get os k) → kd ≡ option_map kind_of (slice_get os k)
    → type_by t kd ≡ type_of (world_of h io) (Obj k)
type_is h os io k t kd same named by =
    ap (λ z. type_by z kd) named
    ∙ ap (type_by (record_type (slice_get os k))) by
    ∙ sym (by_type (slice_get os k))
    ∙ ap (λ z. object_type (option_map (object_map value_of) (slice_get z k))) same
    ∙ ap object_type (sym (slice_get-map (object_map value_of) h.objects k))
