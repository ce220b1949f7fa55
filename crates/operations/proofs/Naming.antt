-- Names of elements.
use Rattle.std.proofs.Common.{◌≡◌, ◌≢◌, ℕ, ℤ, ◌<◌, ◌≤◌, ◌+◌, suc, List, [], ◌∷◌, ◌++◌, length, map, take, drop, get_or, Option, Some, None, Bool, true, false, nat_eq, Ok, append_assoc, drop-cons, refl, sym, ap, ◌∙◌, arith}
use Rattle.std.specs.Prelude.{slice_get, slice_set, option_map, if◌then◌else◌, int_le, int_lt, pos, ◌+ℤ◌, ◌-ℤ◌, ◌*◌, nat_abs, ◌&&◌, IfSome}
use Rattle.std.proofs.lemmas.Option.{slice_get-map}
use Rattle.std.proofs.lemmas.List.{take_more_set}
use Rattle.model.specs.declared.run.ErrorCode.{ErrorCode}
use Rattle.model.specs.declared.run.ErrorCode.TheVariants as error
use Rattle.model.specs.Language.Io.{Io}
use Rattle.model.specs.Deck.Target.{Name, Element}
use Rattle.model.specs.Language.Values.{Obj, Int, Bounds, Object, ArrayOf, TableOf, RecordOf}
use Rattle.model.specs.Language.Conversions.{Conv, Got, Bad, Op, Gives, Refuses, Faults, conv, then_conv, to_integer}
use Rattle.model.specs.Language.Aggregates.{all_integers, place_from, named_element, table_element, element_in, element_op}
use Rattle.model.specs.Machine.Steps.{MVal, MW}
use Rattle.aggregates.specs.Made.{kind_of}
use Rattle.heap.specs.Objects.{dimensions_in, place_in}
use Rattle.aggregates.specs.declared.object.ObjectKind.{ObjectKind}
use Rattle.aggregates.specs.declared.object.ObjectKind.TheVariants as kind
use Rattle.values.specs.Values.{value_of}
use Rattle.world.specs.Objects.{object_map, item_at}
use Rattle.world.specs.Held.{WorldView, world_of}
use Rattle.values.specs.Answers.{AnswersOrFails}
use Rattle.values.specs.declared.value.Value.{Value}
use Rattle.values.specs.declared.value.Value.TheVariants.{Integer}

-- ---- integers

-- integers, with others before them
abbrev pub with_front : List ℤ → Conv (List ℤ) → Conv (List ℤ)
with_front xs c = then_conv c (λ ys. Got (xs ++ ys))

pub front_of_none : (c : Conv (List ℤ)) → with_front [] c ≡ c
front_of_none (Got ys) = refl
front_of_none (Bad e) = refl

more_front : (xs : List ℤ) (z : ℤ) (c : Conv (List ℤ)) → with_front xs (then_conv c (λ zs. Got (z ∷ zs))) ≡ with_front (xs ++ z ∷ []) c
more_front xs z (Got zs) = ap Got (sym (append_assoc xs (z ∷ []) zs))
more_front xs z (Bad e) = refl

-- one more value
pub front_next : (xs : List ℤ) (z : ℤ) (v : MVal) (vs : List MVal) → to_integer v ≡ Got z → with_front xs (all_integers (v ∷ vs)) ≡ with_front (xs ++ z ∷ []) (all_integers vs)
front_next xs z v vs is = ap (λ c. with_front xs (then_conv c (λ y. then_conv (all_integers vs) (λ zs. Got (y ∷ zs))))) is ∙ more_front xs z (all_integers vs)

-- one that is no integer
pub front_none : (xs : List ℤ) (e : ErrorCode) (v : MVal) (vs : List MVal) → to_integer v ≡ Bad e → with_front xs (all_integers (v ∷ vs)) ≡ Bad e
front_none xs e v vs is = ap (λ c. with_front xs (then_conv c (λ y. then_conv (all_integers vs) (λ zs. Got (y ∷ zs))))) is

-- one more value was put
pub integer_put : (values : List Value) (integers : List ℤ) (k : ℕ) (z z' : ℤ) (v : Value) (all : Conv (List ℤ)) → k < length values → length values ≤ length integers → v ≡ get_or values k v → z' ≡ z → to_integer (value_of v) ≡ Got z
    → with_front (take k integers) (all_integers (map value_of (drop k values))) ≡ all
    → with_front (take (k + 1) (slice_set integers k z')) (all_integers (map value_of (drop (k + 1) values))) ≡ all
integer_put values integers k z z' v all lt room is same int h =
    ap (λ y. with_front (take (k + 1) (slice_set integers k y)) (all_integers (map value_of (drop (k + 1) values)))) same
    ∙ ap (λ xs. with_front xs (all_integers (map value_of (drop (k + 1) values)))) (take_more_set integers k z (omega arith))
    ∙ sym (front_next (take k integers) z (value_of v) (map value_of (drop (k + 1) values)) int)
    ∙ ap (λ vs. with_front (take k integers) (all_integers (map value_of vs))) (sym opened)
    ∙ h
  where
    next : suc k ≡ k + 1
    next = omega arith

    opened : drop k values ≡ v ∷ drop (k + 1) values
    opened = drop-cons values k v lt ∙ ap (λ x. x ∷ drop (suc k) values) (sym is) ∙ ap (λ n. v ∷ drop n values) next

-- ---- an array's element

module _ (k : ℕ) (bs : List Bounds) (vs : List MVal) where
  abbrev item_by : Bool → Conv (List ℤ) → Conv (Option Name)
  item_by b c = if b then then_conv c (λ zs. Got (option_map (Element k) (place_from 0 bs zs))) else Bad error.BadArray

  pub other_count : (o : Option (Object Value)) (es : List Value) (d n : ℕ) → o ≡ Some (ArrayOf bs es) → d ≡ dimensions_in o → n ≡ length vs → (d ≡ n → ⊥) → Bad error.BadArray ≡ item_at k bs vs
  other_count o es d n is by count other = go (nat_eq (length vs) (length bs)) refl
    where
      go : (b : Bool) → nat_eq (length vs) (length bs) ≡ b → Bad error.BadArray ≡ item_by b (all_integers vs)
      go true q = let same : length vs ≡ length bs = grind (arith, q) in absurd (other (by ∙ ap dimensions_in is ∙ sym same ∙ sym count))
      go false q = refl

  pub same_count : (o : Option (Object Value)) (es : List Value) (d n : ℕ) (c : Conv (List ℤ)) → o ≡ Some (ArrayOf bs es) → d ≡ dimensions_in o → n ≡ length vs → d ≡ n → all_integers vs ≡ c → item_by true c ≡ item_at k bs vs
  same_count o es d n c is by count same given = sym (ap (item_by true) given) ∙ go (nat_eq (length vs) (length bs)) refl
    where
      go : (b : Bool) → nat_eq (length vs) (length bs) ≡ b → item_by true (all_integers vs) ≡ item_by b (all_integers vs)
      go true q = refl
      go false q = let equal : length vs ≡ length bs = sym count ∙ sym same ∙ by ∙ ap dimensions_in is in absurd (grind (arith, q, equal))

-- what the name comes to
abbrev named : Conv (Option Name) → MW → Op MW Name
named (Got (Some n)) w = Gives n w
named (Got None) w = Refuses w
named (Bad e) w = Faults e w

item_is : (k : ℕ) (bs : List Bounds) (es vs : List MVal) (w : MW) → element_in k (Some (ArrayOf bs es)) vs w ≡ named (item_at k bs vs) w
item_is k bs es vs w = by (nat_eq (length vs) (length bs)) (all_integers vs)
  where
    place : (i : Option ℕ) → named_element k i w ≡ named (Got (option_map (Element k) i)) w
    place None = refl
    place (Some i) = refl

    by : (b : Bool) (c : Conv (List ℤ)) → (if b then conv c w (λ zs. named_element k (place_from 0 bs zs) w) else Faults error.BadArray w) ≡ named (item_by k bs vs b c) w
    by false c = refl
    by true (Bad e) = refl
    by true (Got zs) = place (place_from 0 bs zs)

pub is_array : (o : Option (Object Value)) → option_map kind_of o ≡ Some kind.Array → (bs : List Bounds) × (es : List Value) × (o ≡ Some (ArrayOf bs es))
is_array None e = absurd (cc)
is_array (Some (ArrayOf bs es)) e = (bs, es, refl)
is_array (Some (TableOf es)) e = absurd (cc)
is_array (Some (RecordOf t fs vs)) e = absurd (cc)

module _ (h : WorldView) (os : List (Object Value)) (io : Io) (k : ℕ) (vs : List MVal) (same : os ≡ h.objects) where
  -- the object that is asked
  asked : element_op (Obj k) vs (world_of h io) ≡ element_in k (option_map (object_map value_of) (slice_get os k)) vs (world_of h io)
  asked = ap (λ o. element_in k o vs (world_of h io)) (slice_get-map (object_map value_of) h.objects k ∙ ap (λ xs. option_map (object_map value_of) (slice_get xs k)) (sym same))

  -- in an array
  pub in_array : (kd : Option ObjectKind) (r : Conv (Option Name)) → kd ≡ option_map kind_of (slice_get os k) → kd ≡ Some kind.Array
      → ((bs : List Bounds) (es : List Value) → slice_get h.objects k ≡ Some (ArrayOf bs es) → r ≡ item_at k bs vs)
      → element_op (Obj k) vs (world_of h io) ≡ named r (world_of h io)
  in_array kd r by array given =
      let a = is_array (slice_get os k) (sym by ∙ array) in
      asked
      ∙ ap (λ o. element_in k (option_map (object_map value_of) o) vs (world_of h io)) a.2
      ∙ item_is k a.0 (map value_of a.1) vs (world_of h io)
      ∙ ap (λ c. named c (world_of h io)) (sym (given a.0 a.1 (ap (λ xs. slice_get xs k) (sym same) ∙ a.2)))

  pub item_named : (kd : Option ObjectKind) (o : Option Name) → kd ≡ option_map kind_of (slice_get os k) → kd ≡ Some kind.Array
      → ((bs : List Bounds) (es : List Value) → slice_get h.objects k ≡ Some (ArrayOf bs es) → Got o ≡ item_at k bs vs)
      → AnswersOrFails (Ok o) (world_of h io) (element_op (Obj k) vs (world_of h io))
  item_named kd None by array given = in_array kd (Got None) by array given
  item_named kd (Some n) by array given = in_array kd (Got (Some n)) by array given

  -- in a table
  pub in_table : (kd : Option ObjectKind) → kd ≡ option_map kind_of (slice_get os k) → kd ≡ Some kind.Table → element_op (Obj k) vs (world_of h io) ≡ table_element k vs (world_of h io)
  in_table kd by table = asked ∙ go (slice_get os k) (sym by ∙ table)
    where
      go : (o : Option (Object Value)) → option_map kind_of o ≡ Some kind.Table → element_in k (option_map (object_map value_of) o) vs (world_of h io) ≡ table_element k vs (world_of h io)
      go None e = absurd (cc)
      go (Some (ArrayOf bs es)) e = absurd (cc)
      go (Some (TableOf es)) e = refl
      go (Some (RecordOf t fs es)) e = absurd (cc)

  -- elsewhere
  pub in_no_table : (kd : Option ObjectKind) → kd ≡ option_map kind_of (slice_get os k) → kd ≢ Some kind.Array → kd ≢ Some kind.Table → element_op (Obj k) vs (world_of h io) ≡ Faults error.WrongType (world_of h io)
  in_no_table kd by array table = asked ∙ go (slice_get os k) (λ e. array (by ∙ e)) (λ e. table (by ∙ e))
    where
      go : (o : Option (Object Value)) → option_map kind_of o ≢ Some kind.Array → option_map kind_of o ≢ Some kind.Table → element_in k (option_map (object_map value_of) o) vs (world_of h io) ≡ Faults error.WrongType (world_of h io)
      go None a t = refl
      go (Some (ArrayOf bs es)) a t = absurd (a refl)
      go (Some (TableOf es)) a t = absurd (t refl)
      go (Some (RecordOf f fs es)) a t = refl

-- as many subscripts have a place as there are dimensions
as_many : (j : ℕ) (bs : List Bounds) (zs : List ℤ) (i : ℕ) → place_from j bs zs ≡ Some i → length bs ≡ length zs
as_many j [] [] i e = refl
as_many j [] (z ∷ zs) i e = absurd (cc)
as_many j (b ∷ bs) [] i e = absurd (cc)
as_many j (b ∷ bs) (z ∷ zs) i e = by (int_le b.low z && int_lt z (b.low +ℤ pos b.count)) (as_many (j * b.count + nat_abs (z -ℤ b.low)) bs zs i) e
  where
    by : (t : Bool) → (place_from (j * b.count + nat_abs (z -ℤ b.low)) bs zs ≡ Some i → length bs ≡ length zs) → (if t then place_from (j * b.count + nat_abs (z -ℤ b.low)) bs zs else None) ≡ Some i → length (b ∷ bs) ≡ length (z ∷ zs)
    by true others e = ap suc (others e)
    by false others e = absurd (cc)

-- values convert to as many integers
converted_many : (vs : List MVal) (zs : List ℤ) → all_integers vs ≡ Got zs → length vs ≡ length zs
converted_many [] zs e = let same : [] ≡ zs = cc in ap length same
converted_many (v ∷ vs) zs e = go (to_integer v) (all_integers vs) (converted_many vs) refl e
  where
    go : (c : Conv ℤ) (d : Conv (List ℤ)) → ((ys : List ℤ) → all_integers vs ≡ Got ys → length vs ≡ length ys) → all_integers vs ≡ d → then_conv c (λ y. then_conv d (λ ys. Got (y ∷ ys))) ≡ Got zs → length (v ∷ vs) ≡ length zs
    go (Bad x) d others q e = absurd (cc)
    go (Got y) (Bad x) others q e = absurd (cc)
    go (Got y) (Got ys) others q e = let same : y ∷ ys ≡ zs = cc in ap suc (others ys q) ∙ ap length same

-- an element that has a place by what its subscripts convert to
pub placed_by : (h : WorldView) (os : List (Object Value)) (io : Io) (k : ℕ) (same : os ≡ h.objects) (zs : List ℤ) (vs : List MVal) (i : ℕ) → all_integers vs ≡ Got zs → place_in zs (slice_get os k) ≡ Some i → element_op (Obj k) vs (world_of h io) ≡ Gives (Element k i) (world_of h io)
placed_by h os io k same zs vs i all e = asked h os io k vs same ∙ go (slice_get os k) e
  where
    of_bounds : (bs : List Bounds) (es : List MVal) → place_from 0 bs zs ≡ Some i → element_in k (Some (ArrayOf bs es)) vs (world_of h io) ≡ Gives (Element k i) (world_of h io)
    of_bounds bs es e =
        let long : length vs ≡ length bs = converted_many vs zs all ∙ sym (as_many 0 bs zs i e) in
        let is : nat_eq (length vs) (length bs) ≡ true = grind (arith, long) in
        ap (λ b. if b then conv (all_integers vs) (world_of h io) (λ ys. named_element k (place_from 0 bs ys) (world_of h io)) else Faults error.BadArray (world_of h io)) is
        ∙ ap (λ c. conv c (world_of h io) (λ ys. named_element k (place_from 0 bs ys) (world_of h io))) all
        ∙ ap (λ place. named_element k place (world_of h io)) e

    go : (o : Option (Object Value)) → place_in zs o ≡ Some i → element_in k (option_map (object_map value_of) o) vs (world_of h io) ≡ Gives (Element k i) (world_of h io)
    go None e = absurd (cc)
    go (Some (ArrayOf bs es)) e = of_bounds bs (map value_of es) e
    go (Some (TableOf es)) e = absurd (cc)
    go (Some (RecordOf f fs es)) e = absurd (cc)

-- so has each list of values that converts to them
pub placed_for : (h : WorldView) (os : List (Object Value)) (k : ℕ) (same : os ≡ h.objects) (zs : List ℤ) (r : Option ℕ) → r ≡ place_in zs (slice_get os k)
    → IfSome r (λ i. (vs : List MVal) → all_integers vs ≡ Got zs → (io : Io) → element_op (Obj k) vs (world_of h io) ≡ Gives (Element k i) (world_of h io))
placed_for h os k same zs None e = tt
placed_for h os k same zs (Some i) e = λ vs all io. placed_by h os io k same zs vs i all (sym e)

-- an element that has a place by its only subscript
pub placed_item : (h : WorldView) (os : List (Object Value)) (io : Io) (k : ℕ) (same : os ≡ h.objects) (z : ℤ) (i : ℕ) → place_in (z ∷ []) (slice_get os k) ≡ Some i → element_op (Obj k) (Int z ∷ []) (world_of h io) ≡ Gives (Element k i) (world_of h io)
placed_item h os io k same z i e = placed_by h os io k same (z ∷ []) (Int z ∷ []) i refl e

-- the only subscript is this integer
pub only_integer : (vs : List Value) (v : Value) (z : ℤ) → 1 ≤ length vs → length vs < 2 → v ≡ get_or vs 0 v → v ≡ Integer z → map value_of vs ≡ Int z ∷ []
only_integer [] v z some few is e = absurd (omega (arith, some))
only_integer (x ∷ []) v z some few is e = ap (λ y. value_of y ∷ []) (sym is ∙ e)
only_integer (x ∷ y ∷ ys) v z some few is e = absurd (omega (arith, few))

-- an array's element has the place by its only subscript, if it has one
pub placed_value : (h : WorldView) (os : List (Object Value)) (k : ℕ) (same : os ≡ h.objects) (vs : List Value) (z z' : ℤ) → map value_of vs ≡ Int z ∷ [] → z' ≡ z → (r : Option ℕ) → r ≡ place_in (z' ∷ []) (slice_get os k)
    → IfSome r (λ i. (io : Io) → element_op (Obj k) (map value_of vs) (world_of h io) ≡ Gives (Element k i) (world_of h io))
placed_value h os k same vs z z' one number None e = tt
placed_value h os k same vs z z' one number (Some i) e =
    λ io. ap (λ l. element_op (Obj k) l (world_of h io)) one ∙ placed_item h os io k same z i (ap (λ y. place_in (y ∷ []) (slice_get os k)) (sym number) ∙ sym e)
