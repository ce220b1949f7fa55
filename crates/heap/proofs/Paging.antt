-- Items by numbers, in pages of so many.
use Rattle.std.proofs.Common.{◌≡◌, ℕ, zero, suc, ◌+◌, ◌*◌, ◌/◌, ◌%◌, ◌<◌, ◌≤◌, List, [], ◌∷◌, ◌++◌, length, Option, Some, None, Bool, true, false, refl, sym, ap, ◌∙◌, arith, append_assoc, append-nil, option_map}
use Rattle.std.specs.Prelude.{slice_get, slice_set, slice_index_or, take, replicate}
use Rattle.std.proofs.lemmas.List.{length-set, length-take-le, take-append-le, replicate-append-replicate}
use Rattle.std.proofs.lemmas.Option.{none-some, slice_get_within, get_or_from_slice_get}
use Rattle.model.specs.Language.Operators.{with_element, with_item, onto}
use Rattle.model.specs.Language.Values.{Key, Object}
use Rattle.model.specs.Machine.Living.{no_object}
use Rattle.heap.specs.Marked.{marked_by}
use Rattle.aggregates.specs.Objects.{if_stored, index_in}
use Rattle.heap.specs.Objects.{put_at}
use Rattle.heap.specs.Paged.{padded, paged}

some_is : {B : Type 0} (x y : B) → Some x ≡ Some y → x ≡ y
some_is x y e = cc

-- ---- lists one after the other

module _ {A : Type 0} where
  pub append_long : (xs ys : List A) → length (xs ++ ys) ≡ length xs + length ys
  append_long [] ys = omega arith
  append_long (x ∷ xs) ys = let e = append_long xs ys in omega (arith, e)

  pub get_before : (xs ys : List A) (j : ℕ) → j < length xs → slice_get (xs ++ ys) j ≡ slice_get xs j
  get_before [] ys j lt = absurd (omega arith)
  get_before (x ∷ xs) ys zero lt = refl
  get_before (x ∷ xs) ys (suc j) lt = get_before xs ys j (omega arith)

  pub get_behind : (xs ys : List A) (k j : ℕ) → k ≡ length xs + j → slice_get (xs ++ ys) k ≡ slice_get ys j
  get_behind [] ys k j e = let same : k ≡ j = omega (arith, e) in ap (slice_get ys) same
  get_behind (x ∷ xs) ys zero j e = absurd (omega (arith, e))
  get_behind (x ∷ xs) ys (suc k) j e = get_behind xs ys k j (omega (arith, e))

  put_before : (xs ys : List A) (j : ℕ) (o : A) → j < length xs → with_item j o (xs ++ ys) ≡ option_map (λ zs. zs ++ ys) (with_item j o xs)
  put_before [] ys j o lt = absurd (omega arith)
  put_before (x ∷ xs) ys zero o lt = refl
  put_before (x ∷ xs) ys (suc j) o lt = ap (onto x) (put_before xs ys j o (omega arith)) ∙ by (with_item j o xs)
    where
      by : (r : Option (List A)) → onto x (option_map (λ zs. zs ++ ys) r) ≡ option_map (λ zs. zs ++ ys) (onto x r)
      by None = refl
      by (Some r) = refl

  put_behind : (xs ys : List A) (k j : ℕ) (o : A) → k ≡ length xs + j → with_item k o (xs ++ ys) ≡ option_map (λ zs. xs ++ zs) (with_item j o ys)
  put_behind [] ys k j o e = let same : k ≡ j = omega (arith, e) in ap (λ n. with_item n o ys) same ∙ by (with_item j o ys)
    where
      by : (r : Option (List A)) → r ≡ option_map (λ zs. [] ++ zs) r
      by None = refl
      by (Some r) = refl
  put_behind (x ∷ xs) ys zero j o e = absurd (omega (arith, e))
  put_behind (x ∷ xs) ys (suc k) j o e = ap (onto x) (put_behind xs ys k j o (omega (arith, e))) ∙ by (with_item j o ys)
    where
      by : (r : Option (List A)) → onto x (option_map (λ zs. xs ++ zs) r) ≡ option_map (λ zs. (x ∷ xs) ++ zs) r
      by None = refl
      by (Some r) = refl

  set_before : (xs ys : List A) (j : ℕ) (v : A) → j < length xs → slice_set (xs ++ ys) j v ≡ slice_set xs j v ++ ys
  set_before [] ys j v lt = absurd (omega arith)
  set_before (x ∷ xs) ys zero v lt = refl
  set_before (x ∷ xs) ys (suc j) v lt = ap (λ zs. x ∷ zs) (set_before xs ys j v (omega arith))

  set_behind : (xs ys : List A) (k j : ℕ) (v : A) → k ≡ length xs + j → slice_set (xs ++ ys) k v ≡ xs ++ slice_set ys j v
  set_behind [] ys k j v e = let same : k ≡ j = omega (arith, e) in ap (λ n. slice_set ys n v) same
  set_behind (x ∷ xs) ys zero j v e = absurd (omega (arith, e))
  set_behind (x ∷ xs) ys (suc k) j v e = ap (λ zs. x ∷ zs) (set_behind xs ys k j v (omega (arith, e)))

  pub index_past : (xs : List A) (k : ℕ) (d : A) → length xs ≤ k → slice_index_or xs k d ≡ d
  index_past [] k d le = refl
  index_past (x ∷ xs) zero d le = absurd (omega arith)
  index_past (x ∷ xs) (suc k) d le = index_past xs k d (omega arith)

  pub set_here : (xs : List A) (k : ℕ) (x d : A) → k < length xs → slice_index_or (slice_set xs k x) k d ≡ x
  set_here [] k x d lt = absurd (omega arith)
  set_here (y ∷ xs) zero x d lt = refl
  set_here (y ∷ xs) (suc k) x d lt = set_here xs k x d (omega arith)

-- ---- the first items of a list

module _ {A : Type 0} where
  pub taken_at : (c k : ℕ) (xs : List A) → k < c → slice_get (take c xs) k ≡ slice_get xs k
  taken_at zero k xs lt = absurd (omega arith)
  taken_at (suc c) k [] lt = refl
  taken_at (suc c) zero (x ∷ xs) lt = refl
  taken_at (suc c) (suc k) (x ∷ xs) lt = taken_at c k xs (omega arith)

  pub taken_past : (c k : ℕ) (xs : List A) → c ≤ k → slice_get (take c xs) k ≡ None
  taken_past zero k xs le = refl
  taken_past (suc c) k [] le = refl
  taken_past (suc c) zero (x ∷ xs) le = absurd (omega arith)
  taken_past (suc c) (suc k) (x ∷ xs) le = taken_past c k xs (omega arith)

  pub taken_set : (c k : ℕ) (v : A) (xs : List A) → take c (slice_set xs k v) ≡ slice_set (take c xs) k v
  taken_set zero k v xs = refl
  taken_set (suc c) k v [] = refl
  taken_set (suc c) zero v (x ∷ xs) = refl
  taken_set (suc c) (suc k) v (x ∷ xs) = ap (λ ys. x ∷ ys) (taken_set c k v xs)

  -- one more of them, which stands at its end
  pub taken_more : (c : ℕ) (v : A) (xs : List A) → c < length xs → take (suc c) (slice_set xs c v) ≡ take c xs ++ v ∷ []
  taken_more c v [] lt = absurd (omega arith)
  taken_more zero v (x ∷ xs) lt = refl
  taken_more (suc c) v (x ∷ xs) lt = ap (λ ys. x ∷ ys) (taken_more c v xs (omega arith))

  taken_put : (c k : ℕ) (o : A) (xs ys : List A) → k < c → with_item k o xs ≡ Some ys → with_item k o (take c xs) ≡ Some (take c ys)
  taken_put zero k o xs ys lt e = absurd (omega arith)
  taken_put (suc c) k o [] ys lt e = absurd (none-some _ e)
  taken_put (suc c) zero o (x ∷ xs) ys lt e = ap (λ r. Some (take (suc c) r)) (some_is (o ∷ xs) ys e)
  taken_put (suc c) (suc k) o (x ∷ xs) ys lt e = by (with_item k o xs) refl e (λ r is. taken_put c k o xs r (omega arith) is)
    where
      by : (r : Option (List A)) → with_item k o xs ≡ r → onto x r ≡ Some ys → ((r : List A) → with_item k o xs ≡ Some r → with_item k o (take c xs) ≡ Some (take c r)) → with_item (suc k) o (take (suc c) (x ∷ xs)) ≡ Some (take (suc c) ys)
      by None is f rest = absurd (none-some _ f)
      by (Some r) is f rest = ap (onto x) (rest r is) ∙ ap (λ s. Some (take (suc c) s)) (some_is (x ∷ r) ys f)

  taken_none : (c k : ℕ) (o : A) (xs : List A) → None ≡ with_item k o xs → None ≡ with_item k o (take c xs)
  taken_none zero k o xs e = refl
  taken_none (suc c) k o [] e = refl
  taken_none (suc c) zero o (x ∷ xs) e = absurd (none-some _ e)
  taken_none (suc c) (suc k) o (x ∷ xs) e = by (with_item k o xs) refl e (λ is. taken_none c k o xs is)
    where
      by : (r : Option (List A)) → with_item k o xs ≡ r → None ≡ onto x r → (None ≡ with_item k o xs → None ≡ with_item k o (take c xs)) → None ≡ onto x (with_item k o (take c xs))
      by None is f rest = ap (onto x) (rest (sym is))
      by (Some r) is f rest = absurd (none-some _ f)

-- ---- what is stored in one of two lists, is stored in both

module _ {V : Type 0} where
  -- what is stored stays so where no more than the one object is another
  stored_on : (b : Bool) (j k : ℕ) (p q os now : List (Object V)) (r : Option (Object V)) → ((o : Object V) → None ≡ with_item j o p → None ≡ with_item k o os) → ((o : Object V) → with_item j o p ≡ Some q → with_item k o os ≡ Some now)
      → if_stored b q ≡ put_at j r p → if_stored b now ≡ put_at k r os
  stored_on false j k p q os now None none some e = refl
  stored_on false j k p q os now (Some o) none some e = none o e
  stored_on true j k p q os now None none some e = absurd (none-some _ (sym e))
  stored_on true j k p q os now (Some o) none some e = sym (some o (sym e))

  pub stored_in_taken : (c k : ℕ) (b : Bool) (os now : List (Object V)) (f : Option (Object V) → Option (Object V)) → k < c → if_stored b now ≡ put_at k (f (slice_get os k)) os
      → if_stored b (take c now) ≡ put_at k (f (slice_get (take c os) k)) (take c os)
  stored_in_taken c k b os now f lt e =
      stored_on b k k os now (take c os) (take c now) (f (slice_get os k)) (λ o h. taken_none c k o os h) (λ o h. taken_put c k o os now lt h) e
      ∙ ap (λ o. put_at k (f o) (take c os)) (sym (taken_at c k os lt))

  -- in a list before others, and behind others
  pub stored_before : (xs ys q : List (Object V)) (j : ℕ) (b : Bool) (f : Option (Object V) → Option (Object V)) → j < length xs → if_stored b q ≡ put_at j (f (slice_get xs j)) xs
      → if_stored b (q ++ ys) ≡ put_at j (f (slice_get (xs ++ ys) j)) (xs ++ ys)
  stored_before xs ys q j b f lt e =
      stored_on b j j xs q (xs ++ ys) (q ++ ys) (f (slice_get xs j)) (λ o h. ap (option_map (λ zs. zs ++ ys)) h ∙ sym (put_before xs ys j o lt)) (λ o h. put_before xs ys j o lt ∙ ap (option_map (λ zs. zs ++ ys)) h) e
      ∙ ap (λ o. put_at j (f o) (xs ++ ys)) (sym (get_before xs ys j lt))

  pub stored_behind : (xs ys q : List (Object V)) (k j : ℕ) (b : Bool) (f : Option (Object V) → Option (Object V)) → k ≡ length xs + j → if_stored b q ≡ put_at j (f (slice_get ys j)) ys
      → if_stored b (xs ++ q) ≡ put_at k (f (slice_get (xs ++ ys) k)) (xs ++ ys)
  stored_behind xs ys q k j b f is e =
      stored_on b j k ys q (xs ++ ys) (xs ++ q) (f (slice_get ys j)) (λ o h. ap (option_map (λ zs. xs ++ zs)) h ∙ sym (put_behind xs ys k j o is)) (λ o h. put_behind xs ys k j o is ∙ ap (option_map (λ zs. xs ++ zs)) h) e
      ∙ ap (λ o. put_at k (f o) (xs ++ ys)) (sym (get_behind xs ys k j is))

-- ---- a page

module _ {A : Type 0} (d : A) where
  pub padded_long : (n : ℕ) (p : List A) → length (padded d n p) ≡ n
  padded_long zero p = refl
  padded_long (suc n) [] = ap suc (padded_long n [])
  padded_long (suc n) (x ∷ p) = ap suc (padded_long n p)

  pub padded_at : (n j : ℕ) (p : List A) → j < n → slice_get (padded d n p) j ≡ Some (slice_index_or p j d)
  padded_at zero j p lt = absurd (omega arith)
  padded_at (suc n) zero [] lt = refl
  padded_at (suc n) zero (x ∷ p) lt = refl
  padded_at (suc n) (suc j) [] lt = padded_at n j [] (omega arith)
  padded_at (suc n) (suc j) (x ∷ p) lt = padded_at n j p (omega arith)

  pub padded_there : (n j : ℕ) (p : List A) → j < n → j < length p → slice_get (padded d n p) j ≡ slice_get p j
  padded_there zero j p lt l = absurd (omega arith)
  padded_there (suc n) j [] lt l = absurd (omega arith)
  padded_there (suc n) zero (x ∷ p) lt l = refl
  padded_there (suc n) (suc j) (x ∷ p) lt l = padded_there n j p (omega arith) (omega arith)

  pub padded_past : (n j : ℕ) (p : List A) → j < n → length p ≤ j → slice_get (padded d n p) j ≡ Some d
  padded_past n j p lt le = padded_at n j p lt ∙ ap Some (index_past p j d le)

  pub padded_some : (n j : ℕ) (p : List A) (x : A) → j < n → slice_get p j ≡ Some x → slice_get (padded d n p) j ≡ Some x
  padded_some n j p x lt e = padded_there n j p lt (slice_get_within p j x e) ∙ e

  pub padded_gap : (n j : ℕ) (p : List A) → j < n → slice_get p j ≡ None → slice_get (padded d n p) j ≡ Some d
  padded_gap zero j p lt e = absurd (omega arith)
  padded_gap (suc n) zero [] lt e = refl
  padded_gap (suc n) (suc j) [] lt e = padded_gap n j [] (omega arith) refl
  padded_gap (suc n) zero (x ∷ p) lt e = absurd (none-some _ (sym e))
  padded_gap (suc n) (suc j) (x ∷ p) lt e = padded_gap n j p (omega arith) e

  padded_put : (n j : ℕ) (p q : List A) (o : A) → j < n → with_item j o p ≡ Some q → with_item j o (padded d n p) ≡ Some (padded d n q)
  padded_put zero j p q o lt e = absurd (omega arith)
  padded_put (suc n) j [] q o lt e = absurd (none-some _ e)
  padded_put (suc n) zero (x ∷ p) q o lt e = ap (λ r. Some (padded d (suc n) r)) (some_is (o ∷ p) q e)
  padded_put (suc n) (suc j) (x ∷ p) q o lt e = by (with_item j o p) refl e (λ r is. padded_put n j p r o (omega arith) is)
    where
      by : (r : Option (List A)) → with_item j o p ≡ r → onto x r ≡ Some q → ((r : List A) → with_item j o p ≡ Some r → with_item j o (padded d n p) ≡ Some (padded d n r)) → with_item (suc j) o (padded d (suc n) (x ∷ p)) ≡ Some (padded d (suc n) q)
      by None is f rest = absurd (none-some _ f)
      by (Some r) is f rest = ap (onto x) (rest r is) ∙ ap (λ s. Some (padded d (suc n) s)) (some_is (x ∷ r) q f)

  pub padded_set : (n j : ℕ) (p : List A) (v : A) → j < length p → padded d n (slice_set p j v) ≡ slice_set (padded d n p) j v
  padded_set zero j [] v lt = refl
  padded_set zero j (x ∷ p) v lt = refl
  padded_set (suc n) j [] v lt = absurd (omega arith)
  padded_set (suc n) zero (x ∷ p) v lt = refl
  padded_set (suc n) (suc j) (x ∷ p) v lt = ap (λ xs. x ∷ xs) (padded_set n j p v (omega arith))

  pub padded_more : (n : ℕ) (p : List A) → padded d n (p ++ d ∷ []) ≡ padded d n p
  padded_more zero p = refl
  padded_more (suc n) [] = refl
  padded_more (suc n) (x ∷ p) = ap (λ xs. x ∷ xs) (padded_more n p)

  -- another item behind those that are there
  pub padded_push : (n : ℕ) (p : List A) (v : A) → padded d n (p ++ v ∷ []) ≡ slice_set (padded d n p) (length p) v
  padded_push zero p v = refl
  padded_push (suc n) [] v = refl
  padded_push (suc n) (x ∷ p) v = ap (λ xs. x ∷ xs) (padded_push n p v)

  padded_none : (n j : ℕ) (p : List A) (o : A) → j < length p → None ≡ with_item j o p → None ≡ with_item j o (padded d n p)
  padded_none n j [] o lt e = absurd (omega arith)
  padded_none n zero (x ∷ p) o lt e = absurd (none-some _ e)
  padded_none zero (suc j) (x ∷ p) o lt e = refl
  padded_none (suc n) (suc j) (x ∷ p) o lt e = by (with_item j o p) refl e (λ is. padded_none n j p o (omega arith) is)
    where
      by : (r : Option (List A)) → with_item j o p ≡ r → None ≡ onto x r → (None ≡ with_item j o p → None ≡ with_item j o (padded d n p)) → None ≡ onto x (with_item j o (padded d n p))
      by None is f rest = ap (onto x) (rest (sym is))
      by (Some r) is f rest = absurd (none-some _ f)

pub stored_in_page : {V : Type 0} (d : Object V) (n j : ℕ) (p q : List (Object V)) (b : Bool) (f : Option (Object V) → Option (Object V)) → j < n → j < length p → if_stored b q ≡ put_at j (f (slice_get p j)) p
    → if_stored b (padded d n q) ≡ put_at j (f (slice_get (padded d n p) j)) (padded d n p)
stored_in_page d n j p q b f less lt e =
    stored_on b j j p q (padded d n p) (padded d n q) (f (slice_get p j)) (λ o h. padded_none d n j p o lt h) (λ o h. padded_put d n j p q o less h) e
    ∙ ap (λ o. put_at j (f o) (padded d n p)) (sym (padded_there d n j p less lt))

-- ---- all pages

-- the number of a page's first item
abbrev pub start : ℕ → ℕ → ℕ
start n zero = 0
start n (suc p) = n + start n p

pub start_is : (p : ℕ) → start 512 p ≡ 512 * p
start_is zero = refl
start_is (suc p) = let e = start_is p in omega (arith, e)

module _ {A : Type 0} (d : A) (n : ℕ) where
  pub paged_long : (ps : List (List A)) → length (paged d n ps) ≡ start n (length ps)
  paged_long [] = refl
  paged_long (p ∷ ps) =
      let e = append_long (padded d n p) (paged d n ps) in let f = padded_long d n p in let g = paged_long ps in omega (arith, e, f, g)

  pub paged_more : (ps : List (List A)) (p : List A) → paged d n (ps ++ p ∷ []) ≡ paged d n ps ++ padded d n p
  paged_more [] p = append-nil (padded d n p)
  paged_more (q ∷ ps) p = ap (λ xs. padded d n q ++ xs) (paged_more ps p) ∙ sym (append_assoc (padded d n q) (paged d n ps) (padded d n p))

  -- the item of a page
  pub page_at : (ps : List (List A)) (i j k : ℕ) (p q : List A) → k ≡ start n i + j → j < n → i < length ps → slice_index_or ps i q ≡ p → slice_get (paged d n ps) k ≡ slice_get (padded d n p) j
  page_at [] i j k p q is lt l e = absurd (omega arith)
  page_at (r ∷ ps) zero j k p q is lt l e =
      let long = padded_long d n r in
      let same : k ≡ j = omega (arith, is) in
      ap (slice_get (paged d n (r ∷ ps))) same ∙ get_before (padded d n r) (paged d n ps) j (omega (arith, long, lt)) ∙ ap (λ xs. slice_get (padded d n xs) j) e
  page_at (r ∷ ps) (suc i) j k p q is lt l e =
      let long = padded_long d n r in
      get_behind (padded d n r) (paged d n ps) k (start n i + j) (omega (arith, long, is)) ∙ page_at ps i j (start n i + j) p q refl lt (omega arith) e

  pub page_put : (ps : List (List A)) (i j k : ℕ) (p q r : List A) (o : A) → k ≡ start n i + j → j < n → i < length ps → slice_index_or ps i r ≡ p → with_item j o (padded d n p) ≡ Some (padded d n q)
      → with_item k o (paged d n ps) ≡ Some (paged d n (slice_set ps i q))
  page_put [] i j k p q r o is lt l at e = absurd (omega arith)
  page_put (s ∷ ps) zero j k p q r o is lt l at e =
      let long = padded_long d n s in
      let same : k ≡ j = omega (arith, is) in
      ap (λ m. with_item m o (paged d n (s ∷ ps))) same ∙ put_before (padded d n s) (paged d n ps) j o (omega (arith, long, lt))
      ∙ ap (option_map (λ zs. zs ++ paged d n ps)) (ap (λ xs. with_item j o (padded d n xs)) at ∙ e)
  page_put (s ∷ ps) (suc i) j k p q r o is lt l at e =
      let long = padded_long d n s in
      put_behind (padded d n s) (paged d n ps) k (start n i + j) o (omega (arith, long, is))
      ∙ ap (option_map (λ zs. padded d n s ++ zs)) (page_put ps i j (start n i + j) p q r o refl lt (omega arith) at e)

  page_none : (ps : List (List A)) (i j k : ℕ) (p r : List A) (o : A) → k ≡ start n i + j → j < n → i < length ps → slice_index_or ps i r ≡ p → None ≡ with_item j o (padded d n p) → None ≡ with_item k o (paged d n ps)
  page_none [] i j k p r o is lt l at e = absurd (omega arith)
  page_none (s ∷ ps) zero j k p r o is lt l at e =
      let long = padded_long d n s in
      let same : k ≡ j = omega (arith, is) in
      sym (ap (λ m. with_item m o (paged d n (s ∷ ps))) same ∙ put_before (padded d n s) (paged d n ps) j o (omega (arith, long, lt))
      ∙ ap (option_map (λ zs. zs ++ paged d n ps)) (ap (λ xs. with_item j o (padded d n xs)) at ∙ sym e))
  page_none (s ∷ ps) (suc i) j k p r o is lt l at e =
      let long = padded_long d n s in
      sym (put_behind (padded d n s) (paged d n ps) k (start n i + j) o (omega (arith, long, is))
      ∙ ap (option_map (λ zs. padded d n s ++ zs)) (sym (page_none ps i j (start n i + j) p r o refl lt (omega arith) at e)))

  pub page_same : (ps : List (List A)) (i : ℕ) (p q : List A) → padded d n q ≡ padded d n (slice_index_or ps i p) → paged d n (slice_set ps i q) ≡ paged d n ps
  page_same [] i p q e = refl
  page_same (s ∷ ps) zero p q e = ap (λ xs. xs ++ paged d n ps) e
  page_same (s ∷ ps) (suc i) p q e = ap (λ xs. padded d n s ++ xs) (page_same ps i p q e)

  pub page_set : (ps : List (List A)) (i j k : ℕ) (p q : List A) (v : A) → k ≡ start n i + j → j < n → i < length ps → padded d n q ≡ slice_set (padded d n (slice_index_or ps i p)) j v
      → paged d n (slice_set ps i q) ≡ slice_set (paged d n ps) k v
  page_set [] i j k p q v is lt l e = absurd (omega arith)
  page_set (s ∷ ps) zero j k p q v is lt l e =
      let long = padded_long d n s in
      let same : j ≡ k = omega (arith, is) in
      ap (λ xs. xs ++ paged d n ps) e ∙ sym (set_before (padded d n s) (paged d n ps) j v (omega (arith, long, lt))) ∙ ap (λ m. slice_set (paged d n (s ∷ ps)) m v) same
  page_set (s ∷ ps) (suc i) j k p q v is lt l e =
      let long = padded_long d n s in
      ap (λ xs. padded d n s ++ xs) (page_set ps i j (start n i + j) p q v refl lt (omega arith) e)
      ∙ sym (set_behind (padded d n s) (paged d n ps) k (start n i + j) v (omega (arith, long, is)))

pub stored_in_pages : {V : Type 0} (d : Object V) (n : ℕ) (ps : List (List (Object V))) (i j k : ℕ) (p q r : List (Object V)) (b : Bool) (f : Option (Object V) → Option (Object V))
    → k ≡ start n i + j → j < n → i < length ps → slice_index_or ps i r ≡ p → if_stored b (padded d n q) ≡ put_at j (f (slice_get (padded d n p) j)) (padded d n p)
    → if_stored b (paged d n (slice_set ps i q)) ≡ put_at k (f (slice_get (paged d n ps) k)) (paged d n ps)
stored_in_pages d n ps i j k p q r b f is less there at e =
    stored_on b j k (padded d n p) (padded d n q) (paged d n ps) (paged d n (slice_set ps i q)) (f (slice_get (padded d n p) j))
    (λ o h. page_none d n ps i j k p r o is less there at h) (λ o h. page_put d n ps i j k p q r o is less there at h) e
    ∙ ap (λ o. put_at k (f o) (paged d n ps)) (sym (page_at d n ps i j k p r is less there at))

-- ---- so many items in pages, by their numbers

pub number_is : (k : ℕ) → k ≡ start 512 (k / 512) + k % 512
number_is k = let s = start_is (k / 512) in omega (arith, s)

module _ {A : Type 0} (d : A) where
  pub all_long : (ps : List (List A)) → length (paged d 512 ps) ≡ 512 * length ps
  all_long ps = paged_long d 512 ps ∙ start_is (length ps)

  pub taken_long : (c : ℕ) (ps : List (List A)) → c ≤ 512 * length ps → length (take c (paged d 512 ps)) ≡ c
  taken_long c ps le = let e = all_long ps in length-take-le c (paged d 512 ps) (omega (arith, e, le))

  -- another page in the place of one
  pub all_kept : (c i : ℕ) (ps : List (List A)) (q : List A) → c ≤ 512 * length ps → length (take c (paged d 512 (slice_set ps i q))) ≡ length (take c (paged d 512 ps))
  all_kept c i ps q le =
      let e = length-set ps i q in
      taken_long c (slice_set ps i q) (omega (arith, e, le)) ∙ sym (taken_long c ps le)

  -- an empty page more
  pub taken_same : (c : ℕ) (ps : List (List A)) → c ≤ 512 * length ps → take c (paged d 512 (ps ++ [] ∷ [])) ≡ take c (paged d 512 ps)
  taken_same c ps le =
      let e = all_long ps in
      ap (take c) (paged_more d 512 ps []) ∙ take-append-le c (paged d 512 ps) (padded d 512 []) (omega (arith, e, le))

  module _ (c i j k : ℕ) (ps : List (List A)) (p r : List A) (lt : k < c) (is : k ≡ start 512 i + j) (less : j < 512) (there : i < length ps) (at : slice_index_or ps i r ≡ p) where
    pub item_at : slice_get (take c (paged d 512 ps)) k ≡ slice_get (padded d 512 p) j
    item_at = taken_at c k (paged d 512 ps) lt ∙ page_at d 512 ps i j k p r is less there at

    pub item_set : (q : List A) (v : A) → padded d 512 q ≡ slice_set (padded d 512 p) j v → take c (paged d 512 (slice_set ps i q)) ≡ slice_set (take c (paged d 512 ps)) k v
    item_set q v e =
        ap (take c) (page_set d 512 ps i j k r q v is less there (e ∙ ap (λ xs. slice_set (padded d 512 xs) j v) (sym at)))
        ∙ taken_set c k v (paged d 512 ps)

  -- one more item, at the end of what there is
  pub item_more : (c i j : ℕ) (ps : List (List A)) (p q r : List A) (v : A) → c ≡ start 512 i + j → j < 512 → i < length ps → slice_index_or ps i r ≡ p → padded d 512 q ≡ slice_set (padded d 512 p) j v
      → take (c + 1) (paged d 512 (slice_set ps i q)) ≡ take c (paged d 512 ps) ++ v ∷ []
  item_more c i j ps p q r v is less there at e =
      let next : c + 1 ≡ suc c = omega arith in
      ap (λ n. take n (paged d 512 (slice_set ps i q))) next
      ∙ ap (take (suc c)) (page_set d 512 ps i j c r q v is less there (e ∙ ap (λ xs. slice_set (padded d 512 xs) j v) (sym at)))
      ∙ taken_more c v (paged d 512 ps) (let a = all_long ps in let s = start_is i in omega (arith, a, s, is, less, there))

pub item_stored : {V : Type 0} (d : Object V) (c i j k : ℕ) (ps : List (List (Object V))) (p q r : List (Object V)) (b : Bool) (f : Option (Object V) → Option (Object V))
    → k < c → k ≡ start 512 i + j → j < 512 → i < length ps → slice_index_or ps i r ≡ p → if_stored b (padded d 512 q) ≡ put_at j (f (slice_get (padded d 512 p) j)) (padded d 512 p)
    → if_stored b (take c (paged d 512 (slice_set ps i q))) ≡ put_at k (f (slice_get (take c (paged d 512 ps)) k)) (take c (paged d 512 ps))
item_stored d c i j k ps p q r b f lt is less there at e =
    stored_in_taken c k b (paged d 512 ps) (paged d 512 (slice_set ps i q)) f lt (stored_in_pages d 512 ps i j k p q r b f is less there at e)

-- ---- where something is found in a page, an object is held there

pub entry_held : {V : Type 0} (n j : ℕ) (p : List (Object V)) (key : Key) (index : ℕ) → j < n → index_in key (slice_get (padded no_object n p) j) ≡ Some index → (j < length p) × (index_in key (slice_get p j) ≡ Some index)
entry_held {V} n j p key index less e = by (slice_get p j) refl
  where
    by : (r : Option (Object V)) → slice_get p j ≡ r → (j < length p) × (index_in key (slice_get p j) ≡ Some index)
    by None is = absurd (none-some _ (ap (index_in key) (sym (padded_gap no_object n j p less is)) ∙ e))
    by (Some x) is = (slice_get_within p j x is, ap (index_in key) (is ∙ sym (padded_some no_object n j p x less is)) ∙ e)

pub written_held : {V : Type 0} (j : ℕ) (p q : List (Object V)) (i : ℕ) (v : V) → put_at j (with_element i v (slice_get p j)) p ≡ Some q → j < length p
written_held {V} j p q i v e = by (slice_get p j) refl
  where
    by : (r : Option (Object V)) → slice_get p j ≡ r → j < length p
    by None is = absurd (none-some _ (ap (λ r. put_at j (with_element i v r) p) (sym is) ∙ e))
    by (Some x) is = slice_get_within p j x is

-- ---- marks in pages

pub marked_at : (c i j k : ℕ) (ps : List (List Bool)) (p r : List Bool) → k < c → k ≡ start 512 i + j → j < 512 → i < length ps → slice_index_or ps i r ≡ p → marked_by (take c (paged false 512 ps)) k ≡ slice_index_or p j false
marked_at c i j k ps p r lt is less there at =
    get_or_from_slice_get _ k _ true (item_at false c i j k ps p r lt is less there at ∙ padded_at false 512 j p less)

pub marked_past : (c k : ℕ) (ps : List (List Bool)) → c ≤ 512 * length ps → c ≤ k → marked_by (take c (paged false 512 ps)) k ≡ true
marked_past c k ps le past = let e = taken_long false c ps le in index_past (take c (paged false 512 ps)) k true (omega (arith, e, past))

taken_replicate : (c k : ℕ) (b : Bool) → c ≤ k → take c (replicate k b) ≡ replicate c b
taken_replicate zero k b le = refl
taken_replicate (suc c) zero b le = absurd (omega arith)
taken_replicate (suc c) (suc k) b le = ap (λ xs. b ∷ xs) (taken_replicate c k b (omega arith))

padded_none_at_all : (n : ℕ) (b : Bool) → padded b n [] ≡ replicate n b
padded_none_at_all zero b = refl
padded_none_at_all (suc n) b = ap (λ xs. b ∷ xs) (padded_none_at_all n b)

paged_none : (n m : ℕ) (b : Bool) → paged b n (replicate m []) ≡ replicate (start n m) b
paged_none n zero b = refl
paged_none n (suc m) b =
    ap (λ xs. padded b n [] ++ xs) (paged_none n m b) ∙ ap (λ xs. xs ++ replicate (start n m) b) (padded_none_at_all n b)
    ∙ replicate-append-replicate n (start n m) b

pub none_set : (c m : ℕ) → c ≤ 512 * m → take c (paged false 512 (replicate m [])) ≡ replicate c false
none_set c m le = let s = start_is m in ap (take c) (paged_none 512 m false) ∙ taken_replicate c (start 512 m) false (omega (arith, s, le))
