-- Objects that are given back one after the other.
use Rattle.std.proofs.Common.{get_or, ◌+◌, ◌≡◌, ℕ, zero, suc, ◌<◌, ◌≤◌, List, [], ◌∷◌, ◌++◌, length, Bool, true, false, if◌then◌else◌, refl, sym, ap, ◌∙◌, arith}
use Rattle.std.specs.Prelude.{slice_index_or, slice_set, take}
use Rattle.model.specs.Language.Values.{Object}
use Rattle.model.specs.Machine.Living.{no_object, cleared}
use Rattle.heap.specs.Paged.{padded, paged}
use Rattle.heap.proofs.Objects.{objects_set}
use Rattle.heap.proofs.Paging.{padded_long, start}
use Rattle.aggregates.specs.declared.object.Object as held
use Rattle.aggregates.specs.Made.{object_of}
use Rattle.heap.specs.Made.{objects_of}
use Rattle.heap.specs.Marked.{marked_by, marked_below}

next_is : (n : ℕ) → suc n ≡ n + 1
next_is n = omega arith

module _ {V : Type 0} where
  pub none_cleared : (m : ℕ → Bool) (os : List (Object V)) → cleared (marked_below 0 m) os ≡ os
  none_cleared m [] = refl
  none_cleared m (o ∷ os) = ap (λ xs. o ∷ xs) (none_cleared m os)

  pub all_cleared : (n : ℕ) (m : ℕ → Bool) (os : List (Object V)) → length os ≤ n → cleared (marked_below n m) os ≡ cleared m os
  all_cleared n m [] le = refl
  all_cleared zero m (o ∷ os) le = absurd (omega arith)
  all_cleared (suc n) m (o ∷ os) le = ap (λ xs. (if m 0 then o else no_object) ∷ xs) (all_cleared n (λ j. m (suc j)) os (omega arith))

  pub one_kept : (n : ℕ) (m : ℕ → Bool) (os : List (Object V)) → m n ≡ true → cleared (marked_below n m) os ≡ cleared (marked_below (suc n) m) os
  one_kept n m [] e = refl
  one_kept zero m (o ∷ os) e = ap (λ b. (if b then o else no_object) ∷ cleared (λ k. true) os) (sym e)
  one_kept (suc n) m (o ∷ os) e = ap (λ xs. (if m 0 then o else no_object) ∷ xs) (one_kept n (λ j. m (suc j)) os e)

  one_set : (n : ℕ) (m : ℕ → Bool) (os : List (Object V)) → m n ≡ false → slice_set (cleared (marked_below n m) os) n no_object ≡ cleared (marked_below (suc n) m) os
  one_set n m [] e = refl
  one_set zero m (o ∷ os) e = ap (λ b. (if b then o else no_object) ∷ cleared (λ k. true) os) (sym e)
  one_set (suc n) m (o ∷ os) e = ap (λ xs. (if m 0 then o else no_object) ∷ xs) (one_set n (λ j. m (suc j)) os e)

  pub one_cleared : (xs : List (held.Object V)) (n : ℕ) (o : held.Object V) (m : ℕ → Bool) (os : List (Object V)) → object_of o ≡ no_object → m n ≡ false → objects_of xs ≡ cleared (marked_below n m) os
      → objects_of (slice_set xs n o) ≡ cleared (marked_below (suc n) m) os
  one_cleared xs n o m os is e h = objects_set xs n o ∙ ap (λ y. slice_set (objects_of xs) n y) is ∙ ap (λ ys. slice_set ys n no_object) h ∙ one_set n m os e

  -- ---- of the number n, and on to the next

  pub kept_on : (xs ys : List (held.Object V)) (n : ℕ) (m : ℕ → Bool) (os : List (Object V)) → objects_of ys ≡ objects_of xs → m n ≡ true → objects_of xs ≡ cleared (marked_below n m) os → objects_of ys ≡ cleared (marked_below (n + 1) m) os
  kept_on xs ys n m os s e h = s ∙ h ∙ one_kept n m os e ∙ ap (λ k. cleared (marked_below k m) os) (next_is n)

  pub cleared_on : (xs ys : List (held.Object V)) (n : ℕ) (o : held.Object V) (m : ℕ → Bool) (os : List (Object V)) → objects_of ys ≡ objects_of (slice_set xs n o) → object_of o ≡ no_object → m n ≡ false → objects_of xs ≡ cleared (marked_below n m) os
      → objects_of ys ≡ cleared (marked_below (n + 1) m) os
  cleared_on xs ys n o m os s is e h = s ∙ one_cleared xs n o m os is e h ∙ ap (λ k. cleared (marked_below k m) os) (next_is n)

  pub set_length : (xs : List (held.Object V)) (n : ℕ) (o : held.Object V) → length (slice_set xs n o) ≡ length xs
  set_length [] n o = refl
  set_length (x ∷ xs) zero o = refl
  set_length (x ∷ xs) (suc n) o = ap suc (set_length xs n o)

-- ---- lists one after the other, and pages

module _ {V : Type 0} where
  -- marks that are the same on each number of a list
  pub cleared_same : (m n : ℕ → Bool) (os : List (Object V)) → ((k : ℕ) → k < length os → m k ≡ n k) → cleared m os ≡ cleared n os
  cleared_same m n [] h = refl
  cleared_same m n (o ∷ os) h =
      ap (λ b. (if b then o else no_object) ∷ cleared (λ k. m (suc k)) os) (h 0 (omega arith))
      ∙ ap (λ xs. (if n 0 then o else no_object) ∷ xs) (cleared_same (λ k. m (suc k)) (λ k. n (suc k)) os (λ k lt. h (suc k) (omega (arith, lt))))

  pub cleared_append : (m n : ℕ → Bool) (xs ys : List (Object V)) → ((k : ℕ) → k < length ys → m (length xs + k) ≡ n k) → cleared m (xs ++ ys) ≡ cleared m xs ++ cleared n ys
  cleared_append m n [] ys h = cleared_same m n ys (λ k lt. ap m (zero_less k) ∙ h k lt)
    where
      zero_less : (k : ℕ) → k ≡ 0 + k
      zero_less k = omega arith
  cleared_append m n (x ∷ xs) ys h =
      ap (λ zs. (if m 0 then x else no_object) ∷ zs) (cleared_append (λ k. m (suc k)) n xs ys (λ k lt. ap m (one_less (length xs) k) ∙ h k lt))
    where
      one_less : (a k : ℕ) → suc (a + k) ≡ suc a + k
      one_less a k = omega arith

  nothing_left : (b : Bool) → no_object {V = V} ≡ (if b then no_object else no_object)
  nothing_left true = refl
  nothing_left false = refl

  -- a page whose objects are given back one by one
  pub padded_cleared : (n : ℕ) (m : ℕ → Bool) (p : List (Object V)) → padded no_object n (cleared m p) ≡ cleared m (padded no_object n p)
  padded_cleared zero m p = refl
  padded_cleared (suc n) m [] = ap (λ x. x ∷ padded no_object n []) (nothing_left (m 0)) ∙ ap (λ xs. (if m 0 then no_object else no_object) ∷ xs) (padded_cleared n (λ k. m (suc k)) [])
  padded_cleared (suc n) m (x ∷ p) = ap (λ xs. (if m 0 then x else no_object) ∷ xs) (padded_cleared n (λ k. m (suc k)) p)

  -- one that holds nothing
  pub nothing_held : (n : ℕ) (m : ℕ → Bool) (p : List (Object V)) → length p ≤ 0 → padded no_object n p ≡ cleared m (padded no_object n p)
  nothing_held n m [] le = padded_cleared n m []
  nothing_held n m (o ∷ p) le = absurd (omega arith)

  -- and one that is given back as a whole
  pub page_dropped : (n : ℕ) (m : ℕ → Bool) (p : List (Object V)) → ((j : ℕ) → j < n → m j ≡ false) → padded no_object n [] ≡ cleared m (padded no_object n p)
  page_dropped zero m p h = refl
  page_dropped (suc n) m [] h = ap (λ x. x ∷ padded no_object n []) (nothing_left (m 0)) ∙ ap (λ xs. (if m 0 then no_object else no_object) ∷ xs) (page_dropped n (λ k. m (suc k)) [] (λ j lt. h (suc j) (omega (arith, lt))))
  page_dropped (suc n) m (x ∷ p) h = ap (λ b. (if b then x else no_object) ∷ padded no_object n []) (sym (h 0 (omega arith))) ∙ ap (λ xs. (if m 0 then x else no_object) ∷ xs) (page_dropped n (λ k. m (suc k)) p (λ j lt. h (suc j) (omega (arith, lt))))

  -- so many pages were gone through
  abbrev pub PagesCleared : ℕ → ℕ → (ℕ → Bool) → List (List (Object V)) → List (List (Object V)) → Type 0
  PagesCleared n zero m ps qs = qs ≡ ps
  PagesCleared n (suc i) m (p ∷ ps) (q ∷ qs) = (padded no_object n q ≡ cleared m (padded no_object n p)) × PagesCleared n i (λ k. m (n + k)) ps qs
  PagesCleared n (suc i) m _ _ = ⊥

  -- one page more
  pub page_cleared : (n i : ℕ) (m m1 : ℕ → Bool) (ps qs : List (List (Object V))) (d q : List (Object V)) → i < length qs → ((j : ℕ) → m (start n i + j) ≡ m1 j) → PagesCleared n i m ps qs
      → padded no_object n q ≡ cleared m1 (padded no_object n (slice_index_or qs i d)) → PagesCleared n (suc i) m ps (slice_set qs i q)
  page_cleared n zero m m1 [] [] d q lt same h e = absurd (omega arith)
  page_cleared n zero m m1 [] (x ∷ qs) d q lt same h e = absurd (cc)
  page_cleared n zero m m1 (p ∷ ps) [] d q lt same h e = absurd (omega arith)
  page_cleared n zero m m1 (p ∷ ps) (x ∷ qs) d q lt same h e =
      (e ∙ ap (λ r. cleared m1 (padded no_object n r)) (first_is x p qs ps h) ∙ cleared_same m1 m (padded no_object n p) (λ k l. sym (same k) ∙ ap m (zero_less k)), rest_is x p qs ps h)
    where
      zero_less : (k : ℕ) → 0 + k ≡ k
      zero_less k = omega arith

      first_is : (x y : List (Object V)) (xs ys : List (List (Object V))) → x ∷ xs ≡ y ∷ ys → x ≡ y
      first_is x y xs ys e = cc

      rest_is : (x y : List (Object V)) (xs ys : List (List (Object V))) → x ∷ xs ≡ y ∷ ys → xs ≡ ys
      rest_is x y xs ys e = cc
  page_cleared n (suc i) m m1 [] qs d q lt same h e = absurd h
  page_cleared n (suc i) m m1 (p ∷ ps) [] d q lt same h e = absurd h
  page_cleared n (suc i) m m1 (p ∷ ps) (x ∷ qs) d q lt same h e =
      (h.0, page_cleared n i (λ k. m (n + k)) m1 ps qs d q (omega (arith, lt)) (λ j. ap m (more n (start n i) j) ∙ same j) h.1 e)
    where
      more : (a b c : ℕ) → a + (b + c) ≡ (a + b) + c
      more a b c = omega arith

  pub pages_cleared : (n : ℕ) (m : ℕ → Bool) (ps qs : List (List (Object V))) → PagesCleared n (length ps) m ps qs → paged no_object n qs ≡ cleared m (paged no_object n ps)
  pages_cleared n m [] qs h = ap (paged no_object n) h
  pages_cleared n m (p ∷ ps) [] h = absurd h
  pages_cleared n m (p ∷ ps) (q ∷ qs) h =
      ap (λ xs. xs ++ paged no_object n qs) h.0 ∙ ap (λ xs. cleared m (padded no_object n p) ++ xs) (pages_cleared n (λ k. m (n + k)) ps qs h.1)
      ∙ sym (cleared_append m (λ k. m (n + k)) (padded no_object n p) (paged no_object n ps) (λ k lt. ap (λ a. m (a + k)) (padded_long no_object n p)))

  -- all pages were gone through
  pub pages_done : (n i : ℕ) (m : ℕ → Bool) (ps qs : List (List (Object V))) → length ps ≤ i → PagesCleared n i m ps qs → PagesCleared n (length ps) m ps qs
  pages_done n zero m [] qs le h = h
  pages_done n (suc i) m [] qs le h = absurd h
  pages_done n zero m (p ∷ ps) qs le h = absurd (omega arith)
  pages_done n (suc i) m (p ∷ ps) [] le h = absurd h
  pages_done n (suc i) m (p ∷ ps) (q ∷ qs) le h = (h.0, pages_done n i (λ k. m (n + k)) ps qs (omega arith) h.1)

  pub pages_length : (n i : ℕ) (m : ℕ → Bool) (ps qs : List (List (Object V))) → PagesCleared n i m ps qs → length qs ≡ length ps
  pages_length n zero m ps qs h = ap length h
  pages_length n (suc i) m [] qs h = absurd h
  pages_length n (suc i) m (p ∷ ps) [] h = absurd h
  pages_length n (suc i) m (p ∷ ps) (q ∷ qs) h = ap suc (pages_length n i (λ k. m (n + k)) ps qs h.1)

  pub cleared_long : (m : ℕ → Bool) (os : List (Object V)) → length (cleared m os) ≡ length os
  cleared_long m [] = refl
  cleared_long m (o ∷ os) = ap suc (cleared_long (λ k. m (suc k)) os)

  -- the first of those that are cleared
  pub cleared_taken : (c : ℕ) (m : ℕ → Bool) (os : List (Object V)) → take c (cleared m os) ≡ cleared m (take c os)
  cleared_taken zero m os = refl
  cleared_taken (suc c) m [] = refl
  cleared_taken (suc c) m (o ∷ os) = ap (λ xs. (if m 0 then o else no_object) ∷ xs) (cleared_taken c (λ k. m (suc k)) os)

-- the mark of a number, and of one past the marks
pub mark_at : (bs : List Bool) (n : ℕ) (b : Bool) → n < length bs → get_or bs n false ≡ b → marked_by bs n ≡ b
mark_at [] n b lt e = absurd (omega arith)
mark_at (x ∷ bs) zero b lt e = e
mark_at (x ∷ bs) (suc n) b lt e = mark_at bs n b (omega arith) e

pub mark_past : (bs : List Bool) (n : ℕ) → length bs ≤ n → marked_by bs n ≡ true
mark_past [] n le = refl
mark_past (x ∷ bs) zero le = absurd (omega arith)
mark_past (x ∷ bs) (suc n) le = mark_past bs n (omega arith)
