-- Entries of a table as they are held.
use Rattle.std.proofs.Common.{◌≡◌, ℕ, ℤ, zero, suc, ◌+◌, ◌*◌, List, [], ◌∷◌, ◌++◌, take, length, map, Option, Some, None, Bool, true, false, refl, ap, subst, ◌∙◌, arith, ◌<◌}
use Rattle.std.specs.Prelude.{if◌then◌else◌, slice_get, option_map, int_le, ◌&&◌, bytes_eq}
use Rattle.std.specs.Map.{lookup}
use Rattle.std.proofs.lemmas.Slice.Eq.{bytes_eq-Decides}
use Rattle.std.proofs.lemmas.Grind.{common_steps}
use Rattle.std.proofs.lemmas.List.{append-nil}
use Rattle.std.specs.Ordering.{int_eq}
use Rattle.indexmap.specs.IndexMap.{insert_entry}
use Rattle.model.specs.Language.Values.{Entry, IntegerAt, StringAt}
use Rattle.model.specs.Language.Values as values
use Rattle.model.specs.Language.Operators.{same_key, with_entry}
use Rattle.model.specs.Language.Aggregates.{row_count, rows}
use Rattle.aggregates.specs.declared.place.Key as held
use Rattle.aggregates.specs.declared.place.Key.TheVariants as k
use Rattle.aggregates.specs.contracts.place.KeyPartialEq.TheImpl.{ghosts}
use Rattle.aggregates.specs.Made.{StandBelow}
use Rattle.aggregates.specs.Keys.{key_of, entries_of, value_at}
use Rattle.aggregates.specs.Wanted.{is_wanted, wanted_key}
use Rattle.aggregates.specs.declared.place.Wanted.{Wanted}
use Rattle.aggregates.specs.declared.place.Wanted.TheVariants as w

-- ---- keys

same_ints : (i j : ℤ) → int_eq i j ≡ (int_le j i && int_le i j)
same_ints i j = grind (arith, common_steps)

equal_ints : (i j : ℤ) → (int_le i j && int_le j i) ≡ true → i ≡ j
equal_ints i j h = grind (arith, common_steps)

same_texts : (s t : List ℕ) → bytes_eq s t ≡ bytes_eq t s
same_texts [] [] = refl
same_texts [] (y ∷ t) = refl
same_texts (x ∷ s) [] = refl
same_texts (x ∷ s) (y ∷ t) = grind (arith, common_steps, same_texts s t)

pub equal_keys : (a b : values.Key) → same_key a b ≡ true → a ≡ b
equal_keys (IntegerAt i) (IntegerAt j) h = ap IntegerAt (equal_ints i j h)
equal_keys (IntegerAt i) (StringAt t) h = absurd (cc)
equal_keys (StringAt s) (IntegerAt j) h = absurd (cc)
equal_keys (StringAt s) (StringAt t) h = ap StringAt ((bytes_eq-Decides s t).0 h)

module _ {V : Type 0} where
  pub looked_up : (test : held.Key → Bool) (k : held.Key) (es : List (held.Key × V)) (r : Option V) → r ≡ lookup test es
      → ((b : held.Key) → test b ≡ same_key (key_of b) (key_of k)) → r ≡ value_at (key_of k) (entries_of es)
  looked_up test k es r is same = is ∙ go es
    where
      go : (xs : List (held.Key × V)) → lookup test xs ≡ value_at (key_of k) (entries_of xs)
      go [] = refl
      go (e ∷ xs) =
          ap (λ b. if b then Some e.1 else lookup test xs) (same e.0)
          ∙ ap (λ o. if same_key (key_of e.0) (key_of k) then Some e.1 else o) (go xs)

  inserted_by : (eq : held.Key → held.Key → Bool) → ((a b : held.Key) → eq a b ≡ same_key (key_of b) (key_of a)) → (es : List (held.Key × V)) (k : held.Key) (v : V)
      → entries_of (insert_entry eq es k v) ≡ with_entry (key_of k) v (entries_of es)
  inserted_by eq same [] k v = refl
  inserted_by eq same (e ∷ es) k v = ap (λ b. entries_of (if b then (e.0, v) ∷ es else e ∷ insert_entry eq es k v)) (same k e.0) ∙ by (same_key (key_of e.0) (key_of k)) refl (inserted_by eq same es k v)
    where
      by : (b : Bool) → same_key (key_of e.0) (key_of k) ≡ b → entries_of (insert_entry eq es k v) ≡ with_entry (key_of k) v (entries_of es)
          → entries_of (if b then (e.0, v) ∷ es else e ∷ insert_entry eq es k v) ≡ (if b then record { key = key_of k; value = v } ∷ entries_of es else record { key = key_of e.0; value = e.1 } ∷ with_entry (key_of k) v (entries_of es))
      by true q h = ap (λ x. record { key = x; value = v } ∷ entries_of es) (equal_keys (key_of e.0) (key_of k) q)
      by false q h = ap (λ xs. record { key = key_of e.0; value = e.1 } ∷ xs) h

  pub inserted : (eq : held.Key → held.Key → Bool) (es new : List (held.Key × V)) (k : held.Key) (v : V) → new ≡ insert_entry eq es k v
      → ((a b : held.Key) → eq a b ≡ same_key (key_of b) (key_of a)) → entries_of new ≡ with_entry (key_of k) v (entries_of es)
  inserted eq es new k v is same = ap entries_of is ∙ inserted_by eq same es k v

-- keys are compared as the definitions compare them
pub keys_told : (a b : held.Key) → ghosts.eq a b ≡ same_key (key_of b) (key_of a)
keys_told (k.Integer i) (k.Integer j) = same_ints i j
keys_told (k.Integer i) (k.String t) = refl
keys_told (k.String s) (k.Integer j) = refl
keys_told (k.String s) (k.String t) = same_texts s t

-- and so is a text that is looked up
pub wanted_told : (q : Wanted) (b : held.Key) → is_wanted q b ≡ same_key (key_of b) (wanted_key q)
wanted_told (w.Integer i) (k.Integer j) = same_ints i j
wanted_told (w.Integer i) (k.String t) = refl
wanted_told (w.String s) (k.Integer j) = refl
wanted_told (w.String s) (k.String t) = same_texts s.now t

-- ---- rows

module _ {V : Type 0} (null : V → Bool) where
  -- what one more entry adds to the count
  counts_push : (es : List (held.Key × V)) (e : held.Key × V) → row_count null (entries_of (es ++ e ∷ [])) ≡ (if null e.1 then row_count null (entries_of es) else row_count null (entries_of es) + 1)
  counts_push [] e = refl
  counts_push (x ∷ es) e = by (null x.1) (null e.1) (counts_push es e)
    where
      by : (b d : Bool) → row_count null (entries_of (es ++ e ∷ [])) ≡ (if d then row_count null (entries_of es) else row_count null (entries_of es) + 1)
          → (if b then row_count null (entries_of (es ++ e ∷ [])) else row_count null (entries_of (es ++ e ∷ [])) + 1)
          ≡ (if d then (if b then row_count null (entries_of es) else row_count null (entries_of es) + 1) else (if b then row_count null (entries_of es) else row_count null (entries_of es) + 1) + 1)
      by true true h = h
      by true false h = h
      by false true h = ap (λ n. n + 1) h
      by false false h = ap (λ n. n + 1) h

  -- and to the rows
  rows_push : (value : values.Key → V) (es : List (held.Key × V)) (e : held.Key × V) → rows null value (entries_of (es ++ e ∷ [])) ≡ rows null value (entries_of es) ++ (if null e.1 then [] else value (key_of e.0) ∷ e.1 ∷ [])
  rows_push value [] e = by (null e.1)
    where
      by : (b : Bool) → (if b then [] else value (key_of e.0) ∷ e.1 ∷ []) ≡ [] ++ (if b then [] else value (key_of e.0) ∷ e.1 ∷ [])
      by b = refl
  rows_push value (x ∷ es) e = by (null x.1) (rows_push value es e)
    where
      by : (b : Bool) → rows null value (entries_of (es ++ e ∷ [])) ≡ rows null value (entries_of es) ++ (if null e.1 then [] else value (key_of e.0) ∷ e.1 ∷ [])
          → (if b then rows null value (entries_of (es ++ e ∷ [])) else value (key_of x.0) ∷ x.1 ∷ rows null value (entries_of (es ++ e ∷ [])))
          ≡ (if b then rows null value (entries_of es) else value (key_of x.0) ∷ x.1 ∷ rows null value (entries_of es)) ++ (if null e.1 then [] else value (key_of e.0) ∷ e.1 ∷ [])
      by true h = h
      by false h = ap (λ ys. value (key_of x.0) ∷ x.1 ∷ ys) h

-- one more entry of those that were taken
take_next : {A : Type 0} (xs : List A) (i : ℕ) (x : A) → slice_get xs i ≡ Some x → take (i + 1) xs ≡ take i xs ++ x ∷ []
take_next {A = A} xs i x at = lemma-of xs i x ∙ go xs i x at
  where
    lemma-of : (ys : List A) (j : ℕ) (y : A) → take (j + 1) ys ≡ take (suc j) ys
    lemma-of ys j y = let e : j + 1 ≡ suc j = omega arith in ap (λ n. take n ys) e

    go : (ys : List A) (j : ℕ) (y : A) → slice_get ys j ≡ Some y → take (suc j) ys ≡ take j ys ++ y ∷ []
    go [] j y h = absurd (cc)
    go (z ∷ ys) zero y h = ap (λ w. w ∷ []) (cc)
    go (z ∷ ys) (suc j) y h = ap (λ ws. z ∷ ws) (go ys j y h)

module _ {V : Type 0} (null : V → Bool) (es : List (held.Key × V)) (i : ℕ) (e : held.Key × V) (at : slice_get es i ≡ Some e) where
  counts_next : row_count null (entries_of (take (i + 1) es)) ≡ (if null e.1 then row_count null (entries_of (take i es)) else row_count null (entries_of (take i es)) + 1)
  counts_next = ap (λ xs. row_count null (entries_of xs)) (take_next es i e at) ∙ counts_push null (take i es) e

  rows_next : (value : values.Key → V) → rows null value (entries_of (take (i + 1) es)) ≡ rows null value (entries_of (take i es)) ++ (if null e.1 then [] else value (key_of e.0) ∷ e.1 ∷ [])
  rows_next value = ap (λ xs. rows null value (entries_of xs)) (take_next es i e at) ∙ rows_push null value (take i es) e

  pub counts_more : null e.1 ≡ false → row_count null (entries_of (take (i + 1) es)) ≡ row_count null (entries_of (take i es)) + 1
  counts_more q = counts_next ∙ ap (λ b. if b then row_count null (entries_of (take i es)) else row_count null (entries_of (take i es)) + 1) q

  pub counts_same : null e.1 ≡ true → row_count null (entries_of (take (i + 1) es)) ≡ row_count null (entries_of (take i es))
  counts_same q = counts_next ∙ ap (λ b. if b then row_count null (entries_of (take i es)) else row_count null (entries_of (take i es)) + 1) q

  pub rows_more : (value : values.Key → V) → null e.1 ≡ false → rows null value (entries_of (take (i + 1) es)) ≡ rows null value (entries_of (take i es)) ++ value (key_of e.0) ∷ e.1 ∷ []
  rows_more value q = rows_next value ∙ ap (λ b. rows null value (entries_of (take i es)) ++ (if b then [] else value (key_of e.0) ∷ e.1 ∷ [])) q

  pub rows_same : (value : values.Key → V) → null e.1 ≡ true → rows null value (entries_of (take (i + 1) es)) ≡ rows null value (entries_of (take i es))
  rows_same value q = rows_next value ∙ ap (λ b. rows null value (entries_of (take i es)) ++ (if b then [] else value (key_of e.0) ∷ e.1 ∷ [])) q ∙ append-nil (rows null value (entries_of (take i es)))

-- an array of rows has two elements each
pub length-rows : {V : Type 0} (null : V → Bool) (value : values.Key → V) (es : List (Entry V)) → length (rows null value es) ≡ row_count null es * 2
length-rows null value [] = refl
length-rows null value (e ∷ es) = by (null e.value) (length-rows null value es)
  where
    by : (b : Bool) → length (rows null value es) ≡ row_count null es * 2
        → length (if b then rows null value es else value e.key ∷ e.value ∷ rows null value es) ≡ (if b then row_count null es else row_count null es + 1) * 2
    by true h = h
    by false h = omega arith

-- ---- values by where they stand

module _ {V : Type 0} where
  pub entries_long : (es : List (held.Key × V)) → length (map (λ e. e.value) (entries_of es)) ≡ length es
  entries_long [] = refl
  entries_long (e ∷ es) = ap suc (entries_long es)

  -- the value of an entry that stands there
  pub nth_value : (es : List (held.Key × V)) (i : ℕ) (e : held.Key × V) → slice_get es i ≡ Some e → slice_get (map (λ e. e.value) (entries_of es)) i ≡ Some e.1
  nth_value [] i e h = absurd (cc)
  nth_value (x ∷ es) zero e h = ap (option_map (λ y. y.1)) h
  nth_value (x ∷ es) (suc i) e h = nth_value es i e h

  pub nth_none : (es : List (held.Key × V)) (i : ℕ) → slice_get es i ≡ None → slice_get (map (λ e. e.value) (entries_of es)) i ≡ None
  nth_none [] i h = refl
  nth_none (x ∷ es) zero h = absurd (cc)
  nth_none (x ∷ es) (suc i) h = nth_none es i h

pub no_values : {V : Type 0} (es : List (Entry V)) → length (map (λ e. e.value) es) ≡ 0 → es ≡ []
no_values [] h = refl
no_values (e ∷ es) h = absurd (cc)

pub entries_stand : {V : Type 0} (es : List (held.Key × V)) → StandBelow (length es) (map (λ e. e.value) (entries_of es))
entries_stand es k lt = (k, subst (λ n. k < n) (entries_long es) lt, refl)
