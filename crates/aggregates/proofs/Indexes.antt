-- Entries by where they stand.
use Rattle.std.proofs.Common.{◌≡◌, ℕ, zero, suc, ◌+◌, ◌<◌, List, [], ◌∷◌, length, cond, Option, Some, None, Bool, true, false, refl, sym, ap, ◌∙◌, arith}
use Rattle.std.specs.Prelude.{if◌then◌else◌, slice_get, option_map, nat_lt, not}
use Rattle.std.specs.List.{position, position_or_len}
use Rattle.std.specs.Map.{keys_of}
use Rattle.std.proofs.lemmas.Grind.{common_steps}
use Rattle.indexmap.specs.IndexMap.{set_value_at}
use Rattle.model.specs.Language.Values as values
use Rattle.model.specs.Language.Operators.{same_key, with_entry}
use Rattle.aggregates.specs.declared.place.Key as held
use Rattle.aggregates.specs.Keys.{key_of, entries_of, index_at, value_at}
use Rattle.aggregates.proofs.Entries.{equal_keys}

position_first : {X : Type 0} (p : X → Bool) (x : X) (xs : List X) → position p (x ∷ xs) ≡ (if p x then Some 0 else option_map suc (position p xs))
position_first p x xs = by (p x)
  where
    n : ℕ
    n = position_or_len p xs

    first : (m : ℕ) → cond {A = Option ℕ} (nat_lt 0 (suc m)) (Some 0) None ≡ Some 0
    first m = grind (arith, common_steps)

    more : (m : ℕ) → cond {A = Option ℕ} (nat_lt (1 + n) (suc m)) (Some (1 + n)) None ≡ option_map suc (cond (nat_lt n m) (Some n) None)
    more m = grind (arith, common_steps)

    by : (b : Bool) → cond {A = Option ℕ} (nat_lt (cond (not b) (1 + n) 0) (suc (length xs))) (Some (cond (not b) (1 + n) 0)) None ≡ (if b then Some 0 else option_map suc (position p xs))
    by true = first (length xs)
    by false = more (length xs)

more_is : (o : Option ℕ) (i : ℕ) → option_map suc o ≡ Some (suc i) → o ≡ Some i
more_is None i e = absurd (cc)
more_is (Some j) i e = cc

more_not : {A : Type 0} (o : Option ℕ) → option_map suc o ≡ Some zero → A
more_not None e = absurd (cc)
more_not (Some j) e = absurd (cc)

module _ {V : Type 0} where
  -- the index that a look-up gives
  pub indexed : (test : held.Key → Bool) (k : held.Key) (es : List (held.Key × V)) (r : Option ℕ) → r ≡ position test (keys_of es)
      → ((b : held.Key) → test b ≡ same_key (key_of b) (key_of k)) → r ≡ index_at (key_of k) (entries_of es)
  indexed test k es r is same = is ∙ go es
    where
      go : (xs : List (held.Key × V)) → position test (keys_of xs) ≡ index_at (key_of k) (entries_of xs)
      go [] = refl
      go (e ∷ xs) =
          position_first test e.0 (keys_of xs)
          ∙ ap (λ b. if b then Some 0 else option_map suc (position test (keys_of xs))) (same e.0)
          ∙ ap (λ o. if same_key (key_of e.0) (key_of k) then Some 0 else option_map suc o) (go xs)

  -- an entry stands there
  pub within : (k : values.Key) (es : List (held.Key × V)) (i : ℕ) → index_at k (entries_of es) ≡ Some i → i < length es
  within k [] i is = absurd (cc)
  within k (e ∷ es) zero is = omega arith
  within k (e ∷ es) (suc i) is = by (same_key (key_of e.0) k) is (within k es i)
    where
      by : (b : Bool) → (if b then Some 0 else option_map suc (index_at k (entries_of es))) ≡ Some (suc i) → (index_at k (entries_of es) ≡ Some i → i < length es) → suc i < length (e ∷ es)
      by true h rest = absurd (cc)
      by false h rest = let lt : i < length es = rest (more_is (index_at k (entries_of es)) i h) in omega arith

  -- it has the value for the key
  pub valued : (k : values.Key) (es : List (held.Key × V)) (i : ℕ) (e : held.Key × V) → slice_get es i ≡ Some e → index_at k (entries_of es) ≡ Some i → Some e.1 ≡ value_at k (entries_of es)
  valued k [] i e at is = absurd (cc)
  valued k (x ∷ es) zero e at is = by (same_key (key_of x.0) k) is
    where
      by : (b : Bool) → (if b then Some 0 else option_map suc (index_at k (entries_of es))) ≡ Some zero → Some e.1 ≡ (if b then Some x.1 else value_at k (entries_of es))
      by true h = ap (option_map (λ y. y.1)) (sym at)
      by false h = more_not (index_at k (entries_of es)) h
  valued k (x ∷ es) (suc i) e at is = by (same_key (key_of x.0) k) is (valued k es i e at)
    where
      by : (b : Bool) → (if b then Some 0 else option_map suc (index_at k (entries_of es))) ≡ Some (suc i) → (index_at k (entries_of es) ≡ Some i → Some e.1 ≡ value_at k (entries_of es)) → Some e.1 ≡ (if b then Some x.1 else value_at k (entries_of es))
      by true h rest = absurd (cc)
      by false h rest = rest (more_is (index_at k (entries_of es)) i h)

  -- another value there is another value for the key
  pub valued_anew : (k : values.Key) (es : List (held.Key × V)) (i : ℕ) (v : V) → index_at k (entries_of es) ≡ Some i → entries_of (set_value_at es i v) ≡ with_entry k v (entries_of es)
  valued_anew k [] i v is = absurd (cc)
  valued_anew k (x ∷ es) zero v is = by (same_key (key_of x.0) k) refl is
    where
      by : (b : Bool) → same_key (key_of x.0) k ≡ b → (if b then Some 0 else option_map suc (index_at k (entries_of es))) ≡ Some zero
          → entries_of ((x.0, v) ∷ es) ≡ (if b then record { key = k; value = v } ∷ entries_of es else record { key = key_of x.0; value = x.1 } ∷ with_entry k v (entries_of es))
      by true q h = ap (λ y. record { key = y; value = v } ∷ entries_of es) (equal_keys (key_of x.0) k q)
      by false q h = more_not (index_at k (entries_of es)) h
  valued_anew k (x ∷ es) (suc i) v is = by (same_key (key_of x.0) k) is (valued_anew k es i v)
    where
      by : (b : Bool) → (if b then Some 0 else option_map suc (index_at k (entries_of es))) ≡ Some (suc i)
          → (index_at k (entries_of es) ≡ Some i → entries_of (set_value_at es i v) ≡ with_entry k v (entries_of es))
          → entries_of (x ∷ set_value_at es i v) ≡ (if b then record { key = k; value = v } ∷ entries_of es else record { key = key_of x.0; value = x.1 } ∷ with_entry k v (entries_of es))
      by true h rest = absurd (cc)
      by false h rest = ap (λ xs. record { key = key_of x.0; value = x.1 } ∷ xs) (rest (more_is (index_at k (entries_of es)) i h))
