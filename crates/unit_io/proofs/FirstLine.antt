-- The first record of bytes.
use Rattle.std.proofs.Common.{◌≡◌, ℕ, zero, suc, ◌+◌, ◌-◌, ◌<◌, List, [], ◌∷◌, length, take, drop, get_or, Bool, true, false, Some, None, refl, sym, ap, subst, ◌∙◌, arith}
use Rattle.std.specs.Prelude.{◌==◌, slice_range}
use Rattle.std.proofs.lemmas.List.{drop-drop, take_rest, length-drop, drop_all}
use Rattle.memchr.specs.Find.{IsFirstByte, is_byte}
use Rattle.model.specs.Language.Units.{records_of, with_byte, first_of, rest_of}

pub isn't_true : (b : Bool) → ¬ (b ≡ true) → b ≡ false
isn't_true true h = absurd (h refl)
isn't_true false h = refl

-- the bytes up to the first line feed, and the records behind it
first_line : (xs : List ℕ) (k : ℕ) → k < length xs → ((j : ℕ) → j < k → ¬ ((get_or xs j 0 == 10) ≡ true)) → (get_or xs k 0 == 10) ≡ true → records_of xs ≡ take k xs ∷ records_of (drop (suc k) xs)
first_line [] k lt none is = absurd (omega arith)
first_line (x ∷ xs) zero lt none is = rw is refl
first_line (x ∷ xs) (suc k) lt none is =
    let other : (x == 10) ≡ false = isn't_true (x == 10) (none 0 (omega arith)) in
    rw other (ap (with_byte x) (first_line xs k (omega arith) (λ j h. none (suc j) (omega arith)) is))

-- bytes without a line feed
only_line : (x : ℕ) (xs : List ℕ) → ((j : ℕ) → j < length (x ∷ xs) → ¬ ((get_or (x ∷ xs) j 0 == 10) ≡ true)) → records_of (x ∷ xs) ≡ (x ∷ xs) ∷ []
only_line x [] none = let other : (x == 10) ≡ false = isn't_true (x == 10) (none 0 (omega arith)) in rw other refl
only_line x (y ∷ ys) none =
    let other : (x == 10) ≡ false = isn't_true (x == 10) (none 0 (omega arith)) in
    rw other (ap (with_byte x) (only_line y ys (λ j h. none (suc j) (omega arith))))

pub one_line : (xs : List ℕ) → 0 < length xs → ((j : ℕ) → j < length xs → ¬ ((get_or xs j 0 == 10) ≡ true)) → records_of xs ≡ xs ∷ []
one_line [] some none = absurd (omega arith)
one_line (x ∷ xs) some none = only_line x xs none

first_and_rest : (r : List ℕ) (rs old : List (List ℕ)) → r ∷ rs ≡ old → (Some r ≡ first_of old) × (rs ≡ rest_of old)
first_and_rest r rs old line = (ap first_of line, ap rest_of line)

module _ (text : List ℕ) (at : ℕ) (old : List (List ℕ)) (e : records_of (drop at text) ≡ old) where
  -- a line feed comes
  pub took_line : (k : ℕ) → IsFirstByte (is_byte 10) (take (length text - at) (drop at text)) (Some k) → (Some (slice_range text at (at + k)) ≡ first_of old) × (records_of (drop (at + (k + 1)) text) ≡ rest_of old)
  took_line k h =
      let left : List ℕ = drop at text in
      let found : IsFirstByte (is_byte 10) left (Some k) = subst (λ xs. IsFirstByte (is_byte 10) xs (Some k)) (take_rest text at) h in
      let line : records_of left ≡ take k left ∷ records_of (drop (suc k) left) = first_line left k found.0.high (λ j lt. found.0.before j (omega arith) lt) found.1 in
      let same : at + k - at ≡ k = omega arith in
      let onward : at + (k + 1) ≡ at + suc k = omega arith in
      let parts = first_and_rest (take k left) (records_of (drop (suc k) left)) old (sym line ∙ e) in (
        ap (λ n. Some (take n left)) same ∙ parts.0,
        ap (λ n. records_of (drop n text)) onward ∙ ap records_of (sym (drop-drop (suc k) at text)) ∙ parts.1,
      )

  -- no line feed comes
  pub took_all : at < length text → IsFirstByte (is_byte 10) (take (length text - at) (drop at text)) None → (Some (slice_range text at (length text)) ≡ first_of old) × (records_of (drop (length text) text) ≡ rest_of old)
  took_all lt h =
      let left : List ℕ = drop at text in
      let found : IsFirstByte (is_byte 10) left None = subst (λ xs. IsFirstByte (is_byte 10) xs None) (take_rest text at) h in
      let parts = first_and_rest left [] old (sym (one_line left (omega (arith, length-drop at text)) (λ j below. found j (omega arith) below)) ∙ e) in
      (ap Some (take_rest text at) ∙ parts.0, ap records_of (drop_all (length text) text (omega arith)) ∙ parts.1)
