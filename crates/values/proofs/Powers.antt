-- Powers, and where they are in range.
use Rattle.std.proofs.Common.{◌≡◌, ◌<◌, ◌≤◌, ℕ, zero, suc, ◌+◌, ◌-◌, ◌*◌, ◌%◌, ◌^◌, ℤ, pos, negsuc, ◌*ℤ◌, neg_ℤ, int_le, int_lt, nat_abs, true, false, true≢false, T, leb→le, zero-add, suc-add, mul-le-mul, mul-le-mul_right, FitsSigned, unsigned_abs, w64, refl, sym, ap, ◌∙◌, subst, arith}
use Rattle.std.proofs.Math.IntN.{zero-*ℤ, *ℤ_comm, *ℤ-one, *ℤ-negsuc, neg_ℤ-neg_ℤ, one}
use Rattle.std.proofs.lemmas.Int.{unsigned_abs-mul, fits_signed_from_abs}
use Rattle.model.specs.declared.run.ErrorCode.TheVariants as error
use Rattle.model.specs.Language.Conversions.{Bad, fit}
use Rattle.model.specs.Language.Operators.{power, raised}
use Rattle.model.proofs.Language.Integers.{faults_beyond}

-- ---- of -1, 0 and 1

pub data IsSmall : ℤ → Type 0 where
  Zero : IsSmall (pos 0)
  One : IsSmall (pos 1)
  MinusOne : IsSmall (negsuc 0)

twice_zero : (p : ℤ) → pos 0 *ℤ (pos 0 *ℤ (pos 0 *ℤ p)) ≡ pos 0 *ℤ p
twice_zero p = zero-*ℤ (pos 0 *ℤ (pos 0 *ℤ p)) ∙ sym (zero-*ℤ p)

one_times : (p : ℤ) → pos 1 *ℤ p ≡ p
unfolding one
one_times p = *ℤ_comm (pos 1) p ∙ *ℤ-one p

minus_times : (p : ℤ) → negsuc 0 *ℤ p ≡ neg_ℤ p
unfolding one
minus_times p = *ℤ_comm (negsuc 0) p ∙ *ℤ-negsuc p 0 ∙ ap neg_ℤ (*ℤ-one p)

again : (a : ℤ) → IsSmall a → (m : ℕ) → power a (suc (suc (suc m))) ≡ power a (suc m)
again _ Zero m = twice_zero (power (pos 0) m)
again _ One m = one_times (pos 1 *ℤ power (pos 1) (suc m)) ∙ one_times (power (pos 1) (suc m))
again _ MinusOne m = minus_times (negsuc 0 *ℤ power (negsuc 0) (suc m)) ∙ ap neg_ℤ (minus_times (power (negsuc 0) (suc m))) ∙ neg_ℤ-neg_ℤ (power (negsuc 0) (suc m))

same_rest : (m : ℕ) → suc (suc m) % 2 ≡ m % 2
same_rest m = omega (arith)

shorter : (a : ℤ) → IsSmall a → (m : ℕ) → power a (2 - suc m % 2) ≡ power a (suc m)
shorter a s zero = refl
shorter a s (suc zero) = refl
shorter a s (suc (suc m)) = ap (λ k. power a (2 - k)) (same_rest (suc m)) ∙ shorter a s m ∙ sym (again a s m)

is_small : (a : ℤ) → int_le (negsuc 0) a ≡ true → int_le a (pos 1) ≡ true → IsSmall a
is_small (pos zero) h k = Zero
is_small (pos (suc zero)) h k = One
is_small (pos (suc (suc n))) h k = absurd (omega (arith, leb→le (suc (suc n)) 1 (subst T (sym k) tt)))
is_small (negsuc zero) h k = MinusOne
is_small (negsuc (suc n)) h k = absurd (omega (arith, leb→le (suc n) 0 (subst T (sym h) tt)))

-- an exponent that is 2 or more can be 1 or 2
pub short_is_same : (a : ℤ) (n : ℕ) → 2 < n → int_le (negsuc 0) a ≡ true → int_le a (pos 1) ≡ true → power a (2 - n % 2) ≡ power a n
short_is_same a zero lt h k = absurd (omega (arith))
short_is_same a (suc m) lt h k = shorter a (is_small a h k) m

-- ---- in range

small_size : (a : ℤ) (n : ℕ) → unsigned_abs a ≤ 1 → unsigned_abs (power a n) ≤ 1
small_size a zero h = omega (arith)
small_size a (suc n) h =
    let e : unsigned_abs (power a (suc n)) ≡ unsigned_abs a * unsigned_abs (power a n) = unsigned_abs-mul a (power a n) in
    let p : unsigned_abs a * unsigned_abs (power a n) ≤ 1 * 1 = mul-le-mul h (small_size a n h) in
    omega (arith, e, p)

fits_size : (z : ℤ) → FitsSigned w64 z → unsigned_abs z ≤ 2 ^ 63
fits_size (pos n) h = let lt : n < 2 ^ 63 = h.sfits in omega (arith, lt)
fits_size (negsuc n) h = let lt : n < 2 ^ 63 = h.sfits in omega (arith, lt)

half : (u p s : ℕ) → 2 ≤ u → s ≡ u * p → s ≤ 2 ^ 63 → p < 2 ^ 63
half u p s big e h = let k : 2 * p ≤ u * p = mul-le-mul_right p big in omega (arith, e, h, k)

fits_down : (a : ℤ) (n : ℕ) → FitsSigned w64 (power a (suc n)) → FitsSigned w64 (power a n)
fits_down a n fits = fits_signed_from_abs w64 (power a n) (go (unsigned_abs a) refl)
  where
    go : (u : ℕ) → unsigned_abs a ≡ u → unsigned_abs (power a n) < 2 ^ 63
    go zero e = let s = small_size a n (omega (arith, e)) in omega (arith, s)
    go (suc zero) e = let s = small_size a n (omega (arith, e)) in omega (arith, s)
    go (suc (suc k)) e = half (unsigned_abs a) (unsigned_abs (power a n)) (unsigned_abs (power a (suc n))) (omega (arith, e)) (unsigned_abs-mul a (power a n)) (fits_size (power a (suc n)) fits)

not_later : (a : ℤ) (j d : ℕ) → (FitsSigned w64 (power a j) → ⊥) → FitsSigned w64 (power a (d + j)) → ⊥
not_later a j zero h fits = h (subst (λ k. FitsSigned w64 (power a k)) (zero-add j) fits)
not_later a j (suc d) h fits = not_later a j d h (fits_down a (d + j) (subst (λ k. FitsSigned w64 (power a k)) (suc-add d j) fits))

-- what overflows at some turn overflows at the end
pub overflows : (a z : ℤ) (n m turn : ℕ) → power a m ≡ power a n → turn < m → z ≡ a *ℤ power a turn → (FitsSigned w64 z → ⊥) → Bad error.Arithmetic ≡ fit error.Arithmetic (power a n)
overflows a z n m turn same lt is other =
    let d : m - suc turn + suc turn ≡ m = omega (arith, lt) in
    sym (faults_beyond error.Arithmetic (power a n)
    (λ fits. not_later a (suc turn) (m - suc turn) (λ f. other (subst (FitsSigned w64) (sym is) f)) (subst (FitsSigned w64) (sym (ap (power a) d ∙ same)) fits)))

not_below_zero : (a p : ℤ) (e : ℤ) (m turn : ℕ) → int_lt e (pos 0) ≡ false → power a m ≡ power a (nat_abs e) → p ≡ power a turn → turn < m → (FitsSigned w64 (a *ℤ p) → ⊥) → Bad error.Arithmetic ≡ raised a e
not_below_zero a p (pos n) m turn h same is lt other = overflows a (a *ℤ p) n m turn same lt (ap (λ x. a *ℤ x) is) other
not_below_zero a p (negsuc n) m turn h same is lt other = absurd (true≢false h)

pub raised_overflows : (a e a' e' p : ℤ) (m turn : ℕ) → a' ≡ a → e' ≡ e → int_lt e' (pos 0) ≡ false → power a' m ≡ power a' (nat_abs e') → p ≡ power a' turn → turn < m → (FitsSigned w64 (a' *ℤ p) → ⊥) → Bad error.Arithmetic ≡ raised a e
raised_overflows a e a' e' p m turn is-a is-e h same is lt other = not_below_zero a' p e' m turn h same is lt other ∙ ap (λ x. raised x e') is-a ∙ ap (raised a) is-e
