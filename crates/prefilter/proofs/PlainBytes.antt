-- Zeros below the lowest 1 of a number, and bytes that close fewer brackets than are open.
use Rattle.std.proofs.Common.{◌≡◌, ◌⊎◌, inl, inr, ℕ, zero, suc, ◌+◌, ◌-◌, ◌/◌, ◌%◌, ◌<◌, ◌≤◌, ◌^◌, List, [], ◌∷◌, ◌++◌, true, false, cond, eqb, length, take, drop, count_by, refl, sym, ◌∙◌, ap, arith, w64}
use Rattle.std.specs.Int.{bit_at, trailing_zeros}
use Rattle.std.specs.Prelude.{◌==◌}
use Rattle.std.proofs.lemmas.Bool.Decides.{eqb_tells}
use Rattle.std.proofs.lemmas.List.Sums.{sum_by-cons}
use Rattle.std.proofs.lemmas.Simd.{chunk-drop, length-chunk}
use Rattle.std.proofs.Math.Nat.{div-le_self}
use Rattle.std.proofs.lemmas.Nat.{shr-shr}
use Rattle.std.proofs.lemmas.Nat.Bits.{bit_at-zero, bit_at-trailing_zeros}
use Rattle.model.specs.Pattern.BasicEnds.{balanced}

-- below the lowest 1 stand zeros
pub zeros_below : (n : ℕ) → n < 2 ^ 64 → (i : ℕ) → i < trailing_zeros w64 n → bit_at n i ≡ 0
zeros_below zero l i h = bit_at-zero i
zeros_below (suc n) l i h = (bit_at-trailing_zeros w64 (suc n) (omega arith) l).2 i h

pub bit_behind : (n s i : ℕ) → s ≤ i → bit_at (n / 2 ^ s) (i - s) ≡ bit_at n i
bit_behind n s i l = let e : s + (i - s) ≡ i = omega (arith, l) in ap (λ x. x % 2) (shr-shr n s (i - s)) ∙ ap (bit_at n) e

pub less_behind : (n s : ℕ) → n < 2 ^ 64 → n / 2 ^ s < 2 ^ 64
less_behind n s l = omega (arith, l, div-le_self n (2 ^ s))

-- ---- one byte
abbrev opens : ℕ → ℕ
opens b = cond (b == 40) 1 0

abbrev closes : ℕ → ℕ
closes b = cond (b == 41) 1 0

stays : (b : ℕ) (s : List ℕ) (d c : ℕ) → closes b < d → balanced (b ∷ s) d c ≡ balanced s (d + opens b - closes b) (c + 1)
stays b s zero c l = absurd (omega (arith, l))
stays b s (suc zero) c l = go (eqb_tells b 40) (eqb_tells b 41)
  where
    go : ((eqb b 40 ≡ true) × (b ≡ 40)) ⊎ ((eqb b 40 ≡ false) × (b ≡ 40 → ⊥)) → ((eqb b 41 ≡ true) × (b ≡ 41)) ⊎ ((eqb b 41 ≡ false) × (b ≡ 41 → ⊥)) → balanced (b ∷ s) 1 c ≡ balanced s (1 + cond (b == 40) 1 0 - cond (b == 41) 1 0) (c + 1)
    go (inl (e, p)) (inl (f, q)) = absurd (omega (arith, p, q))
    go (inl (e, p)) (inr (f, q)) = rw (e, f) refl
    go (inr (e, p)) (inl (f, q)) = absurd (omega (arith, rw f at l))
    go (inr (e, p)) (inr (f, q)) = rw (e, f) refl
stays b s (suc (suc d)) c l = go (eqb_tells b 40) (eqb_tells b 41)
  where
    go : ((eqb b 40 ≡ true) × (b ≡ 40)) ⊎ ((eqb b 40 ≡ false) × (b ≡ 40 → ⊥)) → ((eqb b 41 ≡ true) × (b ≡ 41)) ⊎ ((eqb b 41 ≡ false) × (b ≡ 41 → ⊥)) → balanced (b ∷ s) (suc (suc d)) c ≡ balanced s (suc (suc d) + cond (b == 40) 1 0 - cond (b == 41) 1 0) (c + 1)
    go (inl (e, p)) (inl (f, q)) = absurd (omega (arith, p, q))
    go (inl (e, p)) (inr (f, q)) = rw (e, f) (ap (λ n. balanced s n (c + 1)) (omega arith))
    go (inr (e, p)) (inl (f, q)) = rw (e, f) (ap (λ n. balanced s n (c + 1)) (omega arith))
    go (inr (e, p)) (inr (f, q)) = rw (e, f) (ap (λ n. balanced s n (c + 1)) (omega arith))

-- ---- many bytes
all_stay : (xs s : List ℕ) (d c : ℕ) → count_by (λ b. b == 41) xs < d → balanced (xs ++ s) d c ≡ balanced s (d + count_by (λ b. b == 40) xs - count_by (λ b. b == 41) xs) (c + length xs)
all_stay [] s d c l = ap (λ n. balanced s n c) (omega arith) ∙ ap (balanced s (d + 0 - 0)) (omega arith)
all_stay (b ∷ xs) s d c l =
    let o = sum_by-cons opens b xs in
    let k = sum_by-cons closes b xs in
    stays b (xs ++ s) d c (omega (arith, l, k))
    ∙ all_stay xs s (d + opens b - closes b) (c + 1) (omega (arith, l, k))
    ∙ ap (λ n. balanced s n (c + 1 + length xs)) (omega (arith, l, o, k))
    ∙ ap (balanced s (d + count_by (λ x. x == 40) (b ∷ xs) - count_by (λ x. x == 41) (b ∷ xs))) (omega arith)

-- so many bytes of a subject
pub still_open : (u : List ℕ) (n at d : ℕ) → at + n ≤ length u → count_by (λ b. b == 41) (take n (drop at u)) < d → balanced (drop (at + n) u) (d + count_by (λ b. b == 40) (take n (drop at u)) - count_by (λ b. b == 41) (take n (drop at u))) (at + n) ≡ balanced (drop at u) d at
still_open u n at d l h =
    let xs : List ℕ = take n (drop at u) in
    sym (
    ap (λ s. balanced s d at) (chunk-drop at n u)
    ∙ all_stay xs (drop (at + n) u) d at h
    ∙ ap (λ m. balanced (drop (at + n) u) (d + count_by (λ b. b == 40) xs - count_by (λ b. b == 41) xs) (at + m)) (length-chunk at n u l)
    )
