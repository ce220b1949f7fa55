-- Marks at some offsets, one after another.
use Rattle.std.proofs.Common.{◌≡◌, ℕ, zero, suc, ◌+◌, ◌<◌, List, [], ◌∷◌, length, drop, get_or, refl, sym, ap, ◌∙◌, arith, Option, true, false, nat_eq, if◌then◌else◌}
use Rattle.flow_check.specs.declared.shapes.Shape.{Shape}
use Rattle.flow_check.specs.declared.marks.Mark.{Mark}
use Rattle.flow_check.specs.Marks.{joined, noted, seeded}

abbrev pub Map : Type 0
Map = ℕ → Option Mark

noted_like : (o : ℕ) (a : Shape) (m n : Map) → ((y : ℕ) → m y ≡ n y) → (y : ℕ) → noted o a m y ≡ noted o a n y
noted_like o a m n h y = elim (nat_eq o y) as (λ b. (if b then joined a (m o) else m y) ≡ (if b then joined a (n o) else n y)) [ true ↦ ap (joined a) (h o) | false ↦ h y ]

pub seeded_like : (os : List ℕ) (a : Shape) (m n : Map) → ((y : ℕ) → m y ≡ n y) → (y : ℕ) → seeded os a m y ≡ seeded os a n y
seeded_like [] a m n h y = h y
seeded_like (o ∷ os) a m n h y = seeded_like os a (noted o a m) (noted o a n) (noted_like o a m n h) y

pub seeded_same : (os us : List ℕ) (a b : Shape) (m n : Map) → os ≡ us → a ≡ b → ((y : ℕ) → m y ≡ n y) → (y : ℕ) → seeded os a m y ≡ seeded us b n y
seeded_same os us a b m n e f h y = ap (λ l. seeded l a m y) e ∙ ap (λ x. seeded us x m y) f ∙ seeded_like us b m n h y

drop_one : (os : List ℕ) (i d : ℕ) → i < length os → drop i os ≡ get_or os i d ∷ drop (suc i) os
drop_one [] i d lt = absurd (omega (arith, lt))
drop_one (o ∷ os) zero d lt = refl
drop_one (o ∷ os) (suc i) d lt = drop_one os i d (omega (arith, lt))

-- one more
pub seed_step : (os : List ℕ) (i o : ℕ) (a : Shape) (m n : Map) → i < length os → o ≡ get_or os i o → ((y : ℕ) → n y ≡ noted o a m y) → (y : ℕ)
    → seeded (drop (i + 1) os) a n y ≡ seeded (drop i os) a m y
seed_step os i o a m n lt e h y =
    let one : i + 1 ≡ suc i = omega arith in
    let f : drop i os ≡ o ∷ drop (suc i) os = drop_one os i o lt ∙ ap (λ x. x ∷ drop (suc i) os) (sym e) in
    ap (λ k. seeded (drop k os) a n y) one ∙ seeded_like (drop (suc i) os) a n (noted o a m) h y ∙ ap (λ l. seeded l a m y) (sym f)

pub seed_done : (os : List ℕ) (i : ℕ) (a : Shape) (m : Map) (y : ℕ) → length os ≡ i → seeded (drop i os) a m y ≡ m y
seed_done os i a m y e = ap (λ l. seeded l a m y) (gone os i e)
  where
    gone : (os : List ℕ) (i : ℕ) → length os ≡ i → drop i os ≡ []
    gone [] zero e = refl
    gone [] (suc i) e = absurd (omega (arith, e))
    gone (o ∷ os) zero e = absurd (omega (arith, e))
    gone (o ∷ os) (suc i) e = gone os i (omega (arith, e))

pub any_default : (os : List ℕ) (i d e : ℕ) → i < length os → get_or os i d ≡ get_or os i e
any_default [] i d e lt = absurd (omega (arith, lt))
any_default (o ∷ os) zero d e lt = refl
any_default (o ∷ os) (suc i) d e lt = any_default os i d e (omega (arith, lt))
