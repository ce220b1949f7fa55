-- What is left of a list, as an iterator over it takes one item after the other.
use Rattle.std.proofs.Common.{◌≡◌, ℕ, zero, suc, ◌+◌, ◌<◌, ◌≤◌, List, [], ◌∷◌, length, drop, get_or, sym, ap, ◌∙◌, arith}

-- the item at a place, which comes next, and what is left then
pub next_item : {A : Type 0} (xs : List A) (k : ℕ) (x : A) (rest : List A) → drop k xs ≡ x ∷ rest → (k < length xs) × (x ≡ get_or xs k x) × (rest ≡ drop (k + 1) xs)
next_item [] zero x rest e = absurd cc
next_item [] (suc k) x rest e = absurd cc
next_item (y ∷ ys) zero x rest e = (omega arith, cc, cc)
next_item (y ∷ ys) (suc k) x rest e =
    let h = next_item ys k x rest e in
    let one : suc k + 1 ≡ suc (k + 1) = omega arith in
    (omega (arith, h.0), h.1, h.2 ∙ ap (λ n. drop n (y ∷ ys)) (sym one))

pub no_item : {A : Type 0} (xs : List A) (k : ℕ) → drop k xs ≡ [] → length xs ≤ k
no_item [] k e = omega arith
no_item (y ∷ ys) zero e = absurd cc
no_item (y ∷ ys) (suc k) e = omega (arith, no_item ys k e)
