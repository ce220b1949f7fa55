-- The lines of a deck, one after the other.
use Rattle.std.proofs.Common.{◌≡◌, ◌≢◌, ℕ, zero, suc, ◌-◌, ◌<◌, ◌==◌, true, false, List, [], ◌∷◌, length, get_or, take, drop, refl, arith, inl, inr}
use Rattle.std.proofs.lemmas.Bool.{cases_Bool}
use Rattle.std.proofs.lemmas.Bool.Decides.{nat_tests}
use Rattle.std.proofs.lemmas.List.{take_all, length-drop}
use Rattle.model.specs.Deck.Cards.{lines}

pub line_at : (bs : List ℕ) (i : ℕ) → i < length bs → ((k : ℕ) → k < i → (get_or bs k 0 == 10) ≡ true → ⊥) → (get_or bs i 0 == 10) ≡ true → lines bs ≡ take i bs ∷ lines (drop (suc i) bs)
line_at [] i lt none e = absurd (omega arith)
line_at (b ∷ bs) zero lt none e = rw e refl
line_at (b ∷ bs) (suc i) lt none e =
    let rest = line_at bs i (omega arith) (λ k h. none (suc k) (omega arith)) e in
    elim (cases_Bool (b == 10)) [ inl h ↦ absurd (none 0 (omega arith) h) | inr h ↦ rw (h, rest) refl ]

pub last_line : (b : ℕ) (bs : List ℕ) → ((k : ℕ) → k < length (b ∷ bs) → (get_or (b ∷ bs) k 0 == 10) ≡ true → ⊥) → lines (b ∷ bs) ≡ (b ∷ bs) ∷ []
last_line b [] none = elim (cases_Bool (b == 10)) [ inl h ↦ absurd (none 0 (omega arith) h) | inr h ↦ rw h refl ]
last_line b (c ∷ bs) none =
    let rest = last_line c bs (λ k h. none (suc k) (omega arith)) in
    elim (cases_Bool (b == 10)) [ inl h ↦ absurd (none 0 (omega arith) h) | inr h ↦ rw (h, rest) refl ]

pub rest_is : (xs : List ℕ) (n : ℕ) → take (length xs - n) (drop n xs) ≡ drop n xs
rest_is xs n = take_all (length xs - n) (drop n xs) (omega (arith, length-drop n xs))

pub last_is : (bs : List ℕ) → length bs ≢ 0 → ((k : ℕ) → k < length bs → (get_or bs k 0 == 10) ≡ true → ⊥) → lines bs ≡ bs ∷ []
last_is [] some none = absurd (some refl)
last_is (b ∷ bs) some none = last_line b bs none

pub not_zero : (n : ℕ) → false ≡ (n == 0) → 0 < n
not_zero n h = grind (arith, nat_tests)
