-- The bytes at the front of a text that pass a test.
use Rattle.std.proofs.Common.{◌≡◌, refl, ap, ℕ, zero, suc, ◌<◌, ◌≤◌, Bool, true, false, List, [], ◌∷◌, length, get_or, take, drop, arith}
use Rattle.model.specs.Deck.Pieces.{front, behind_front}
use Rattle.std.proofs.lemmas.Bool.{cases_Bool}
use Rattle.std.proofs.Common.{inl, inr}

-- the first byte that fails is where the front ends
pub front_at : (p : ℕ → Bool) (xs : List ℕ) (i : ℕ) → i < length xs → ((k : ℕ) → k < i → p (get_or xs k 0) ≡ true) → p (get_or xs i 0) ≡ false → i ≡ length (front p xs)
front_at p [] i lt pass fail = absurd (omega arith)
front_at p (x ∷ xs) zero lt pass fail = rw fail refl
front_at p (x ∷ xs) (suc i) lt pass fail =
    let here : p x ≡ true = pass 0 (omega arith) in
    rw here (ap suc (front_at p xs i (omega arith) (λ k h. pass (suc k) (omega arith)) fail))

-- where none fails it is the whole
pub front_whole : (p : ℕ → Bool) (xs : List ℕ) → ((k : ℕ) → k < length xs → p (get_or xs k 0) ≡ true) → length xs ≡ length (front p xs)
front_whole p [] pass = refl
front_whole p (x ∷ xs) pass =
    let here : p x ≡ true = pass 0 (omega arith) in
    rw here (ap suc (front_whole p xs (λ k h. pass (suc k) (omega arith))))

pub take_front : (p : ℕ → Bool) (xs : List ℕ) → take (length (front p xs)) xs ≡ front p xs
take_front p [] = refl
take_front p (x ∷ xs) = elim (cases_Bool (p x)) [ inl h ↦ rw h (ap (λ t. x ∷ t) (take_front p xs)) | inr h ↦ rw h refl ]

pub drop_front : (p : ℕ → Bool) (xs : List ℕ) → drop (length (front p xs)) xs ≡ behind_front p xs
drop_front p [] = refl
drop_front p (x ∷ xs) = elim (cases_Bool (p x)) [ inl h ↦ rw h (drop_front p xs) | inr h ↦ rw h refl ]

pub front_le : (p : ℕ → Bool) (xs : List ℕ) → length (front p xs) ≤ length xs
front_le p [] = omega arith
front_le p (x ∷ xs) = elim (cases_Bool (p x)) [ inl h ↦ rw h (let below = front_le p xs in omega arith) | inr h ↦ rw h (omega arith) ]
