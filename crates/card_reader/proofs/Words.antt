-- A word at the front of a text.
use Rattle.std.proofs.Common.{◌≡◌, refl, ◌∙◌, ℕ, ◌<◌, ◌≤◌, ◌==◌, Bool, true, false, eqb, List, [], ◌∷◌, length, get_or, take, drop, inl, inr, arith}
use Rattle.std.proofs.lemmas.Bool.{cases_Bool}
use Rattle.std.proofs.lemmas.Bool.Decides.{nat_tests}
use lib.Pointwise.{pointwise}
use Rattle.model.specs.Deck.Cards.{is_word_first}

other_way : (a b : ℕ) (t : Bool) → eqb a b ≡ t → (b == a) ≡ t
other_way a b t h = (let turned : (b == a) ≡ eqb a b = grind (arith, nat_tests) in turned ∙ h)

pub word_found : (word text : List ℕ) → pointwise eqb (take (length word) text) word ≡ true → is_word_first word text ≡ is_word_first [] (drop (length word) text)
word_found [] text h = refl
word_found (w ∷ ws) [] h = absurd (cc)
word_found (w ∷ ws) (b ∷ bs) h = elim (cases_Bool (eqb b w)) [
  | inl e ↦ rw (other_way b w true e) (word_found ws bs (rw e at h))
  | inr e ↦ absurd (let g : false ≡ true = rw e at h in cc)
]

pub word_missing : (word text : List ℕ) → pointwise eqb (take (length word) text) word ≡ false → is_word_first word text ≡ false
word_missing [] text h = absurd (cc)
word_missing (w ∷ ws) [] h = refl
word_missing (w ∷ ws) (b ∷ bs) h = elim (cases_Bool (eqb b w)) [
  | inl e ↦ rw (other_way b w true e) (word_missing ws bs (rw e at h))
  | inr e ↦ rw (other_way b w false e) refl
]

pub at_end : (text : List ℕ) → length text < 1 → is_word_first [] text ≡ true
at_end [] h = refl
at_end (b ∷ bs) h = absurd (omega arith)

pub at_blank : (text : List ℕ) → 1 ≤ length text → is_word_first [] text ≡ (get_or text 0 0 == 32)
at_blank [] h = absurd (omega arith)
at_blank (b ∷ bs) h = refl
