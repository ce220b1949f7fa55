-- What each arm of the scan has to show.
use Rattle.std.proofs.Common.{◌≡◌, refl, sym, ap, ◌∙◌, subst, inl, inr, ℕ, suc, ◌+◌, ◌-◌, ◌<◌, ◌≤◌, ◌==◌, Bool, true, false, List, [], ◌∷◌, length, get_or, take, drop, arith, add-one}
use Rattle.std.specs.Prelude.{Some}
use Rattle.std.proofs.Math.Seq.{take-suc, drop-cons}
use Rattle.std.proofs.lemmas.Bool.{cases_Bool}
use Rattle.std.proofs.lemmas.List.{drop_all, take_all}
use Rattle.model.specs.declared.tokens.TokenKind.{TokenKind}
use Rattle.model.specs.declared.tokens.TokenKind.TheVariants as kind
use Rattle.model.specs.Deck.Cut.{Class, class, differs, Token}
use Rattle.model.specs.Deck.Pieces.{front, behind_front, found, quoted, by_class, first_piece}
use Rattle.lexer.specs.declared.scan.Scanned.{Scanned}
use Rattle.lexer.specs.declared.scan.Scanned.TheVariants as s
use Rattle.lexer.specs.Scans.{IsFound, IsScanned}
use Rattle.lexer.proofs.Fronts.{front_at, front_whole, take_front, drop_front, front_le}

-- ---- literals

two_more : (n : ℕ) → n + 2 ≡ suc (suc n)
two_more n = omega arith

differs_no : (q b : ℕ) → ((b == q) ≡ true → ⊥) → differs q b ≡ true
differs_no q b h = elim (cases_Bool (b == q)) [ inl e ↦ absurd (h e) | inr e ↦ rw e refl ]

differs_yes : (q b : ℕ) → (b == q) ≡ true → differs q b ≡ false
differs_yes q b h = rw h refl

pub closed : (q : ℕ) (xs : List ℕ) (i : ℕ) → i < length xs → ((k : ℕ) → k < i → (get_or xs k 0 == q) ≡ true → ⊥) → (get_or xs i 0 == q) ≡ true
    → IsFound (q ∷ xs) (s.Token kind.Literal (i + 2)) (quoted q (front (differs q) xs) (behind_front (differs q) xs))
closed q xs i lt none hit =
    let n : i ≡ length (front (differs q) xs) = front_at (differs q) xs i lt (λ k h. differs_no q (get_or xs k 0) (none k h)) (differs_yes q (get_or xs i 0) hit) in
    let inner : front (differs q) xs ≡ take i xs = sym (take_front (differs q) xs) ∙ ap (λ k. take k xs) (sym n) in
    let left : behind_front (differs q) xs ≡ get_or xs i 0 ∷ drop (suc i) xs = sym (drop_front (differs q) xs) ∙ ap (λ k. drop k xs) (sym n) ∙ drop-cons xs i 0 lt in
    (rw (inner, left, two_more) (ap (λ t. found (Token kind.Literal (q ∷ t)) (drop (suc i) xs)) (take-suc xs i 0 lt)), (omega arith, omega arith))

pub open_ : (q : ℕ) (xs : List ℕ) → ((k : ℕ) → k < length xs → (get_or xs k 0 == q) ≡ true → ⊥) → IsFound (q ∷ xs) s.Unclosed (quoted q (front (differs q) xs) (behind_front (differs q) xs))
open_ q xs none =
    let n : length xs ≡ length (front (differs q) xs) = front_whole (differs q) xs (λ k h. differs_no q (get_or xs k 0) (none k h)) in
    let left : behind_front (differs q) xs ≡ [] = sym (drop_front (differs q) xs) ∙ drop_all (length (front (differs q) xs)) xs (omega arith) in
    let inner : front (differs q) xs ≡ xs = sym (take_front (differs q) xs) ∙ ap (λ k. take k xs) (sym n) ∙ take_all (length xs) xs (omega arith) in
    (rw (inner, left) refl, tt)

-- ---- runs

pub run : (b : ℕ) (bs : List ℕ) (k : TokenKind) (p : ℕ → Bool) (n : ℕ) → n ≡ length (front p bs) → IsFound (b ∷ bs) (s.Token k (n + 1)) (found (Token k (b ∷ front p bs)) (behind_front p bs))
run b bs k p n e =
    let inner : take n bs ≡ front p bs = ap (λ m. take m bs) e ∙ take_front p bs in
    let left : drop n bs ≡ behind_front p bs = ap (λ m. drop m bs) e ∙ drop_front p bs in
    (rw (add-one, inner, left) refl, (omega arith, omega (arith, front_le p bs)))

-- ---- the text as its first byte and the others

tail_is : (b : ℕ) (bs : List ℕ) → take (length (b ∷ bs) - 1) (drop 1 (b ∷ bs)) ≡ bs
tail_is b bs = take_all (length (b ∷ bs) - 1) bs (omega arith)

pub arm : (xs : List ℕ) (c : Class) (p : Scanned) → 1 ≤ length xs → c ≡ class (get_or xs 0 0) → ((b : ℕ) (bs : List ℕ) → xs ≡ b ∷ bs → IsFound (b ∷ bs) p (by_class c b bs)) → IsScanned xs (Some p)
unfolding first_piece
arm [] c p h e f = absurd (omega arith)
arm (b ∷ bs) c p h e f = subst (λ x. IsFound (b ∷ bs) p (by_class x b bs)) e (f b bs refl)

-- what a call on the others says
pub others : (P : ℕ → List ℕ → Type 0) (xs : List ℕ) (b : ℕ) (bs : List ℕ) → xs ≡ b ∷ bs → P (get_or xs 0 0) (take (length xs - 1) (drop 1 xs)) → P b bs
others P xs b bs i h =
    let g = subst (λ y. P (get_or y 0 0) (take (length y - 1) (drop 1 y))) i h in
    subst (P b) (tail_is b bs) g
