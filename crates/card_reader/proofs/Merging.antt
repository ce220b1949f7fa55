-- The lesser of faults: in which order they are reported doesn't matter.
use Rattle.std.proofs.Common.{◌≡◌, refl, sym, ◌∙◌, ap, subst, ℕ, ◌+◌, ◌*◌, ◌<◌, ◌≤◌, ◌==◌, ◌||◌, ◌&&◌, inl, inr, true, false, List, [], ◌∷◌, ◌++◌, arith}
use Rattle.std.specs.Prelude.{Option, Some, None, if◌then◌else◌, nat_lt}
use Rattle.std.proofs.lemmas.Bool.{cases_Bool}
use Rattle.std.proofs.lemmas.Bool.Decides.{nat_tests}
use Rattle.model.specs.declared.cards.CardFault.{CardFault}
use Rattle.model.specs.declared.cards.CardRule.{CardRule}
use Rattle.model.specs.declared.cards.CardRule.TheVariants as rule
use Rattle.model.specs.Deck.Cards.{rank, is_less, lesser, least}
use Rattle.card_reader.specs.Reading.{merge}

-- ---- faults are in one order

abbrev key : CardFault → ℕ
key f = 8 * f.card + rank f.rule

rank_small : (r : CardRule) → rank r < 8
rank_small rule.BadByte = omega arith
rank_small rule.NothingToContinue = omega arith
rank_small rule.UnknownControl = omega arith
rank_small rule.NoEnd = omega arith
rank_small rule.DeckTooLong = omega arith
rank_small rule.StatementTooLong = omega arith
rank_small rule.Memory = omega arith

-- the rule of a rank
abbrev ranked : ℕ → CardRule
ranked n = if n == 1 then rule.BadByte else (if n == 2 then rule.NothingToContinue else (if n == 3 then rule.UnknownControl
    else (if n == 4 then rule.NoEnd else (if n == 5 then rule.DeckTooLong else (if n == 6 then rule.StatementTooLong else rule.Memory)))))

ranked_back : (r : CardRule) → ranked (rank r) ≡ r
ranked_back rule.BadByte = refl
ranked_back rule.NothingToContinue = refl
ranked_back rule.UnknownControl = refl
ranked_back rule.NoEnd = refl
ranked_back rule.DeckTooLong = refl
ranked_back rule.StatementTooLong = refl
ranked_back rule.Memory = refl

two_parts : (a b x y : ℕ) → x < 8 → y < 8 → (nat_lt a b || ((a == b) && nat_lt x y)) ≡ nat_lt (8 * a + x) (8 * b + y)
two_parts a b x y h k = grind (arith, nat_tests)

less_key : (a b : CardFault) → is_less a b ≡ nat_lt (key a) (key b)
less_key a b = two_parts a.card b.card (rank a.rule) (rank b.rule) (rank_small a.rule) (rank_small b.rule)

same_fault : (a b : CardFault) → a.card ≡ b.card → a.rule ≡ b.rule → a ≡ b
same_fault a b e f = subst (λ x. a ≡ record { card = x; rule = b.rule }) e (subst (λ x. a ≡ record { card = a.card; rule = x }) f refl)

same_key : (a b : CardFault) → key a ≡ key b → a ≡ b
same_key a b h =
    let x = rank_small a.rule in
    let y = rank_small b.rule in
    let cards : a.card ≡ b.card = omega arith in
    let ranks : rank a.rule ≡ rank b.rule = omega arith in
    same_fault a b cards (sym (ranked_back a.rule) ∙ ap ranked ranks ∙ ranked_back b.rule)

abbrev pick : CardFault → CardFault → CardFault
pick a b = if nat_lt (key b) (key a) then b else a

lesser_is : (a b : CardFault) → lesser a (Some b) ≡ pick a b
lesser_is a b = rw (less_key b a) refl

data Order (a b : CardFault) : Type 0 where
  below : key a < key b → Order a b
  above : key b < key a → Order a b
  equal : a ≡ b → Order a b

not_less : (m n : ℕ) → n ≤ m → nat_lt m n ≡ false
not_less m n h = grind (arith, nat_tests)

is_lt : (m n : ℕ) → m < n → nat_lt m n ≡ true
is_lt m n h = grind (arith, nat_tests)

from_test : (m n : ℕ) → nat_lt m n ≡ true → m < n
from_test m n h = grind (arith, nat_tests)

from_no : (m n : ℕ) → nat_lt m n ≡ false → n ≤ m
from_no m n h = grind (arith, nat_tests)

order : (a b : CardFault) → Order a b
order a b = elim (cases_Bool (nat_lt (key a) (key b))) [
  | inl h ↦ below (from_test (key a) (key b) h)
  | inr h ↦ elim (cases_Bool (nat_lt (key b) (key a))) [
    | inl k ↦ above (from_test (key b) (key a) k)
    | inr k ↦ equal (same_key a b (let x = from_no (key a) (key b) h in let y = from_no (key b) (key a) k in omega arith))
  ]
]

pick_swap : (a b : CardFault) → pick a b ≡ pick b a
pick_swap a b = elim (order a b) [
  | below h ↦ rw (not_less (key b) (key a) (omega arith), is_lt (key a) (key b) h) refl
  | above h ↦ rw (is_lt (key b) (key a) h, not_less (key a) (key b) (omega arith)) refl
  | equal e ↦ rw e refl
]

pick_left : (a b : CardFault) → key a ≤ key b → pick a b ≡ a
pick_left a b h = rw (not_less (key b) (key a) h) refl

pick_right : (a b : CardFault) → key b < key a → pick a b ≡ b
pick_right a b h = rw (is_lt (key b) (key a) h) refl

pick_shift : (a b c : CardFault) → pick (pick a b) c ≡ pick a (pick b c)
pick_shift a b c = elim (cases_Bool (nat_lt (key b) (key a))) [
  | inl h ↦ (let ba = from_test (key b) (key a) h in
      elim (cases_Bool (nat_lt (key c) (key b))) [
        | inl k ↦ (let cb = from_test (key c) (key b) k in
            ap (λ x. pick x c) (pick_right a b ba) ∙ sym (ap (pick a) (pick_right b c cb) ∙ pick_right a c (omega arith) ∙ sym (pick_right b c cb)))
        | inr k ↦ (let bc = from_no (key c) (key b) k in
            ap (λ x. pick x c) (pick_right a b ba) ∙ pick_left b c bc ∙ sym (ap (pick a) (pick_left b c bc) ∙ pick_right a b ba))
      ])
  | inr h ↦ (let ab = from_no (key b) (key a) h in
      elim (cases_Bool (nat_lt (key c) (key b))) [
        | inl k ↦ (let cb = from_test (key c) (key b) k in
            ap (λ x. pick x c) (pick_left a b ab) ∙ sym (ap (pick a) (pick_right b c cb)))
        | inr k ↦ (let bc = from_no (key c) (key b) k in
            ap (λ x. pick x c) (pick_left a b ab) ∙ pick_left a c (omega arith) ∙ sym (ap (pick a) (pick_left b c bc) ∙ pick_left a b ab))
      ])
]

-- ---- of two that may be there

pub merge_none : (a : Option CardFault) → merge a None ≡ a
merge_none None = refl
merge_none (Some a) = refl

pub merge_swap : (a b : Option CardFault) → merge a b ≡ merge b a
merge_swap None b = sym (merge_none b)
merge_swap (Some a) None = refl
merge_swap (Some a) (Some b) = ap (λ x. Some x) (lesser_is a b ∙ pick_swap a b ∙ sym (lesser_is b a))

pub merge_shift : (a b c : Option CardFault) → merge (merge a b) c ≡ merge a (merge b c)
merge_shift None b c = refl
merge_shift (Some a) None c = refl
merge_shift (Some a) (Some b) None = refl
merge_shift (Some a) (Some b) (Some c) =
    ap (λ x. Some x) (lesser_is (lesser a (Some b)) c ∙ ap (λ x. pick x c) (lesser_is a b) ∙ pick_shift a b c
    ∙ sym (lesser_is a (lesser b (Some c)) ∙ ap (pick a) (lesser_is b c)))

-- of four, the two in the middle change places
pub merge_middle : (a b c d : Option CardFault) → merge (merge a b) (merge c d) ≡ merge (merge a c) (merge b d)
merge_middle a b c d =
    merge_shift a b (merge c d)
    ∙ ap (merge a) (sym (merge_shift b c d) ∙ ap (λ x. merge x d) (merge_swap b c) ∙ merge_shift c b d)
    ∙ sym (merge_shift a c (merge b d))

pub least_append : (xs ys : List CardFault) → least (xs ++ ys) ≡ merge (least xs) (least ys)
least_append [] ys = refl
least_append (x ∷ xs) ys = ap (merge (Some x)) (least_append xs ys) ∙ sym (merge_shift (Some x) (least xs) (least ys))
