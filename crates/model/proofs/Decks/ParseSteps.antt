-- One step of a parser, taken apart.
use Rattle.std.proofs.Common.{◌≡◌, refl, sym, ◌∙◌, ap, ap₂, ℕ, suc, ◌==◌, ◌⊎◌, inl, inr, Bool, true, false, List, [], ◌∷◌, ◌++◌, arith, rules}
use Rattle.std.specs.Prelude.{Option, Some, None, if◌then◌else◌}
use denote.Enum.Bare.{same_true}
use Rattle.model.specs.contracts.tokens.Mark.{the_type}
use Rattle.model.specs.declared.tokens.Mark.{Mark}
use Rattle.model.specs.declared.tokens.Mark.TheVariants as mark
use Rattle.model.specs.declared.trees.Binary.{Binary}
use Rattle.model.specs.declared.trees.Binary.TheVariants as binary
use Rattle.model.specs.Deck.Tokens.{Tok, Blank, Word, Digits, Quoted, Sign}
use Rattle.model.specs.Deck.Grammar.{grade, left, right, link, spaced, gap}
use Rattle.model.specs.Deck.Parse.{Parser, bind, Onward, Ends, Sees, next, on, by_role, role, binary_or_unary, infix_by, skip, expect, sees, same, tail, at_end}

pub bind_some : {A B : Type 0} (r : Option (A × List Tok)) (f : A → Parser B) (q : B × List Tok) → bind r f ≡ Some q
    → (p : A × List Tok) × (r ≡ Some p) × (f p.0 p.1 ≡ Some q)
unfolding bind
bind_some None f q h = absurd (cc)
bind_some (Some p) f q h = (p, refl, h)

pub bind_is : {A B : Type 0} (r : Option (A × List Tok)) (f : A → Parser B) (p : A × List Tok) → r ≡ Some p → bind r f ≡ f p.0 p.1
unfolding bind
bind_is r f p e = ap (λ x. bind x f) e

pub some_same : {A : Type 0} (x y : A) → Some x ≡ Some y → x ≡ y
some_same x y h = cc

pub if_is : {A : Type 0} (b : Bool) (x y z : A) → (if b then x else y) ≡ z → ((b ≡ true) × (x ≡ z)) ⊎ ((b ≡ false) × (y ≡ z))
if_is true x y z h = inl (refl, h)
if_is false x y z h = inr (refl, h)

pub record Goes {A : Type 0} (x : Onward) (k : ℕ) (go : Binary → List Tok → A) (y : A) : Type 0 where
  pub op : Binary
  pub after : List Tok
  pub is : x ≡ Sees op after
  pub at : (grade op == k) ≡ true
  pub gives : go op after ≡ y

pub on_is : {A : Type 0} (x : Onward) (k : ℕ) (stop : A) (go : Binary → List Tok → A) (y : A) → on x k stop go ≡ y → (stop ≡ y) ⊎ Goes x k go y
unfolding on
on_is Ends k stop go y h = inl h
on_is (Sees op after) k stop go y h = elim (if_is (grade op == k) (go op after) stop y h) [
  | inl c ↦ inr (record { op = op; after = after; is = refl; at = c.0; gives = c.1 })
  | inr c ↦ inl c.1
]

pub expect_some : {A : Type 0} (m : Mark) (a : A) (ts : List Tok) (q : A × List Tok) → expect m a ts ≡ Some q
    → (sees m ts ≡ true) × ((a, tail ts) ≡ q)
unfolding expect
expect_some m a ts q h = elim (if_is (sees m ts) (Some (a, tail ts)) None (Some q) h) [
  | inl c ↦ (c.0, some_same (a, tail ts) q c.1)
  | inr c ↦ absurd (cc)
]

-- the marks that are expected somewhere
pub data Wanted : Mark → Type 0 where
  opening : Wanted mark.Open
  close : Wanted mark.Close
  less : Wanted mark.Less
  greater : Wanted mark.Greater
  at_comma : Wanted mark.Comma
  at_equal : Wanted mark.Equal
  at_colon : Wanted mark.Colon
  at_dollar : Wanted mark.Dollar

pub same_is : (m : Mark) → Wanted m → (n : Mark) → same m n ≡ true → m ≡ n
same_is m w n h = same_true the_type (search rules) m n h

pub sees_is : (m : Mark) → Wanted m → (ts : List Tok) → sees m ts ≡ true → ts ≡ Sign m ∷ tail ts
unfolding sees
sees_is m w [] h = absurd (cc)
sees_is m w (Blank ∷ ts) h = absurd (cc)
sees_is m w (Word s ∷ ts) h = absurd (cc)
sees_is m w (Digits n ∷ ts) h = absurd (cc)
sees_is m w (Quoted s ∷ ts) h = absurd (cc)
sees_is m w (Sign n ∷ ts) h = ap (λ x. Sign x ∷ ts) (sym (same_is m w n h))

pub skip_gap : (ts : List Tok) → (g : Bool) × (ts ≡ gap g ++ skip ts)
unfolding skip
skip_gap [] = (false, refl)
skip_gap (Blank ∷ ts) = (true, refl)
skip_gap (Word s ∷ ts) = (false, refl)
skip_gap (Digits n ∷ ts) = (false, refl)
skip_gap (Quoted s ∷ ts) = (false, refl)
skip_gap (Sign n ∷ ts) = (false, refl)

abbrev text_of : Onward → List Tok
text_of Ends = []
text_of (Sees op ts) = link op ++ ts

either_sound : (op' : Binary) (m : Mark) (ts : List Tok) (op : Binary) (after : List Tok) → link op' ≡ spaced m → binary_or_unary op' m ts ≡ Sees op after → Blank ∷ Sign m ∷ ts ≡ link op ++ after
either_sound op' m [] op after l h = ap text_of h
either_sound op' m (Blank ∷ ts) op after l h = ap (λ x. x ++ ts) (sym l) ∙ ap text_of h
either_sound op' m (Word s ∷ ts) op after l h = ap text_of h
either_sound op' m (Digits s ∷ ts) op after l h = ap text_of h
either_sound op' m (Quoted s ∷ ts) op after l h = ap text_of h
either_sound op' m (Sign s ∷ ts) op after l h = ap text_of h

infix_sound : (op' : Binary) (m : Mark) (ts : List Tok) (op : Binary) (after : List Tok) → link op' ≡ spaced m → infix_by op' ts ≡ Sees op after → Blank ∷ Sign m ∷ ts ≡ link op ++ after
infix_sound op' m [] op after l h = absurd (cc)
infix_sound op' m (Blank ∷ ts) op after l h = ap (λ x. x ++ ts) (sym l) ∙ ap text_of h
infix_sound op' m (Word s ∷ ts) op after l h = absurd (cc)
infix_sound op' m (Digits s ∷ ts) op after l h = absurd (cc)
infix_sound op' m (Quoted s ∷ ts) op after l h = absurd (cc)
infix_sound op' m (Sign s ∷ ts) op after l h = absurd (cc)

role_sound : (m : Mark) (ts : List Tok) (op : Binary) (after : List Tok) → by_role (role m) m ts ≡ Sees op after → Blank ∷ Sign m ∷ ts ≡ link op ++ after
role_sound mark.Power ts op after h = infix_sound binary.Power mark.Power ts op after refl h
role_sound mark.Open ts op after h = ap text_of h
role_sound mark.Close ts op after h = absurd (cc)
role_sound mark.Less ts op after h = absurd (cc)
role_sound mark.Greater ts op after h = absurd (cc)
role_sound mark.Comma ts op after h = absurd (cc)
role_sound mark.Equal ts op after h = absurd (cc)
role_sound mark.Colon ts op after h = absurd (cc)
role_sound mark.Star ts op after h = either_sound binary.Multiply mark.Star ts op after refl h
role_sound mark.Slash ts op after h = infix_sound binary.Divide mark.Slash ts op after refl h
role_sound mark.Plus ts op after h = either_sound binary.Add mark.Plus ts op after refl h
role_sound mark.Minus ts op after h = either_sound binary.Subtract mark.Minus ts op after refl h
role_sound mark.Dot ts op after h = either_sound binary.Conditional mark.Dot ts op after refl h
role_sound mark.Dollar ts op after h = either_sound binary.Immediate mark.Dollar ts op after refl h
role_sound mark.At ts op after h = ap text_of h
role_sound mark.Question ts op after h = ap text_of h
role_sound mark.Ampersand ts op after h = ap text_of h
role_sound mark.Bar ts op after h = infix_sound binary.Alternate mark.Bar ts op after refl h
role_sound mark.Tilde ts op after h = ap text_of h

pub next_sound : (ts : List Tok) (op : Binary) (after : List Tok) → next ts ≡ Sees op after → ts ≡ link op ++ after
unfolding next
next_sound [] op after h = absurd (cc)
next_sound (Blank ∷ []) op after h = absurd (cc)
next_sound (Blank ∷ Blank ∷ ts) op after h = absurd (cc)
next_sound (Blank ∷ Word s ∷ ts) op after h = ap text_of h
next_sound (Blank ∷ Digits s ∷ ts) op after h = ap text_of h
next_sound (Blank ∷ Quoted s ∷ ts) op after h = ap text_of h
next_sound (Blank ∷ Sign m ∷ ts) op after h = role_sound m ts op after h
next_sound (Word s ∷ ts) op after h = absurd (cc)
next_sound (Digits s ∷ ts) op after h = absurd (cc)
next_sound (Quoted s ∷ ts) op after h = absurd (cc)
next_sound (Sign s ∷ ts) op after h = absurd (cc)

-- the operands' grades, by the operator's
pub left_side : (op : Binary) (k : ℕ) → (grade op == suc k) ≡ true → (k == 1) ≡ false → (left op ≡ suc k) × (right op ≡ k)
left_side binary.Conditional k h n = let e : k ≡ 0 = grind arith in (grind arith, grind arith)
left_side binary.Immediate k h n = let e : k ≡ 0 = grind arith in (grind arith, grind arith)
left_side binary.Power k h n = absurd (grind arith)
left_side binary.Multiply k h n = let e : k ≡ 2 = grind arith in (grind arith, grind arith)
left_side binary.Divide k h n = let e : k ≡ 3 = grind arith in (grind arith, grind arith)
left_side binary.Add k h n = let e : k ≡ 4 = grind arith in (grind arith, grind arith)
left_side binary.Subtract k h n = let e : k ≡ 4 = grind arith in (grind arith, grind arith)
left_side binary.Concatenate k h n = let e : k ≡ 5 = grind arith in (grind arith, grind arith)
left_side binary.Alternate k h n = let e : k ≡ 6 = grind arith in (grind arith, grind arith)

-- what is read is all
abbrev pub All : {A : Type 0} → Option (A × List Tok) → A → Type 0
All o a = o ≡ Some (a, [])

finish_at : {A : Type 0} (a : A) (p : A × List Tok) (rest : List Tok) → p.1 ≡ rest → at_end (Some (p.0, rest)) ≡ Some a → All (Some p) a
finish_at a p [] i h = ap₂ (λ x y. Some (x, y)) (some_same p.0 a h) i
finish_at a p (t ∷ rest) i h = absurd (cc)

pub finish_is : {A : Type 0} (o : Option (A × List Tok)) (a : A) → at_end o ≡ Some a → All o a
finish_is None a h = absurd (cc)
finish_is (Some p) a h = finish_at a p p.1 refl h
