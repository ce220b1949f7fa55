-- The ends of a plain pattern in pattern order, and the ends that it permits.
use Rattle.std.specs.Prelude.{◌≡◌, ℕ, zero, suc, ◌+◌, ◌-◌, List, [], ◌∷◌, ◌++◌, take, drop, ◌⊎◌}
use Rattle.model.specs.Pattern.Patterns.{Lit, Pat, Plain, Succeed, Abort, Fence, Cat, Alt, Arbno, FenceOf, Cond, Imm, At, Defer, DeferBasic, Pending, Event, Running, Failed, Matched}
use Rattle.model.specs.Pattern.BasicEnds.{ends_at}
use Rattle.model.specs.Deck.Trees.{Expr}

pub data Item : Type 0 where
  End : ℕ → Pending → Item
  Aborted Deep : Item

-- one list after another, cut after the first Aborted or Deep
abbrev pub join : List Item → List Item → List Item
join [] ys = ys
join (End e a ∷ xs) ys = End e a ∷ join xs ys
join (Aborted ∷ xs) ys = Aborted ∷ []
join (Deep ∷ xs) ys = Deep ∷ []

-- each end replaced by a list
abbrev pub replaced : (ℕ → Pending → List Item) → List Item → List Item
replaced f [] = []
replaced f (End e a ∷ xs) = join (f e a) (replaced f xs)
replaced f (Aborted ∷ xs) = Aborted ∷ []
replaced f (Deep ∷ xs) = Deep ∷ []

-- assignments before, and one after, those of each end
abbrev pub put_before : Pending → List Item → List Item
put_before a xs = replaced (λ e b. End e (a ++ b) ∷ []) xs

-- the first item, or none
abbrev pub first_only : List Item → List Item
first_only [] = []
first_only (i ∷ xs) = i ∷ []

abbrev pub plain_ends : List ℕ → List Item
plain_ends [] = []
plain_ends (e ∷ es) = End e [] ∷ plain_ends es

-- the bytes of the subject from b to c
abbrev pub between : List ℕ → ℕ → ℕ → List ℕ
between s b c = take (c - b) (drop b s)

-- the ends of p from c: on the subject s, at bound n. What isn't plain has none
abbrev pub ends : List ℕ → ℕ → Pat → ℕ → List Item
ends s zero p c = Deep ∷ []
ends s (suc n) (Plain k) c = plain_ends (ends_at s k c)
ends s (suc n) Succeed c = End c [] ∷ ends s n Succeed c
ends s (suc n) Abort c = Aborted ∷ []
ends s (suc n) Fence c = End c [] ∷ Aborted ∷ []
ends s (suc n) (Cat p q) c = replaced (λ e a. put_before a (ends s n q e)) (ends s n p c)
ends s (suc n) (Alt p q) c = join (ends s n p c) (ends s n q c)
ends s (suc n) (Arbno p) c = ends s n (Alt (Plain (Lit [])) (Cat p (Arbno p))) c
ends s (suc n) (FenceOf p) c = first_only (ends s n p c)
ends s (suc n) (Cond p x) c = replaced (λ e a. End e (a ++ (x, between s c e) ∷ []) ∷ []) (ends s n p c)
ends s (suc n) (Imm p x) c = []
ends s (suc n) (At x) c = []
ends s (suc n) (Defer x) c = []
ends s (suc n) (DeferBasic k x) c = []

-- a pattern without `*E`, `$` and `@`
abbrev pub IsPlain : Pat → Type 0
IsPlain (Plain k) = Unit {0}
IsPlain Succeed = Unit {0}
IsPlain Abort = Unit {0}
IsPlain Fence = Unit {0}
IsPlain (Cat p q) = IsPlain p × IsPlain q
IsPlain (Alt p q) = IsPlain p × IsPlain q
IsPlain (Arbno p) = IsPlain p
IsPlain (FenceOf p) = IsPlain p
IsPlain (Cond p x) = IsPlain p
IsPlain (Imm p x) = ⊥
IsPlain (At x) = ⊥
IsPlain (Defer x) = ⊥
IsPlain (DeferBasic k x) = ⊥

-- a pattern of literals, `|` and blank
abbrev pub IsOfLiterals : Pat → Type 0
IsOfLiterals (Plain (Lit w)) = Unit {0}
IsOfLiterals (Cat p q) = IsOfLiterals p × IsOfLiterals q
IsOfLiterals (Alt p q) = IsOfLiterals p × IsOfLiterals q
IsOfLiterals _ = ⊥

-- the first item over the starts b, b + 1, .. of which left more are to come
abbrev pub first_item : ℕ → List Item → Event Expr → Event Expr
first_item b [] later = later
first_item b (End e a ∷ xs) later = Matched b e a
first_item b (Aborted ∷ xs) later = Failed
first_item b (Deep ∷ xs) later = Running

abbrev pub first : List ℕ → ℕ → Pat → ℕ → ℕ → Event Expr
first s n p zero b = first_item b (ends s n p b) Failed
first s n p (suc left) b = first_item b (ends s n p b) (first s n p left (b + 1))

-- e is one of these
abbrev pub IsOneOf : List ℕ → ℕ → Type 0
IsOneOf [] e = ⊥
IsOneOf (x ∷ xs) e = (e ≡ x) ⊎ IsOneOf xs e

-- some k turns, each as r permits
abbrev pub Turns : (ℕ → ℕ → Pending → Type 0) → ℕ → ℕ → ℕ → Pending → Type 0
Turns r zero c e a = (e ≡ c) × (a ≡ [])
Turns r (suc k) c e a = (m : ℕ) × (a₁ : Pending) × (a₂ : Pending) × r c m a₁ × Turns r k m e a₂ × (a ≡ a₁ ++ a₂)

-- p permits the end e from c, with these assignments
abbrev pub Permits : List ℕ → Pat → ℕ → ℕ → Pending → Type 0
Permits s (Plain k) c e a = IsOneOf (ends_at s k c) e × (a ≡ [])
Permits s Succeed c e a = (e ≡ c) × (a ≡ [])
Permits s Abort c e a = ⊥
Permits s Fence c e a = (e ≡ c) × (a ≡ [])
Permits s (Cat p q) c e a =
    (m : ℕ) × (a₁ : Pending) × (a₂ : Pending) × Permits s p c m a₁ × Permits s q m e a₂ × (a ≡ a₁ ++ a₂)
Permits s (Alt p q) c e a = Permits s p c e a ⊎ Permits s q c e a
Permits s (Arbno p) c e a = (k : ℕ) × Turns (Permits s p) k c e a
Permits s (FenceOf p) c e a = Permits s p c e a
Permits s (Cond p x) c e a = (b : Pending) × Permits s p c e b × (a ≡ b ++ (x, between s c e) ∷ [])
Permits s (Imm p x) c e a = ⊥
Permits s (At x) c e a = ⊥
Permits s (Defer x) c e a = ⊥
Permits s (DeferBasic k x) c e a = ⊥
