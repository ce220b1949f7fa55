-- The ends of a pattern at a greater bound, and the ends that are permitted.
use Rattle.std.proofs.Common.{◌≡◌, ℕ, zero, suc, List, [], ◌∷◌, ◌++◌, refl, sym, ap, subst, arith, ◌≤◌, inl, inr}
use Rattle.model.specs.Pattern.Patterns.{Lit, Pat, Plain, Succeed, Abort, Fence, Cat, Alt, Arbno, FenceOf, Cond, Imm, At, Defer, DeferBasic, Pending}
use Rattle.model.specs.Pattern.BasicEnds.{ends_at}
use Rattle.model.specs.Pattern.Ends.{Item, End, Aborted, Deep, join, replaced, first_only, put_before, plain_ends, between, ends, IsOneOf, Permits}

-- xs without its Deep is a prefix of ys, and without a Deep it is ys
abbrev pub Begins : List Item → List Item → Type 0
Begins [] ys = ys ≡ []
Begins (End e a ∷ xs) ys = (zs : List Item) × (ys ≡ End e a ∷ zs) × Begins xs zs
Begins (Aborted ∷ xs) ys = (xs ≡ []) × (ys ≡ Aborted ∷ [])
Begins (Deep ∷ xs) ys = xs ≡ []

join_begins : (xs xs' ys ys' : List Item) → Begins xs xs' → Begins ys ys' → Begins (join xs ys) (join xs' ys')
join_begins [] xs' ys ys' g h = subst (λ z. Begins ys (join z ys')) (sym g) h
join_begins (End e a ∷ xs) xs' ys ys' g h =
    (join g.0 ys', ap (λ z. join z ys') g.1, join_begins xs g.0 ys ys' g.2 h)
join_begins (Aborted ∷ xs) xs' ys ys' g h = (refl, ap (λ z. join z ys') g.1)
join_begins (Deep ∷ xs) xs' ys ys' g h = refl

replaced_begins : (f g : ℕ → Pending → List Item) → ((e : ℕ) (a : Pending) → Begins (f e a) (g e a)) → (xs ys : List Item) → Begins xs ys → Begins (replaced f xs) (replaced g ys)
replaced_begins f g h [] ys r = ap (replaced g) r
replaced_begins f g h (End e a ∷ xs) ys r =
    subst (λ z. Begins (join (f e a) (replaced f xs)) (replaced g z)) (sym r.1)
    (join_begins (f e a) (g e a) (replaced f xs) (replaced g r.0) (h e a) (replaced_begins f g h xs r.0 r.2))
replaced_begins f g h (Aborted ∷ xs) ys r = (refl, ap (replaced g) r.1)
replaced_begins f g h (Deep ∷ xs) ys r = refl

plain_begins : (es : List ℕ) → Begins (plain_ends es) (plain_ends es)
plain_begins [] = refl
plain_begins (e ∷ es) = (plain_ends es, refl, plain_begins es)

one_begins : (e : ℕ) (a : Pending) → Begins (End e a ∷ []) (End e a ∷ [])
one_begins e a = ([], refl, refl)

first_begins : (xs ys : List Item) → Begins xs ys → Begins (first_only xs) (first_only ys)
first_begins [] ys h = ap first_only h
first_begins (End e a ∷ xs) ys h = ([], ap first_only h.1, refl)
first_begins (Aborted ∷ xs) ys h = (refl, ap first_only h.1)
first_begins (Deep ∷ xs) ys h = refl

pub ends_more : (s : List ℕ) (n m : ℕ) → n ≤ m → (p : Pat) (c : ℕ) → Begins (ends s n p c) (ends s m p c)
ends_more s zero m le p c = refl
ends_more s (suc n) zero le p c = absurd (omega arith)
ends_more s (suc n) (suc m) le (Plain k) c = plain_begins (ends_at s k c)
ends_more s (suc n) (suc m) le Succeed c = (ends s m Succeed c, refl, ends_more s n m (omega arith) Succeed c)
ends_more s (suc n) (suc m) le Abort c = (refl, refl)
ends_more s (suc n) (suc m) le Fence c = (Aborted ∷ [], refl, (refl, refl))
ends_more s (suc n) (suc m) le (Cat p q) c =
    replaced_begins (λ e a. put_before a (ends s n q e)) (λ e a. put_before a (ends s m q e))
    (λ e a. replaced_begins (λ d b. End d (a ++ b) ∷ []) (λ d b. End d (a ++ b) ∷ []) (λ d b. one_begins d (a ++ b)) (ends s n q e) (ends s m q e) (ends_more s n m (omega arith) q e))
    (ends s n p c) (ends s m p c) (ends_more s n m (omega arith) p c)
ends_more s (suc n) (suc m) le (Alt p q) c =
    join_begins (ends s n p c) (ends s m p c) (ends s n q c) (ends s m q c) (ends_more s n m (omega arith) p c) (ends_more s n m (omega arith) q c)
ends_more s (suc n) (suc m) le (Arbno p) c = ends_more s n m (omega arith) (Alt (Plain (Lit [])) (Cat p (Arbno p))) c
ends_more s (suc n) (suc m) le (FenceOf p) c = first_begins (ends s n p c) (ends s m p c) (ends_more s n m (omega arith) p c)
ends_more s (suc n) (suc m) le (Cond p x) c =
    replaced_begins (λ e a. End e (a ++ (x, between s c e) ∷ []) ∷ []) (λ e a. End e (a ++ (x, between s c e) ∷ []) ∷ [])
    (λ e a. one_begins e (a ++ (x, between s c e) ∷ [])) (ends s n p c) (ends s m p c) (ends_more s n m (omega arith) p c)
ends_more s (suc n) (suc m) le (Imm p x) c = refl
ends_more s (suc n) (suc m) le (At x) c = refl
ends_more s (suc n) (suc m) le (Defer x) c = refl
ends_more s (suc n) (suc m) le (DeferBasic k x) c = refl

-- each end has the property
abbrev pub EachEnd : (ℕ → Pending → Type 0) → List Item → Type 0
EachEnd r [] = Unit {0}
EachEnd r (End e a ∷ xs) = r e a × EachEnd r xs
EachEnd r (Aborted ∷ xs) = EachEnd r xs
EachEnd r (Deep ∷ xs) = EachEnd r xs

each_join : (r : ℕ → Pending → Type 0) (xs ys : List Item) → EachEnd r xs → EachEnd r ys → EachEnd r (join xs ys)
each_join r [] ys g h = h
each_join r (End e a ∷ xs) ys g h = (g.0, each_join r xs ys g.1 h)
each_join r (Aborted ∷ xs) ys g h = tt
each_join r (Deep ∷ xs) ys g h = tt

each_replaced : (q r : ℕ → Pending → Type 0) (f : ℕ → Pending → List Item) → ((e : ℕ) (a : Pending) → q e a → EachEnd r (f e a)) → (xs : List Item) → EachEnd q xs → EachEnd r (replaced f xs)
each_replaced q r f h [] g = tt
each_replaced q r f h (End e a ∷ xs) g = each_join r (f e a) (replaced f xs) (h e a g.0) (each_replaced q r f h xs g.1)
each_replaced q r f h (Aborted ∷ xs) g = tt
each_replaced q r f h (Deep ∷ xs) g = tt

each_weaker : (q r : ℕ → Pending → Type 0) → ((e : ℕ) (a : Pending) → q e a → r e a) → (xs : List Item) → EachEnd q xs → EachEnd r xs
each_weaker q r h [] g = tt
each_weaker q r h (End e a ∷ xs) g = (h e a g.0, each_weaker q r h xs g.1)
each_weaker q r h (Aborted ∷ xs) g = each_weaker q r h xs g
each_weaker q r h (Deep ∷ xs) g = each_weaker q r h xs g

each_first : (r : ℕ → Pending → Type 0) (xs : List Item) → EachEnd r xs → EachEnd r (first_only xs)
each_first r [] g = tt
each_first r (End e a ∷ xs) g = (g.0, tt)
each_first r (Aborted ∷ xs) g = tt
each_first r (Deep ∷ xs) g = tt

each_plain : (all es : List ℕ) → ((e : ℕ) → IsOneOf es e → IsOneOf all e) → EachEnd (λ e a. IsOneOf all e × (a ≡ [])) (plain_ends es)
each_plain all [] h = tt
each_plain all (e ∷ es) h = ((h e (inl refl), refl), each_plain all es (λ d g. h d (inr g)))

turn_permitted : (s : List ℕ) (p : Pat) (c e : ℕ) (a : Pending) → Permits s (Alt (Plain (Lit [])) (Cat p (Arbno p))) c e a → Permits s (Arbno p) c e a
turn_permitted s p c e a (inl (inl g, h)) = (0, (omega arith, h))
turn_permitted s p c e a (inl (inr g, h)) = elim g [ ]
turn_permitted s p c e a (inr (m, a₁, a₂, g, h, w)) = (suc h.0, (m, a₁, a₂, g, h.1, w))

pub each_permitted : (s : List ℕ) (n : ℕ) (p : Pat) (c : ℕ) → EachEnd (Permits s p c) (ends s n p c)
each_permitted s zero p c = tt
each_permitted s (suc n) (Plain k) c = each_plain (ends_at s k c) (ends_at s k c) (λ e g. g)
each_permitted s (suc n) Succeed c = ((refl, refl), each_permitted s n Succeed c)
each_permitted s (suc n) Abort c = tt
each_permitted s (suc n) Fence c = ((refl, refl), tt)
each_permitted s (suc n) (Cat p q) c =
    each_replaced (Permits s p c) (Permits s (Cat p q) c) (λ e a. put_before a (ends s n q e))
    (λ e a g. each_replaced (Permits s q e) (Permits s (Cat p q) c) (λ d b. End d (a ++ b) ∷ []) (λ d b h. ((e, a, b, g, h, refl), tt)) (ends s n q e) (each_permitted s n q e))
    (ends s n p c) (each_permitted s n p c)
each_permitted s (suc n) (Alt p q) c =
    each_join (Permits s (Alt p q) c) (ends s n p c) (ends s n q c)
    (each_weaker (Permits s p c) (Permits s (Alt p q) c) (λ e a g. inl g) (ends s n p c) (each_permitted s n p c))
    (each_weaker (Permits s q c) (Permits s (Alt p q) c) (λ e a g. inr g) (ends s n q c) (each_permitted s n q c))
each_permitted s (suc n) (Arbno p) c =
    each_weaker (Permits s (Alt (Plain (Lit [])) (Cat p (Arbno p))) c) (Permits s (Arbno p) c) (λ e a g. turn_permitted s p c e a g) (ends s n (Alt (Plain (Lit [])) (Cat p (Arbno p))) c)
    (each_permitted s n (Alt (Plain (Lit [])) (Cat p (Arbno p))) c)
each_permitted s (suc n) (FenceOf p) c = each_first (Permits s p c) (ends s n p c) (each_permitted s n p c)
each_permitted s (suc n) (Cond p x) c =
    each_replaced (Permits s p c) (Permits s (Cond p x) c) (λ e a. End e (a ++ (x, between s c e) ∷ []) ∷ [])
    (λ e a g. ((a, g, refl), tt)) (ends s n p c) (each_permitted s n p c)
each_permitted s (suc n) (Imm p x) c = tt
each_permitted s (suc n) (At x) c = tt
each_permitted s (suc n) (Defer x) c = tt
each_permitted s (suc n) (DeferBasic k x) c = tt
