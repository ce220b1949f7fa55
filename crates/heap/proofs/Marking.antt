-- Marks that are set, and numbers that wait.
use Rattle.std.proofs.Common.{◌≡◌, ℕ, zero, suc, ◌+◌, ◌<◌, List, [], ◌∷◌, ◌++◌, length, Bool, true, false, refl, sym, ap, ◌∙◌, subst, arith, ◌⊎◌, inl, inr}
use Rattle.std.specs.Prelude.{slice_set, nat_eq, if◌then◌else◌, replicate}
use Rattle.std.proofs.lemmas.Grind.{common_steps}
use Rattle.model.specs.Machine.Living.{Grows}
use Rattle.heap.specs.Marked.{marked_by, MarksView, HasMarked, waits}

true_false : {A : Type 0} → true ≡ false → A
true_false e = absurd (cc)

pub by_bool : (b : Bool) → (b ≡ true) ⊎ (b ≡ false)
by_bool true = inl refl
by_bool false = inr refl

-- ---- numbers that wait

pub waits_last : (xs : List ℕ) (k : ℕ) → waits (xs ++ k ∷ []) k ≡ true
waits_last [] k = grind (arith, common_steps)
waits_last (x ∷ xs) k = by (nat_eq x k) (waits_last xs k)
  where
    by : (b : Bool) → waits (xs ++ k ∷ []) k ≡ true → (if b then true else waits (xs ++ k ∷ []) k) ≡ true
    by true h = refl
    by false h = h

pub waits_on : (xs : List ℕ) (n k : ℕ) → waits xs k ≡ true → waits (xs ++ n ∷ []) k ≡ true
waits_on [] n k h = absurd (cc)
waits_on (x ∷ xs) n k h = by (nat_eq x k) h (waits_on xs n k)
  where
    by : (b : Bool) → (if b then true else waits xs k) ≡ true → (waits xs k ≡ true → waits (xs ++ n ∷ []) k ≡ true) → (if b then true else waits (xs ++ n ∷ []) k) ≡ true
    by true q rest = refl
    by false q rest = rest q

-- all that waited but the last waits on
pub waits_but : (xs : List ℕ) (n k : ℕ) → waits (xs ++ n ∷ []) k ≡ true → nat_eq n k ≡ false → waits xs k ≡ true
waits_but [] n k h e = absurd (cc)
waits_but (x ∷ xs) n k h e = by (nat_eq x k) h (λ q. waits_but xs n k q e)
  where
    by : (b : Bool) → (if b then true else waits (xs ++ n ∷ []) k) ≡ true → (waits (xs ++ n ∷ []) k ≡ true → waits xs k ≡ true) → (if b then true else waits xs k) ≡ true
    by true q rest = refl
    by false q rest = rest q

-- ---- one mark more

pub marked_here : (bs : List Bool) (n : ℕ) → marked_by (slice_set bs n true) n ≡ true
marked_here [] n = refl
marked_here (b ∷ bs) zero = refl
marked_here (b ∷ bs) (suc n) = marked_here bs n

pub marked_still : (bs : List Bool) (n : ℕ) → Grows (marked_by bs) (marked_by (slice_set bs n true))
marked_still [] n k h = h
marked_still (b ∷ bs) zero zero h = refl
marked_still (b ∷ bs) zero (suc k) h = h
marked_still (b ∷ bs) (suc n) zero h = h
marked_still (b ∷ bs) (suc n) (suc k) h = marked_still bs n k h

-- a number with a new mark is the one that was marked
pub marked_alone : (bs : List Bool) (n k : ℕ) → marked_by bs k ≡ false → marked_by (slice_set bs n true) k ≡ true → n ≡ k
marked_alone [] n k f t = true_false (sym t ∙ f)
marked_alone (b ∷ bs) zero zero f t = refl
marked_alone (b ∷ bs) zero (suc k) f t = true_false (sym t ∙ f)
marked_alone (b ∷ bs) (suc n) zero f t = true_false (sym t ∙ f)
marked_alone (b ∷ bs) (suc n) (suc k) f t = ap suc (marked_alone bs n k f t)

set_long : (bs : List Bool) (n : ℕ) (b : Bool) → length (slice_set bs n b) ≡ length bs
set_long [] n b = refl
set_long (x ∷ bs) zero b = refl
set_long (x ∷ bs) (suc n) b = ap suc (set_long bs n b)

pub none_marked : (m : MarksView) → HasMarked m m
none_marked m = record { long = refl; grows = λ k h. h; listed = λ k f t. true_false (sym t ∙ f); kept = λ k h. h }

pub one_marked : (m : MarksView) (n : ℕ) → HasMarked m (record { marked = slice_set m.marked n true; waiting = m.waiting ++ n ∷ [] })
one_marked m n = record {
  long = set_long m.marked n true;
  grows = marked_still m.marked n;
  listed = λ k f t. subst (λ j. waits (m.waiting ++ n ∷ []) j ≡ true) (marked_alone m.marked n k f t) (waits_last m.waiting n);
  kept = λ k h. waits_on m.waiting n k h;
}

-- more marks, and more again
pub marked_on : (a b c : MarksView) → HasMarked a b → HasMarked b c → HasMarked a c
marked_on a b c h k = record {
  long = k.long ∙ h.long;
  grows = λ n m. k.grows n (h.grows n m);
  listed = λ n f t. by n (marked_by b.marked n) refl f t;
  kept = λ n m. k.kept n (h.kept n m);
}
  where
    by : (n : ℕ) (x : Bool) → marked_by b.marked n ≡ x → marked_by a.marked n ≡ false → marked_by c.marked n ≡ true → waits c.waiting n ≡ true
    by n true e f t = k.kept n (h.listed n f e)
    by n false e f t = k.listed n e t

-- ---- no mark

pub one_more : (n : ℕ) → replicate n false ++ false ∷ [] ≡ replicate (n + 1) false
one_more n = grind (arith, common_steps)

pub none_at : (n k : ℕ) → k < n → marked_by (replicate n false) k ≡ false
none_at zero k lt = absurd (omega arith)
none_at (suc n) zero lt = refl
none_at (suc n) (suc k) lt = none_at n k (omega arith)
