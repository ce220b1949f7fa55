-- A list with another item.
use Rattle.std.proofs.Common.{◌∙◌, append_assoc, subst, ◌-◌, Bool, true, false, Option, ◌≡◌, ℕ, zero, suc, ◌+◌, ◌<◌, ◌≤◌, List, [], ◌∷◌, ◌++◌, length, replicate, Some, None, refl, sym, ap, arith}
use Rattle.std.specs.Prelude.{slice_get, slice_set}
use Rattle.std.proofs.lemmas.List.{append-nil, length-replicate, replicate-append-replicate}
use Rattle.model.specs.Language.Operators.{with_item, onto}
use Rattle.aggregates.specs.Elements.{rest_of}
use Rattle.aggregates.specs.Made.{StandBelow}
use Rattle.aggregates.specs.Objects.{if_stored}

pub with_item_past : {V : Type 0} (n : ℕ) (v : V) (xs : List V) → length xs ≤ n → with_item n v xs ≡ None
with_item_past n v [] le = refl
with_item_past zero v (x ∷ xs) le = absurd (omega arith)
with_item_past (suc n) v (x ∷ xs) le = ap (onto x) (with_item_past n v xs (omega arith))

pub with_item_set : {V : Type 0} (n : ℕ) (v : V) (xs : List V) → n < length xs → with_item n v xs ≡ Some (slice_set xs n v)
with_item_set n v [] lt = absurd (omega arith)
with_item_set zero v (x ∷ xs) lt = refl
with_item_set (suc n) v (x ∷ xs) lt = ap (onto x) (with_item_set n v xs (omega arith))

pub with_item_front : {V : Type 0} (n : ℕ) (v : V) (xs ys : List V) → n < length xs → with_item n v (xs ++ ys) ≡ Some (slice_set xs n v ++ ys)
with_item_front n v [] ys lt = absurd (omega arith)
with_item_front zero v (x ∷ xs) ys lt = refl
with_item_front (suc n) v (x ∷ xs) ys lt = ap (onto x) (with_item_front n v xs ys (omega arith))

-- what is stored in front leaves what stands behind
pub stored_front : {V : Type 0} (n : ℕ) (v : V) (xs new ys : List V) → n < length xs → Some new ≡ with_item n v xs → with_item n v (xs ++ ys) ≡ Some (new ++ ys)
stored_front n v xs new ys lt e =
    let same : Some new ≡ Some (slice_set xs n v) = e ∙ with_item_set n v xs lt in
    let is : slice_set xs n v ≡ new = cc in
    with_item_front n v xs ys lt ∙ ap (λ l. Some (l ++ ys)) is

not_below : (n m : ℕ) → (n < m → false ≡ true) → m ≤ n
not_below n m below = grind (arith, below)

-- what isn't stored has no place
pub stored_or_past : {V : Type 0} (b : Bool) (n : ℕ) (v : V) (xs new : List V) → (b ≡ true → with_item n v xs ≡ Some new) → (n < length xs → b ≡ true) → if_stored b new ≡ with_item n v xs
stored_or_past true n v xs new stored there = sym (stored refl)
stored_or_past false n v xs new stored there = sym (with_item_past n v xs (not_below n (length xs) there))

sums : (more all : ℕ) → more ≤ all → more + (all - more) ≡ all
sums more all le = omega arith

-- items that are written are as many fewer that aren't
pub rest_written : {V : Type 0} (xs : List V) (x : V) (more all : ℕ) (rest : Option V) → rest ≡ Some x → more ≤ all → (xs ++ replicate more x) ++ rest_of rest (all - more) ≡ xs ++ rest_of rest all
rest_written xs x more all rest is le =
    subst (λ r. (xs ++ replicate more x) ++ rest_of r (all - more) ≡ xs ++ rest_of r all) (sym is)
    (append_assoc xs (replicate more x) (replicate (all - more) x)
    ∙ ap (λ l. xs ++ l) (replicate-append-replicate more (all - more) x ∙ ap (λ k. replicate k x) (sums more all le)))

pub replicate_more : {V : Type 0} (n : ℕ) (x : V) → replicate (n + 1) x ≡ replicate n x ++ x ∷ []
replicate_more n x = sym (replicate-append-replicate n 1 x)

-- each value of a list stands below its length
pub all_stand : {V : Type 0} (vs : List V) → StandBelow (length vs) vs
all_stand vs k lt = (k, lt, refl)

replicate_at : {V : Type 0} (n k : ℕ) (v : V) → k < n → slice_get (replicate n v) k ≡ Some v
replicate_at zero k v lt = absurd (omega arith)
replicate_at (suc n) zero v lt = refl
replicate_at (suc n) (suc k) v lt = replicate_at n k v (omega arith)

rest_stand : {V : Type 0} (ws : List V) (v : V) (n : ℕ) → StandBelow (length ws + 1) (ws ++ replicate n v)
rest_stand [] v zero k lt = absurd (omega arith)
rest_stand [] v (suc n) k lt = (0, omega arith, sym (replicate_at (suc n) k v (subst (λ m. k < m) (length-replicate (suc n) v) lt)))
rest_stand (x ∷ ws) v n zero lt = (0, omega arith, refl)
rest_stand (x ∷ ws) v n (suc k) lt = let h = rest_stand ws v n k (omega arith) in (suc h.0, omega (arith, h.1), h.2)

-- of elements that aren't written one stands behind those that are
pub unwritten_stand : {V : Type 0} (ws : List V) (o : Option V) (n : ℕ) → StandBelow (length ws + 1) (ws ++ rest_of o n)
unwritten_stand ws None n k lt = (k, (let le : k < length ws = subst (λ vs. k < length vs) (append-nil ws) lt in omega arith), refl)
unwritten_stand ws (Some v) n k lt = rest_stand ws v n k lt

all_written : {V : Type 0} (ws : List V) (o : Option V) (n : ℕ) → n ≡ 0 → ws ++ rest_of o n ≡ ws
all_written ws None n e = append-nil ws
all_written ws (Some v) n e = ap (λ m. ws ++ replicate m v) e ∙ append-nil ws

-- and none where all are
pub written_stand : {V : Type 0} (ws : List V) (o : Option V) (n : ℕ) → n ≡ 0 → StandBelow (length ws) (ws ++ rest_of o n)
written_stand {V} ws o n none = subst (λ (vs : List V). StandBelow (length ws) vs) (sym (all_written ws o n none)) (all_stand ws)
