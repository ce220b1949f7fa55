-- Marks that reach all that is held.
use Rattle.std.proofs.Common.{◌≡◌, ℕ, suc, ◌+◌, ◌-◌, ◌<◌, ◌≤◌, List, [], ◌∷◌, length, Option, Some, None, Bool, true, false, refl, subst, arith}
use Rattle.std.specs.Prelude.{slice_get, bytes_eq, if◌then◌else◌, nat_eq}
use Rattle.std.specs.List.{AllByRecursion}
use Rattle.std.specs.Map.{lookup}
use Rattle.std.proofs.lemmas.Grind.{common_steps}
use Rattle.model.specs.Deck.Trees.{Bytes}
use Rattle.model.specs.Machine.Living.{ValueLives}
use Rattle.heap.specs.Marked.{HasMarked, MarksView, marks_in}
use Rattle.world.specs.Held.{value_in, variable_at}
use Rattle.values.proofs.Living.{LivesBy, lives_on}
use Rattle.values.specs.declared.value.Value.{Value}
use Rattle.values.specs.declared.variable.Variable.{Variable}

-- ---- items by their places

-- each item below a place has it
abbrev pub AllBelow : {A : Type 0} → (A → Type 0) → ℕ → List A → Type 0
AllBelow {A} P n xs = (k : ℕ) (x : A) → k < n → slice_get xs k ≡ Some x → P x

pub below_weaker : {A : Type 0} (P Q : A → Type 0) (n : ℕ) (xs : List A) → ((x : A) → P x → Q x) → AllBelow P n xs → AllBelow Q n xs
below_weaker P Q n xs f h k x lt e = f x (h k x lt e)

pub below_next : {A : Type 0} (P : A → Type 0) (n : ℕ) (xs : List A) → ((x : A) → slice_get xs n ≡ Some x → P x) → AllBelow P n xs → AllBelow P (n + 1) xs
below_next {A} P n xs f h k x lt e = by (nat_eq k n) refl
  where
    by : (b : Bool) → nat_eq k n ≡ b → P x
    by true q = let same : k ≡ n = grind (arith, common_steps) in f x (subst (λ j. slice_get xs j ≡ Some x) same e)
    by false q = let less : k < n = grind (arith, common_steps) in h k x less e

pub below_all : {A : Type 0} (P : A → Type 0) (n : ℕ) (xs : List A) → length xs ≤ n → AllBelow P n xs → AllByRecursion P xs
below_all P n [] le h = tt
below_all P n (x ∷ xs) le h = (h 0 x (omega arith) refl, below_all P (n - 1) xs (omega arith) (λ k y lt e. h (suc k) y (omega arith) e))

pub some_same : {A : Type 0} (a b : A) → Some a ≡ Some b → a ≡ b
some_same a b e = cc

-- one more of what an object or the variables hold, if it is there
pub held_next : {A : Type 0} (f : A → Value) (old new : MarksView) (xs : List A) (i : ℕ) → AllBelow (λ a. LivesBy old (f a)) i xs → HasMarked old new → ((x : A) → slice_get xs i ≡ Some x → LivesBy new (f x)) → AllBelow (λ a. LivesBy new (f a)) (i + 1) xs
held_next f old new xs i h more here = below_next (λ a. LivesBy new (f a)) i xs here (below_weaker (λ a. LivesBy old (f a)) (λ a. LivesBy new (f a)) i xs (λ a. lives_on old new more (f a)) h)

pub all_more : {A : Type 0} (P Q : A → Type 0) → ((x : A) → P x → Q x) → (xs : List A) → AllByRecursion P xs → AllByRecursion Q xs
all_more P Q f [] h = tt
all_more P Q f (x ∷ xs) h = (f x h.0, all_more P Q f xs h.1)

-- ---- variables

looked_up : (x : Bytes) (vs : List (Bytes × Variable)) (P : Variable → Type 0) → AllByRecursion (λ e. P e.1) vs → (v : Variable) → lookup (bytes_eq x) vs ≡ Some v → P v
looked_up x [] P h v e = absurd (cc)
looked_up x (y ∷ vs) P h v e = by (bytes_eq x y.0) e (looked_up x vs P h.1 v)
  where
    some_is : Some y.1 ≡ Some v → y.1 ≡ v
    some_is q = cc

    by : (b : Bool) → (if b then Some y.1 else lookup (bytes_eq x) vs) ≡ Some v → (lookup (bytes_eq x) vs ≡ Some v → P v) → P v
    by true q rest = subst P (some_is q) h.0
    by false q rest = rest q

pub variables_live : (vs : List (Bytes × Variable)) (m : MarksView) (n : ℕ) → length vs ≤ n → AllBelow (λ e. LivesBy m e.1.value) n vs → (x : Bytes) → ValueLives (marks_in m) (value_in (variable_at x vs))
variables_live vs m n le all x = by (variable_at x vs) refl
  where
    each : AllByRecursion (λ e. LivesBy m e.1.value) vs
    each = below_all (λ e. LivesBy m e.1.value) n vs le all

    by : (o : Option Variable) → variable_at x vs ≡ o → ValueLives (marks_in m) (value_in o)
    by None e = tt
    by (Some v) e = looked_up x vs (λ v. LivesBy m v.value) each v e
