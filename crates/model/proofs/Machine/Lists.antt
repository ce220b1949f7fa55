-- What holds of each element of a list holds of each element of lists made of it.
use Rattle.std.proofs.Common.{ℕ, zero, suc, List, [], ◌∷◌, ◌++◌, drop, replicate, slice_get, Option, Some, None, Bool, true, false, if◌then◌else◌}
use Rattle.std.specs.List.{AllByRecursion}
use Rattle.std.proofs.lemmas.List.Elements as elements

-- what holds of the element, if there is one
abbrev pub IfThere : {A : Type 0} → (A → Type 0) → Option A → Type 0
IfThere R None = Unit {0}
IfThere R (Some a) = R a

pub choice_in : {A : Type 0} (R : A → Type 0) (b : Bool) {x y : A} → R x → R y → R (if b then x else y)
choice_in R true h k = h
choice_in R false h k = k

module _ {A : Type 0} (R : A → Type 0) where
  pub item_in : (xs : List A) (i : ℕ) → AllByRecursion R xs → IfThere R (slice_get xs i)
  item_in [] i h = tt
  item_in (x ∷ xs) zero h = h.0
  item_in (x ∷ xs) (suc i) h = item_in xs i h.1

  pub join_in : (xs ys : List A) → AllByRecursion R xs → AllByRecursion R ys → AllByRecursion R (xs ++ ys)
  join_in xs ys h k = elements.recursion_from_All R (xs ++ ys) (elements.All-append R xs ys (elements.All-from_recursion R xs h) (elements.All-from_recursion R ys k))

  pub drop_in : (d : ℕ) (xs : List A) → AllByRecursion R xs → AllByRecursion R (drop d xs)
  drop_in d xs h = elements.recursion_from_All R (drop d xs) (elements.All-drop R d xs (elements.All-from_recursion R xs h))

  pub replicate_in : (k : ℕ) (x : A) → R x → AllByRecursion R (replicate k x)
  replicate_in k x h = elements.recursion_from_All R (replicate k x) (elements.All-replicate R k x h)
