-- Objects as they are held, in a list.
use Rattle.std.proofs.Common.{◌≡◌, ℕ, zero, suc, ◌<◌, ◌≤◌, List, [], ◌∷◌, ◌++◌, length, get_or, Option, Some, None, Bool, true, false, refl, sym, ap, ◌∙◌, arith}
use Rattle.std.specs.Prelude.{slice_get, slice_set, Result, Ok, Err, OnErr}
use Rattle.std.proofs.lemmas.List.{length-map, map-append}
use Rattle.model.specs.Language.Values.{Object}
use Rattle.model.specs.Language.Operators.{with_item, onto}
use Rattle.aggregates.specs.declared.object.Object as held
use Rattle.aggregates.specs.Objects.{if_stored}
use Rattle.heap.specs.Objects.{put_at}
use Rattle.aggregates.specs.Made.{object_of}
use Rattle.heap.specs.Made.{objects_of}

pub on_err : {A E : Type 0} {P : Type 0} (r : Result A E) → P → OnErr r P
on_err (Ok a) p = tt
on_err (Err e) p = p

module _ {V : Type 0} where
  pub objects_length : (xs : List (held.Object V)) → length (objects_of xs) ≡ length xs
  objects_length xs = length-map xs object_of

  pub objects_push : (xs : List (held.Object V)) (x : held.Object V) → objects_of (xs ++ x ∷ []) ≡ objects_of xs ++ object_of x ∷ []
  objects_push xs x = map-append object_of xs (x ∷ [])

  pub objects_at : (xs : List (held.Object V)) (i : ℕ) (d : held.Object V) → i < length xs → slice_get (objects_of xs) i ≡ Some (object_of (get_or xs i d))
  objects_at [] i d lt = absurd (omega arith)
  objects_at (x ∷ xs) zero d lt = refl
  objects_at (x ∷ xs) (suc i) d lt = objects_at xs i d (omega arith)

  pub objects_past : (xs : List (held.Object V)) (i : ℕ) → length xs ≤ i → slice_get (objects_of xs) i ≡ None
  objects_past [] i le = refl
  objects_past (x ∷ xs) zero le = absurd (omega arith)
  objects_past (x ∷ xs) (suc i) le = objects_past xs i (omega arith)

  pub objects_set : (xs : List (held.Object V)) (n : ℕ) (o : held.Object V) → objects_of (slice_set xs n o) ≡ slice_set (objects_of xs) n (object_of o)
  objects_set [] n o = refl
  objects_set (x ∷ xs) zero o = refl
  objects_set (x ∷ xs) (suc n) o = ap (λ ys. object_of x ∷ ys) (objects_set xs n o)

  pub objects_long : (xs : List (held.Object V)) (n : ℕ) (o : held.Object V) → length (objects_of (slice_set xs n o)) ≡ length (objects_of xs)
  objects_long [] n o = refl
  objects_long (x ∷ xs) zero o = refl
  objects_long (x ∷ xs) (suc n) o = ap suc (objects_long xs n o)

  -- another object in the place of one
  pub objects_put : (xs : List (held.Object V)) (i : ℕ) (o : held.Object V) → i < length xs → with_item i (object_of o) (objects_of xs) ≡ Some (objects_of (slice_set xs i o))
  objects_put [] i o lt = absurd (omega arith)
  objects_put (x ∷ xs) zero o lt = refl
  objects_put (x ∷ xs) (suc i) o lt = ap (onto (object_of x)) (objects_put xs i o (omega arith))

  -- the same object there again
  pub objects_same : (xs : List (held.Object V)) (i : ℕ) (o d : held.Object V) → i < length xs → object_of o ≡ object_of (get_or xs i d) → objects_of (slice_set xs i o) ≡ objects_of xs
  objects_same [] i o d lt e = refl
  objects_same (x ∷ xs) zero o d lt e = ap (λ y. y ∷ objects_of xs) e
  objects_same (x ∷ xs) (suc i) o d lt e = ap (λ ys. object_of x ∷ ys) (objects_same xs i o d (omega arith) e)

  -- what stands there is stored into, or it isn't
  pub objects_stored : (xs : List (held.Object V)) (os : List (Object V)) (i : ℕ) (o d : held.Object V) (b : Bool) (f : Option (Object V) → Option (Object V))
      → objects_of xs ≡ os → i < length xs → if_stored b (object_of o) ≡ f (Some (object_of (get_or xs i d)))
      → if_stored b (objects_of (slice_set xs i o)) ≡ put_at i (f (slice_get os i)) os
  objects_stored xs os i o d b f is lt e = by b e ∙ ap (λ ys. put_at i (f (slice_get ys i)) ys) is
    where
      there : put_at i (f (Some (object_of (get_or xs i d)))) (objects_of xs) ≡ put_at i (f (slice_get (objects_of xs) i)) (objects_of xs)
      there = ap (λ y. put_at i (f y) (objects_of xs)) (sym (objects_at xs i d lt))

      by : (b : Bool) → if_stored b (object_of o) ≡ f (Some (object_of (get_or xs i d))) → if_stored b (objects_of (slice_set xs i o)) ≡ put_at i (f (slice_get (objects_of xs) i)) (objects_of xs)
      by false e = ap (λ y. put_at i y (objects_of xs)) e ∙ there
      by true e = sym (objects_put xs i o lt) ∙ ap (λ y. put_at i y (objects_of xs)) e ∙ there
