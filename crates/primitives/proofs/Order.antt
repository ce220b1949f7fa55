-- The order of strings.
use Rattle.std.proofs.Common.{◌≡◌, [], ◌∷◌, Some, Bool, true, false, cond, nat_lt, refl, arith}
use Rattle.std.specs.Prelude.{◌==◌, if◌then◌else◌}
use Rattle.std.specs.Ordering.{partial_gt, nat_cmp, partial_ordering_then, is_some_and, is_gt}
use Rattle.std.specs.Cmp.Lexicographic.{slice_partial_cmp}
use Rattle.std.specs.declared.cmp.Ordering.TheVariants.{Less, Equal, Greater}
use Rattle.model.specs.Deck.Trees.{Bytes}
use Rattle.model.specs.Language.Primitives.{comes_after}

pub after_is : (s t : Bytes) → partial_gt (slice_partial_cmp (λ a b. Some (nat_cmp a b))) s t ≡ comes_after s t
after_is [] [] = refl
after_is [] (b ∷ t) = refl
after_is (a ∷ s) [] = refl
after_is (a ∷ s) (b ∷ t) = go (after_is s t) (nat_lt a b) (a == b) (nat_lt b a) refl refl refl
  where
    go : partial_gt (slice_partial_cmp (λ a b. Some (nat_cmp a b))) s t ≡ comes_after s t → (p q r : Bool) → nat_lt a b ≡ p → (a == b) ≡ q → nat_lt b a ≡ r
        → is_some_and is_gt (partial_ordering_then (Some (cond p Less (cond q Equal Greater))) (slice_partial_cmp (λ a b. Some (nat_cmp a b)) s t)) ≡ (if r then true else (if p then false else comes_after s t))
    go ih true q true h1 h2 h3 = absurd (grind (arith, h1, h3))
    go ih true q false h1 h2 h3 = refl
    go ih false true true h1 h2 h3 = absurd (grind (arith, h2, h3))
    go ih false true false h1 h2 h3 = ih
    go ih false false true h1 h2 h3 = refl
    go ih false false false h1 h2 h3 = absurd (grind (arith, h1, h2, h3))
