use Rattle.std.proofs.Common.{◌≡◌, ℕ, List, [], ◌∷◌, map, refl, ap, ◌∙◌, arith}
use Rattle.std.proofs.lemmas.List.FromFn.{fill_by_all}
use Rattle.std.specs.List.{range_with_len}
use Rattle.keywords.proofs.every_byte.Goals as goal

map-same : (xs : List ℕ) → map (λ k. k) xs ≡ xs
map-same [] = refl
map-same (x ∷ xs) = ap (λ ys. x ∷ ys) (map-same xs)

pub returns : goal.returns
returns c =
    fill_by_all (λ k. k) c.loop-b.bytes 256 0 c.loop-b.invariant.0 (λ k h. c.loop-b.invariant.1 k (omega arith))
    ∙ map-same (range_with_len 0 256)
