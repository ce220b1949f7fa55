use Rattle.std.proofs.Common.{◌≡◌, ◌∙◌, ◌<◌, ◌+◌, ◌∷◌, [], ◌++◌, ℕ, List, length, take, map, set, get_or, ap, sym, arith}
use Rattle.std.proofs.lemmas.List.{take_more, take_more_set, length-set, map-append}
use Rattle.model.specs.Language.Strings.{replaced}
use Rattle.strings.proofs.text.replaced_few.Goals as goal

step : (f : ℕ → ℕ) (xs ys : List ℕ) (k y : ℕ) → k < length xs → k < length ys → y ≡ f (get_or ys k 0) → take k xs ≡ map f (take k ys) → take (k + 1) (set xs k y) ≡ map f (take (k + 1) ys)
step f xs ys k y in_xs in_ys is same =
    take_more_set xs k y in_xs
    ∙ ap (λ zs. zs ++ y ∷ []) same
    ∙ ap (λ z. map f (take k ys) ++ z ∷ []) is
    ∙ sym (map-append f (take k ys) (get_or ys k 0 ∷ []))
    ∙ ap (map f) (sym (take_more ys k 0 in_ys))

pub loop-k-preserved : goal.loop-k-preserved
loop-k-preserved c = record {
  len = length-set c.loop-k.array _ _ ∙ c.loop-k.invariant.len;
  done = step (replaced c.args.from.now c.args.to.now) c.loop-k.array c.args.old.now c.loop-k.k _ (omega arith) (omega arith) (c.replacements-table.ensures.each (get_or c.args.old.now c.loop-k.k 0) (omega (arith, c.type_inv.old c.loop-k.k))) c.loop-k.invariant.done;
}
