use Rattle.std.proofs.Common.{◌≡◌, ◌∙◌, ◌<◌, ◌≤◌, ◌+◌, ◌-◌, ◌∷◌, [], ◌++◌, ℕ, List, length, take, drop, set, get_or, ap, sym, arith, append_assoc}
use Rattle.std.proofs.lemmas.List.{take_more, take_more_set, length-set, drop-set, get_or-drop, length-drop, drop-drop}
use Rattle.std.specs.List.{slice_range}
use Rattle.strings.proofs.text.close_up.Goals as goal

-- what stands at a place is the same where all behind a place is
same_at : (xs ys : List ℕ) (k : ℕ) → drop k xs ≡ drop k ys → get_or xs (k + 1) 0 ≡ get_or ys (k + 1) 0
same_at xs ys k e = sym (get_or-drop k xs 1 0) ∙ ap (λ zs. get_or zs 1 0) e ∙ get_or-drop k ys 1 0

-- one more of a part
one_more : (xs : List ℕ) (a k : ℕ) → a ≤ k → k < length xs → slice_range xs a (k + 1) ≡ slice_range xs a k ++ get_or xs k 0 ∷ []
one_more xs a k le within =
    let e : k + 1 - a ≡ (k - a) + 1 = omega arith in
    let here : a + (k - a) ≡ k = omega arith in
    ap (λ n. take n (drop a xs)) e
    ∙ take_more (drop a xs) (k - a) 0 (omega (arith, length-drop a xs, le, within))
    ∙ ap (λ y. slice_range xs a k ++ y ∷ []) (get_or-drop a xs (k - a) 0 ∙ ap (λ n. get_or xs n 0) here)

step_front : (xs ys : List ℕ) (p k : ℕ) → p ≤ k → k < length xs → k + 1 < length ys → take k xs ≡ take p ys ++ slice_range ys (p + 1) (k + 1) → drop k xs ≡ drop k ys
    → take (k + 1) (set xs k (get_or xs (k + 1) 0)) ≡ take p ys ++ slice_range ys (p + 1) (k + 1 + 1)
step_front xs ys p k le in_xs in_ys front behind =
    let y : ℕ = get_or ys (k + 1) 0 in
    take_more_set xs k (get_or xs (k + 1) 0) in_xs
    ∙ ap (λ z. take k xs ++ z ∷ []) (same_at xs ys k behind)
    ∙ ap (λ zs. zs ++ y ∷ []) front
    ∙ append_assoc (take p ys) (slice_range ys (p + 1) (k + 1)) (y ∷ [])
    ∙ ap (λ zs. take p ys ++ zs) (sym (one_more ys (p + 1) (k + 1) (omega (arith, le)) in_ys))

step_behind : (xs ys : List ℕ) (k z : ℕ) → k < length xs → drop k xs ≡ drop k ys → drop (k + 1) (set xs k z) ≡ drop (k + 1) ys
step_behind xs ys k z in_xs e =
    sym (drop-drop 1 k (set xs k z)) ∙ ap (λ zs. drop 1 zs) (drop-set xs k z in_xs) ∙ sym (drop-drop 1 k xs) ∙ ap (λ zs. drop 1 zs) e ∙ drop-drop 1 k ys

pub loop-k-preserved : goal.loop-k-preserved
loop-k-preserved c = record {
  len = length-set c.loop-k.array _ _ ∙ c.loop-k.invariant.len;
  front = step_front c.loop-k.array c.args.array.now c.args.place c.loop-k.k (omega arith) (omega arith) (omega arith) c.loop-k.invariant.front c.loop-k.invariant.behind;
  behind = step_behind c.loop-k.array c.args.array.now c.loop-k.k _ (omega arith) c.loop-k.invariant.behind;
}
