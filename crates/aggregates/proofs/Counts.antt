-- How many elements an array has.
use Rattle.std.proofs.Common.{◌≡◌, ℕ, zero, suc, ◌+◌, ◌*◌, ◌<◌, ◌≤◌, List, [], ◌∷◌, ◌++◌, length, get_or, take, min, inl, inr, sym, ap, ◌∙◌, arith}
use Rattle.std.proofs.lemmas.Bool.{cases_lt}
use Rattle.std.proofs.lemmas.List.{take_more}
use Rattle.std.proofs.Math.Nat.{mul_assoc, mul-one, one-mul, mul-suc}
use Rattle.model.specs.Language.Values.{Bounds}
use Rattle.model.specs.Language.Prototypes.{elements_in}

-- a product is no less than a factor
pub at_least : (a b : ℕ) → 0 < b → a ≤ a * b
at_least a zero p = absurd (omega arith)
at_least a (suc b) p = omega (arith, mul-suc a b)

pub elements_push : (bs : List Bounds) (b : Bounds) → elements_in (bs ++ b ∷ []) ≡ elements_in bs * b.count
elements_push [] b = mul-one b.count ∙ sym (one-mul b.count)
elements_push (x ∷ bs) b = ap (λ n. x.count * n) (elements_push bs b) ∙ sym (mul_assoc x.count (elements_in bs) b.count)

-- a product of numbers that were cut at a limit, cut there again
sat_over : (e c m : ℕ) → 0 < m → m ≤ e → 0 < c → min (m * min c m) m ≡ min (e * c) m
sat_over e c m p le q =
    let cut : 0 < min c m = omega arith in
    let low : m ≤ m * min c m = at_least m (min c m) cut in
    let high : e ≤ e * c = at_least e c q in
    omega arith

pub saturates : (e c m : ℕ) → 0 < m → 0 < e → 0 < c → min (min e m * min c m) m ≡ min (e * c) m
saturates e c m p pe pc = elim (cases_lt m e) [
  | inl over ↦ let i : min e m ≡ m = omega arith in ap (λ n. min (n * min c m) m) i ∙ sat_over e c m p (omega arith) pc
  | inr within ↦ let i : min e m ≡ e = omega arith in ap (λ n. min (n * min c m) m) i ∙ inside within
]
  where
    inside : e ≤ m → min (e * min c m) m ≡ min (e * c) m
    inside within = elim (cases_lt m c) [
      | inl over ↦
          let i : min c m ≡ m = omega arith in
          let cut : m ≤ m * e = at_least m e pe in
          let full : c ≤ c * e = at_least c e pe in
          grind (arith, i, cut, full)
      | inr below ↦ let i : min c m ≡ c = omega arith in ap (λ n. min (e * n) m) i
    ]

module _ (bs : List Bounds) (k : ℕ) (d : Bounds) (lt : k < length bs) (is : d ≡ get_or bs k d) where
  counted : elements_in (take (k + 1) bs) ≡ elements_in (take k bs) * d.count
  counted = ap elements_in (take_more bs k d lt) ∙ elements_push (take k bs) (get_or bs k d) ∙ ap (λ b. elements_in (take k bs) * b.count) (sym is)

  pub counted_some : 0 < elements_in (take k bs) → 0 < d.count → 0 < elements_in (take (k + 1) bs)
  counted_some p q = let more : elements_in (take k bs) ≤ elements_in (take k bs) * d.count = at_least (elements_in (take k bs)) d.count q in omega (arith, counted)

  pub counted_same : (n c m : ℕ) → 0 < m → n ≡ min (elements_in (take k bs)) m → 0 < elements_in (take k bs) → c ≡ min d.count m → 0 < d.count → min (n * c) m ≡ min (elements_in (take (k + 1) bs)) m
  counted_same n c m pm en pn ec pc =
      ap (λ x. min (x * c) m) en ∙ ap (λ y. min (min (elements_in (take k bs)) m * y) m) ec
      ∙ saturates (elements_in (take k bs)) d.count m pm pn pc ∙ ap (λ x. min x m) (sym counted)
