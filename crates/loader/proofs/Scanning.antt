-- Parts one behind the other, as a loop goes over them.
use Rattle.std.proofs.Common.{◌≡◌, ℕ, suc, ◌+◌, ◌<◌, ◌≤◌, List, length, take, drop, get_or, Option, Some, None, refl, sym, ap, ◌∙◌, add-one, drop-cons}
use Rattle.std.proofs.Math.Seq.{take-suc}
use Rattle.std.proofs.lemmas.List.{drop_all}
use Rattle.model.specs.declared.format.ModuleFault.{ModuleFault}
use Rattle.model.specs.Module.WellFormed.{fault_among, or_else}

module _ {A : Type 0} (fault : List A → ℕ → A → Option ModuleFault) (width : A → ℕ) where
  abbrev pub rest : List A → ℕ → ℕ → Option ModuleFault
  rest xs k at = fault_among fault width (take k xs) at (drop k xs)

  opened : (xs : List A) (k at : ℕ) (d : A) → k < length xs → rest xs k at ≡ or_else (fault (take k xs) at (get_or xs k d)) (rest xs (suc k) (at + width (get_or xs k d)))
  opened xs k at d lt = rw (drop-cons xs k d lt, take-suc xs k d lt) refl

  pub goes_on : (xs : List A) (k at : ℕ) (d : A) (all : Option ModuleFault) → k < length xs → fault (take k xs) at (get_or xs k d) ≡ None → rest xs k at ≡ all → rest xs (k + 1) (at + width (get_or xs k d)) ≡ all
  goes_on xs k at d all lt none so_far =
      rw (add-one k)
      let one : rest xs k at ≡ rest xs (suc k) (at + width (get_or xs k d)) = opened xs k at d lt ∙ ap (λ f. or_else f (rest xs (suc k) (at + width (get_or xs k d)))) none in
      sym one ∙ so_far

  pub stops : (xs : List A) (k at : ℕ) (d : A) (all : Option ModuleFault) (f : ModuleFault) → k < length xs → fault (take k xs) at (get_or xs k d) ≡ Some f → rest xs k at ≡ all → Some f ≡ all
  stops xs k at d all f lt told so_far =
      let one : rest xs k at ≡ Some f = opened xs k at d lt ∙ ap (λ g. or_else g (rest xs (suc k) (at + width (get_or xs k d)))) told in
      sym one ∙ so_far

  pub ends : (xs : List A) (k at : ℕ) (all : Option ModuleFault) → length xs ≤ k → rest xs k at ≡ all → None ≡ all
  ends xs k at all le so_far =
      let one : rest xs k at ≡ None = rw (drop_all k xs le) refl in
      sym one ∙ so_far
