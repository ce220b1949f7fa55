-- The place of a name among others.
use Rattle.std.proofs.Common.{◌≡◌, ℕ, ◌+◌, ◌<◌, ◌≤◌, List, ◌∷◌, length, get_or, drop, Some, None, true, false, bytes_eq, if◌then◌else◌, sym, ap, ◌∙◌}
use Rattle.std.proofs.lemmas.List.{drop_more, drop_all}
use Rattle.model.specs.Deck.Trees.{Bytes}
use Rattle.model.specs.Language.Aggregates.{index_of}

module _ (name : Bytes) (fs : List Bytes) (k : ℕ) (f : Bytes) (inside : k < length fs) (is : f ≡ get_or fs k f) where
  here : index_of k name (drop k fs) ≡ (if bytes_eq name f then Some k else index_of (k + 1) name (drop (k + 1) fs))
  here = ap (index_of k name) (drop_more fs k f inside ∙ ap (λ x. x ∷ drop (k + 1) fs) (sym is))

  pub found_here : true ≡ bytes_eq name f → Some k ≡ index_of k name (drop k fs)
  found_here e = sym (here ∙ ap (λ t. if t then Some k else index_of (k + 1) name (drop (k + 1) fs)) (sym e))

  pub found_later : false ≡ bytes_eq name f → index_of (k + 1) name (drop (k + 1) fs) ≡ index_of k name (drop k fs)
  found_later e = sym (here ∙ ap (λ t. if t then Some k else index_of (k + 1) name (drop (k + 1) fs)) (sym e))

pub found_nowhere : (name : Bytes) (fs : List Bytes) (k : ℕ) → length fs ≤ k → None ≡ index_of k name (drop k fs)
found_nowhere name fs k le = sym (ap (index_of k name) (drop_all k fs le))
