-- Items by numbers, in pages of so many.
use Rattle.std.specs.Prelude.{ℕ, zero, suc, List, [], ◌∷◌, ◌++◌}
use Rattle.model.specs.Language.Values.{Object}
use Rattle.model.specs.Machine.Living.{no_object}

module _ {A : Type 0} (d : A) where
  -- a page of so many; this stands where it has no item
  abbrev pub padded : ℕ → List A → List A
  padded zero xs = []
  padded (suc n) [] = d ∷ padded n []
  padded (suc n) (x ∷ xs) = x ∷ padded n xs

  -- pages one after the other
  abbrev pub paged : ℕ → List (List A) → List A
  paged n [] = []
  paged n (p ∷ ps) = padded n p ++ paged n ps

-- a page of objects, with the places at which none is held
abbrev pub whole : {V : Type 0} → List (Object V) → List (Object V)
whole p = padded no_object 512 p
