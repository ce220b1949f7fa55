-- The dimensions and the elements of an array, as they are held.
use Rattle.std.specs.Prelude.{ℕ, List, [], ◌∷◌, ◌++◌, replicate, Option, Some, None}
use Rattle.model.specs.Language.Values.{Bounds}
use Rattle.aggregates.specs.declared.dimensions.Dimensions.{Dimensions}
use Rattle.aggregates.specs.declared.dimensions.Dimensions.TheVariants as held
use Rattle.aggregates.specs.declared.elements.Elements.{Elements}

abbrev pub dimensions_of : Dimensions → List Bounds
dimensions_of (held.One b) = b ∷ []
dimensions_of (held.Many bs) = bs.items

module _ {V : Type 0} where
  -- those that aren't written
  abbrev pub rest_of : Option V → ℕ → List V
  rest_of None n = []
  rest_of (Some v) n = replicate n v

  abbrev pub all_of : Elements V → List V
  all_of e = e.written.items ++ rest_of e.rest e.unwritten
