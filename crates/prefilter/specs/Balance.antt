-- The ends of BAL.
use Rattle.std.specs.Prelude.{ℕ, List, [], ◌∷◌, drop, Option, Some, None}
use Rattle.model.specs.Pattern.BasicEnds.{balanced}

-- an end of BAL and those behind it
abbrev pub ends_from : List ℕ → Option ℕ → List ℕ
ends_from u None = []
ends_from u (Some e) = e ∷ balanced (drop e u) 0 e
