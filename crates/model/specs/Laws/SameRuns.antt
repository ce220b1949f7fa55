-- A run doesn't ask for the cards of its module.
use Rattle.std.specs.Prelude.{◌≡◌, ℕ, List}
use Rattle.model.specs.declared.image.Image.{Image}
use Rattle.model.specs.Laws.Agreement.{Inputs, machine_at}

abbrev pub SameRuns : Type 0
SameRuns = (image : Image) (cards : List ℕ) (inputs : Inputs) (m : ℕ) → machine_at (record image { cards = cards }) inputs m ≡ machine_at image inputs m
