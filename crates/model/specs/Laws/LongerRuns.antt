-- A longer bound only adds to a run.
use Rattle.std.specs.Prelude.{◌≡◌, ℕ, ◌+◌, Some}
use Rattle.model.specs.declared.run.Ending.{Ending}
use Rattle.model.specs.declared.image.Image.{Image}
use Rattle.model.specs.Laws.Agreement.{Inputs, IsPrefix, machine_at}

-- a run that has ended shows the same after any number of steps more
abbrev pub EndedRunStays : Type 0
EndedRunStays = (image : Image) (inputs : Inputs) (b : ℕ) (e : Ending) → (machine_at image inputs b).ending ≡ Some e → (d : ℕ) → machine_at image inputs (d + b) ≡ machine_at image inputs b

-- what a run has printed is a prefix of what it has printed after any number of steps more, on the same inputs
abbrev pub RunPrintsOn : Type 0
RunPrintsOn = (image : Image) (inputs : Inputs) (b d : ℕ) → IsPrefix (machine_at image inputs b).printed (machine_at image inputs (d + b)).printed
