-- Code behind an instruction.
use Rattle.std.specs.Prelude.{◌≡◌, ◌∷◌}
use Rattle.model.specs.Pattern.Patterns.{Instr}
use Rattle.model.specs.Pattern.Steps.{Code}

-- an instruction, and then this code
abbrev pub IsBehind : (rest all : Code) → Type 0
IsBehind rest all = (i : Instr) × (all ≡ i ∷ rest)
