-- Instructions that stand one behind the other in bytes.
use Rattle.std.specs.Prelude.{ℕ, zero, suc, List, [], ◌∷◌}
use Rattle.model.specs.declared.instr.Instr.{Instr}
use Rattle.model.specs.Module.Reading.{either, instr_of}
use Rattle.module_format.specs.declared.instrs.Instrs.{Instrs}
use Rattle.module_format.specs.declared.instrs.Listed.{Listed}

-- so many of them, or fewer where bytes that are none come first
unfoldable pub instrs_from : ℕ → List ℕ → List Instr
instrs_from zero bytes = []
instrs_from (suc n) bytes = either (instr_of bytes) [] (λ i. i.0 ∷ instrs_from n i.1)

-- those that are still to come
abbrev pub instrs_left : Instrs → List Instr
instrs_left s = instrs_from s.left s.rest.now

-- the same of instructions that were read before
abbrev pub listed_left : Listed → List Instr
listed_left s = s.rest.now
