use Rattle.std.proofs.Common.{◌≡◌, ◌+◌, map, take}
use Rattle.std.specs.List.{sum}
use Rattle.model.specs.Module.WellFormed.{pat_bytes}
use Rattle.loader.proofs.places.pattern_bytes.Given as goal

abbrev pub invariant-loop-instr : goal.invariant-loop-instr
invariant-loop-instr l = l.size ≡ 4 + sum (map pat_bytes (take l.instr-index l.pattern))
