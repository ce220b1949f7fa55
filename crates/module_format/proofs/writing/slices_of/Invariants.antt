use Rattle.std.proofs.Common.{◌≡◌, map, take}
use Rattle.module_format.proofs.writing.slices_of.Given as goal

abbrev pub invariant-loop-string : goal.invariant-loop-string
invariant-loop-string l = map (λ s. s.now) l.slices.items ≡ take l.string-index l.strings
