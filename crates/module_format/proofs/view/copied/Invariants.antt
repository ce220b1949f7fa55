use Rattle.std.proofs.Common.{◌≡◌, map, take}
use Rattle.module_format.proofs.view.copied.Given as goal

abbrev pub invariant-loop-string : goal.invariant-loop-string
invariant-loop-string l = l.copies.items ≡ map (λ s. s.now) (take l.string-index l.strings)
