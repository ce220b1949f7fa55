use Rattle.std.proofs.Common.{◌≡◌, map, take}
use Rattle.std.specs.List.{sum}
use Rattle.model.specs.Module.WellFormed.{pattern_bytes}
use Rattle.loader.proofs.places.patterns_size.Given as goal

abbrev pub invariant-loop-pattern : goal.invariant-loop-pattern
invariant-loop-pattern l = l.size ≡ sum (map pattern_bytes (take l.pattern-index l.patterns))
