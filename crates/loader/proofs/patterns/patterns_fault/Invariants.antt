use Rattle.std.proofs.Common.{◌≡◌, ◌+◌, map, take}
use Rattle.std.specs.List.{sum}
use Rattle.model.specs.Module.WellFormed.{pattern_bytes, pattern_fault}
use Rattle.loader.specs.Parts.{patterns_fault}
use Rattle.loader.proofs.Scanning.{rest}
use Rattle.loader.proofs.patterns.patterns_fault.Given as goal

abbrev pub invariant-loop-pattern : goal.invariant-loop-pattern
invariant-loop-pattern l = record {
  so_far : rest (pattern_fault l.image) pattern_bytes l.patterns l.pattern-index l.offset ≡ patterns_fault l.place l.image;
  place : l.offset ≡ l.place + sum (map pattern_bytes (take l.pattern-index l.patterns));
}
