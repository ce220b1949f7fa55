use Rattle.std.proofs.Common.{◌≡◌, ◌+◌, [], map, take, length}
use Rattle.std.specs.List.{sum}
use Rattle.model.specs.Module.WellFormed.{fault_if, pat_rule, pat_bytes, pattern_fault}
use Rattle.loader.proofs.Scanning.{rest}
use Rattle.loader.proofs.patterns.pattern_fault.Given as goal

abbrev pub invariant-loop-k : goal.invariant-loop-k
invariant-loop-k l = record {
  so_far : rest (λ before at i. fault_if at (pat_rule l.image (length l.pattern) before i)) pat_bytes l.pattern l.k l.offset ≡ pattern_fault l.image [] l.place l.pattern;
  place : l.offset ≡ l.place + 4 + sum (map pat_bytes (take l.k l.pattern));
}
