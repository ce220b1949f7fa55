use Rattle.std.proofs.Common.{◌≡◌, ◌<◌, ◌+◌, ◌*◌, ◌-◌, ◌++◌, ℕ, List, length, take}
use Rattle.pattern_compiler.specs.View.{code_of}
use Rattle.prefilter.specs.Looks.{FailsUnless}
use Rattle.prefilter.proofs.prefilter.gather.Given as goal

abbrev pub invariant-loop-other : goal.invariant-loop-other
invariant-loop-other l = record {
  few : l.count < 32;
  fits : length l.found ≡ 32;
  fails : (ws : List ℕ) (n : ℕ) → FailsUnless (code_of l.instrs) l.at l.factor ws n → FailsUnless (code_of l.instrs) l.place l.factor (take l.count l.found ++ ws) (n + 3 * l.count);
}

abbrev pub decreases-loop-other : goal.decreases-loop-other
decreases-loop-other l = length l.instrs - l.at
