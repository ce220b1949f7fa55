use Rattle.std.proofs.Common.{◌+◌, ◌-◌, ◌≤◌, ℕ, List, length}
use Rattle.model.specs.Pattern.Steps.{Note}
use Rattle.pattern_compiler.specs.View.{code_of}
use Rattle.prefilter.specs.Looks.{FailsAt}
use Rattle.prefilter.proofs.look.fails_split.Given as goal

abbrev pub invariant-loop-other : goal.invariant-loop-other
invariant-loop-other l = record {
  leads : (ns : List Note) (m : ℕ) → FailsAt l.bytes (code_of l.instrs) ns l.at l.cursor m → FailsAt l.bytes (code_of l.instrs) ns l.place l.cursor (m + l.steps);
  few : l.steps ≤ 99;
}

abbrev pub decreases-loop-other : goal.decreases-loop-other
decreases-loop-other l = length l.instrs - l.at
