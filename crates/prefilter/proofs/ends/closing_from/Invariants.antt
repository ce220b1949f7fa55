use Rattle.std.proofs.Common.{◌≡◌, ◌+◌, ◌-◌, ◌<◌, ◌≤◌, drop, length}
use Rattle.model.specs.Pattern.BasicEnds.{balanced}
use Rattle.prefilter.proofs.ends.closing_from.Given as goal

abbrev pub invariant-loop-at : goal.invariant-loop-at
invariant-loop-at l = record {
  ends : balanced (drop l.at l.subject) l.depth l.at ≡ balanced (drop l.from l.subject) 1 l.from;
  depth : (0 < l.depth) × (l.depth ≤ l.at + 1);
  within : l.at ≤ length l.subject;
}

abbrev pub decreases-loop-at : goal.decreases-loop-at
decreases-loop-at l = length l.subject - l.at
