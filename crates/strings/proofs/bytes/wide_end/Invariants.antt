use Rattle.std.proofs.Common.{◌≡◌, ◌-◌, ◌≤◌, length}
use Rattle.model.specs.Language.Strings.{span_to}
use Rattle.strings.proofs.bytes.wide_end.Given as goal

abbrev pub invariant-loop-end : goal.invariant-loop-end
invariant-loop-end l =
    (l.at ≤ l.end) × (l.end ≤ length l.bytes) × (span_to l.bytes l.end l.set ≡ span_to l.bytes l.at l.set)

abbrev pub decreases-loop-end : goal.decreases-loop-end
decreases-loop-end l = length l.bytes - l.end

abbrev pub invariant-loop-end-2 : goal.invariant-loop-end-2
invariant-loop-end-2 l =
    (l.at ≤ l.end) × (l.end ≤ length l.bytes) × (span_to l.bytes l.end l.set ≡ span_to l.bytes l.at l.set)

abbrev pub decreases-loop-end-2 : goal.decreases-loop-end-2
decreases-loop-end-2 l = length l.bytes - l.end
