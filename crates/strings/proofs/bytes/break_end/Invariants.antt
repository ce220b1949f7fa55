use Rattle.std.proofs.Common.{◌≡◌, ◌-◌, ◌≤◌, length}
use Rattle.model.specs.Language.Strings.{break_to}
use Rattle.strings.proofs.bytes.break_end.Given as goal

abbrev pub invariant-loop-from : goal.invariant-loop-from
invariant-loop-from l = (l.from ≤ length l.bytes) × (break_to l.bytes l.from l.set ≡ break_to l.bytes l.at l.set)

abbrev pub decreases-loop-from : goal.decreases-loop-from
decreases-loop-from l = length l.bytes - l.from

abbrev pub invariant-loop-k : goal.invariant-loop-k
invariant-loop-k l = break_to l.bytes l.k l.set ≡ break_to l.bytes l.at l.set
