use Rattle.std.proofs.Common.{◌≡◌, ◌≢◌, ◌+◌, ◌-◌, ◌<◌, ◌≤◌, ℕ, get_or}
use Rattle.prefilter.proofs.search.pair_place.Given as goal

abbrev pub invariant-loop-at : goal.invariant-loop-at
invariant-loop-at l = (l.from ≤ l.at) × (l.at ≤ l.to)
    × ((k : ℕ) → l.from ≤ k → k < l.at → get_or l.bytes k 0 ≡ l.first → get_or l.bytes (k + l.gap) 0 ≢ l.last)

abbrev pub decreases-loop-at : goal.decreases-loop-at
decreases-loop-at l = l.to - l.at

abbrev pub invariant-loop-at-2 : goal.invariant-loop-at-2
invariant-loop-at-2 l = (l.from ≤ l.at) × (l.at ≤ l.to)
    × ((k : ℕ) → l.from ≤ k → k < l.at → get_or l.bytes k 0 ≡ l.first → get_or l.bytes (k + l.gap) 0 ≢ l.last)

abbrev pub decreases-loop-at-2 : goal.decreases-loop-at-2
decreases-loop-at-2 l = l.to - l.at
