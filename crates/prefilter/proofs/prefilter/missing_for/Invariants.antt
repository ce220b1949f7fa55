use Rattle.std.proofs.Common.{◌≡◌, ◌+◌, ◌-◌, ◌<◌, ◌≤◌, ℕ, List, false, get_or, length}
use Rattle.model.specs.Language.Strings.{flags_of}
use Rattle.model.specs.Pattern.BasicEnds.{is_in_set}
use Rattle.prefilter.specs.Looks.{key_of}
use Rattle.prefilter.proofs.prefilter.missing_for.Given as goal

abbrev pub invariant-loop-at : goal.invariant-loop-at
invariant-loop-at l = record {
  after : l.from ≤ l.at;
  before : l.at ≤ l.from + l.limit;
  inside : l.from < l.at → l.at < length l.bytes;
  others : (ws : List ℕ) → l.keys.set ≡ flags_of ws → (c : ℕ) → l.from ≤ c → c < l.at → is_in_set ws (key_of (get_or l.bytes c 0) (get_or l.bytes (c + 1) 0) l.keys.factor) ≡ false;
}

abbrev pub decreases-loop-at : goal.decreases-loop-at
decreases-loop-at l = l.to - l.at
