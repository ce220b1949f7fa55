use Rattle.std.proofs.Common.{◌≡◌, ℕ, ◌<◌, ◌+◌, ◌%◌, length, take, get_or}
use Rattle.model.specs.Language.Strings.{replaced}
use Rattle.strings.proofs.text.replacements.Given as goal

abbrev pub invariant-loop-k : goal.invariant-loop-k
invariant-loop-k l =
    (length l.table ≡ 256) × ((j : ℕ) → j < 256 → (j + get_or l.table j 0) % 256 ≡ replaced (take l.k l.from) (take l.k l.to) j)
