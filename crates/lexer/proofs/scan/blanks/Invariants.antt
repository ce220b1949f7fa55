use Rattle.std.proofs.Common.{◌≡◌, ◌<◌, ℕ, get_or, true}
use Rattle.model.specs.Deck.Cut.{is_space}
use Rattle.lexer.proofs.scan.blanks.Given as goal

abbrev pub invariant-loop-n : goal.invariant-loop-n
invariant-loop-n l = (k : ℕ) → k < l.n → is_space (get_or l.text k 0) ≡ true
