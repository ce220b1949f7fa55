use Rattle.std.proofs.Common.{◌≡◌, ◌<◌, ℕ, get_or, true}
use Rattle.model.specs.Deck.Cut.{is_word}
use Rattle.lexer.proofs.scan.word_bytes.Given as goal

abbrev pub invariant-loop-n : goal.invariant-loop-n
invariant-loop-n l = (k : ℕ) → k < l.n → is_word (get_or l.text k 0) ≡ true
