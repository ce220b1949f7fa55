use Rattle.std.proofs.Common.{◌≡◌, ◌∷◌, [], ℕ, take, drop}
use Rattle.model.specs.Deck.Cards.{placed, split}
use Rattle.card_reader.specs.Parts.{after, glue}
use Rattle.card_reader.proofs.reader.piece_end.Given as goal

abbrev pub invariant-loop-i : goal.invariant-loop-i
invariant-loop-i l = record {
  pieces : (n : ℕ) → split l.fn.quote (placed n l.text) ≡ glue (placed n (take l.i l.text) ∷ []) (split l.quote (placed n (drop l.i l.text)));
  quotes : (n : ℕ) → after l.fn.quote (placed n l.text) ≡ after l.quote (placed n (drop l.i l.text));
}
