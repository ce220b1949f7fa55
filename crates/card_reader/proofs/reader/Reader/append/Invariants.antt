use Rattle.std.proofs.Common.{◌≡◌, ◌≤◌, ◌+◌, length}
use Rattle.std.specs.Prelude.{Option}
use Rattle.model.specs.declared.cards.CardFault.{CardFault}
use Rattle.model.specs.Deck.Cards.{placed}
use Rattle.card_reader.specs.Parts.{Parts, appended}
use Rattle.card_reader.specs.Reading.{Holds}
use Rattle.card_reader.proofs.reader.Reader.append.Given as goal

abbrev pub invariant-loop-end : goal.invariant-loop-end
invariant-loop-end l = record {
  parts : (p : Parts) (e : Option CardFault) → Holds l.fn.self p e → (now : Parts) × Holds l.self now e × (appended now (placed l.card l.rest) ≡ appended p (placed l.card l.text));
  begun : l.self.begun ≡ l.fn.self.begun;
  count : length l.self.statements + length l.rest ≤ length l.fn.self.statements + length l.text;
}

abbrev pub decreases-loop-end : goal.decreases-loop-end
decreases-loop-end l = length l.rest
