use Rattle.std.proofs.Common.{◌≡◌, take}
use Rattle.card_reader.proofs.views.DeckView.to_deck.Given as goal

abbrev pub invariant-loop-statement : goal.invariant-loop-statement
invariant-loop-statement l = l.statements ≡ take l.statement-index l.statement-items
