use Rattle.std.proofs.Common.{◌≡◌, map, take}
use Rattle.parser.proofs.deck.cards_of.Given as goal

abbrev pub invariant-loop-statement : goal.invariant-loop-statement
invariant-loop-statement l = l.cards.items ≡ map (λ s. s.card) (take l.statement-index l.statements)
