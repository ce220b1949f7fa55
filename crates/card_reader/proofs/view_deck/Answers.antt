use Rattle.std.proofs.Common.{arith}
use Rattle.model.specs.Deck.Cards.{cards, ended}
use Rattle.card_reader.proofs.Answering.{if_ok, if_err, if_fault, if_memory, not_too_long, too_long}
use Rattle.card_reader.proofs.view_deck.Goals as goal

pub returns-then-deck-gt-LONGEST_DECK-clause-fault : goal.returns-then-deck-gt-LONGEST_DECK-clause-fault
returns-then-deck-gt-LONGEST_DECK-clause-fault c = λ _. too_long c.args.deck.now (omega arith)

pub returns-in-Ok-clause-statements : goal.returns-in-Ok-clause-statements
returns-in-Ok-clause-statements c = if_ok c.in-Ok.read _ _ (not_too_long c.args.deck.now (omega arith)) c.in-Ok.ensures.statements

pub returns-in-Ok-clause-fault : goal.returns-in-Ok-clause-fault
returns-in-Ok-clause-fault c = if_fault c.in-Ok.read _ (if_err c.in-Ok.read _ _ (not_too_long c.args.deck.now (omega arith)) c.in-Ok.ensures.fault)

pub returns-in-Ok-clause-memory : goal.returns-in-Ok-clause-memory
returns-in-Ok-clause-memory c = if_memory c.in-Ok.read (cards c.args.deck.now) (ended (cards c.args.deck.now)) c.in-Ok.ensures.fault
