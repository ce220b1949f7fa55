use Rattle.std.proofs.Common.{◌≤◌, ◌+◌, ◌*◌, length}
use Rattle.card_reader.specs.Reached.{Reached}
use Rattle.card_reader.proofs.read_cards.Given as goal

abbrev pub invariant-loop-line : goal.invariant-loop-line
invariant-loop-line l = record {
  reached : Reached l.deck l.reader l.card l.rest;
  cards : l.card + length l.rest ≤ length l.deck + 1;
  statements : length l.reader.statements + 3 * length l.rest ≤ 3 * length l.deck;
}

abbrev pub decreases-loop-line : goal.decreases-loop-line
decreases-loop-line l = length l.rest
