use Rattle.std.proofs.Common.{◌≡◌, ◌++◌, ◌≤◌, ◌-◌, length, drop}
use Rattle.model.specs.Deck.Pieces.{pieces}
use Rattle.lexer.specs.Lexed.{pieces_of, Spans}
use Rattle.lexer.specs.Limits.{none, told}
use Rattle.lexer.proofs.cut_text.Given as goal

abbrev pub invariant-loop-found : goal.invariant-loop-found
invariant-loop-found l = record {
  within : l.start ≤ length l.text;
  cut : pieces_of l.tokens.items ++ pieces (drop l.start l.text) ≡ pieces l.text;
  spans : Spans 0 l.start l.text l.tokens.items;
  counted : told l.limits (pieces (drop l.start l.text)) ≡ told none (pieces l.text);
  few_open : l.limits.open_brackets ≤ l.start;
  few_marks : l.limits.row ≤ l.start;
}

abbrev pub decreases-loop-found : goal.decreases-loop-found
decreases-loop-found l = length l.text - l.start
