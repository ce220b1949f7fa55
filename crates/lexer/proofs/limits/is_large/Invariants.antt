use Rattle.std.proofs.Common.{◌≡◌, ◌≤◌, drop}
use Rattle.model.specs.Deck.Digits.{value_from}
use Rattle.lexer.proofs.limits.is_large.Given as goal

abbrev pub invariant-loop-d : goal.invariant-loop-d
invariant-loop-d l = record {
  so_far : value_from l.number (drop l.d-index l.digits) ≡ value_from 0 l.digits;
  small : l.number ≤ 9223372036854775807;
}
