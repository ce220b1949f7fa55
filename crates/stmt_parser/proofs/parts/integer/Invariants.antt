use Rattle.std.proofs.Common.{◌≡◌, drop, true}
use Rattle.model.specs.Deck.Cut.{all, is_digit}
use Rattle.model.specs.Deck.Digits.{decimal_value, value_from}
use Rattle.stmt_parser.proofs.parts.integer.Given as goal

abbrev pub invariant-loop-digit : goal.invariant-loop-digit
invariant-loop-digit l = (value_from l.number (drop l.digit-index l.digits) ≡ decimal_value l.digits) × (all is_digit (drop l.digit-index l.digits) ≡ true)
