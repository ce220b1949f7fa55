-- What the scan keeps of the pieces so far for L3 to L5.
use Rattle.std.specs.Prelude.{◌||◌, ◌&&◌, nat_lt, Bool, true, false, List, Option, Some, None, if◌then◌else◌}
use Rattle.model.specs.declared.causes.Cause.{Cause}
use Rattle.model.specs.declared.causes.Cause.TheVariants as cause
use Rattle.model.specs.declared.tokens.Mark.{Mark}
use Rattle.model.specs.declared.tokens.Mark.TheVariants as mark
use Rattle.model.specs.declared.tokens.TokenKind.TheVariants as kind
use Rattle.model.specs.Deck.Cut.{Piece, Token, has, is_too_large, open_after, opens_too_many, row_after, rows_too_many}
use Rattle.lexer.specs.declared.limits.Limits.{Limits}

abbrev pub none : Limits
none = record { large = false; open_brackets = 0; deep = false; row = 0; long = false }

-- whether a mark is a bracket that closes
abbrev pub closes_by : Mark → Bool
closes_by mark.Close = true
closes_by mark.Greater = true
closes_by _ = false

abbrev pub closes : Piece → Bool
closes (Token (kind.Mark m) text) = closes_by m
closes _ = false

-- what is open is looked at where one closes, and at the end
unfoldable pub after : Limits → Piece → Limits
after l p = record {
  large = is_too_large p || l.large;
  open_brackets = open_after l.open_brackets p;
  deep = (closes p && nat_lt 64 l.open_brackets) || l.deep;
  row = row_after l.row p;
  long = nat_lt 16 (row_after l.row p) || l.long;
}

-- the least of L3 to L5 that is broken so far or by the pieces that follow
unfoldable pub told : Limits → List Piece → Option Cause
told l ps =
    if l.large || has is_too_large ps then Some cause.IntegerTooLarge
    else (if l.deep || (nat_lt 64 l.open_brackets || opens_too_many l.open_brackets ps) then Some cause.TooManyBrackets
    else (if l.long || rows_too_many l.row ps then Some cause.TooManyMarks else None))
