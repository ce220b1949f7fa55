-- Tokens as the grammar sees them: without places, without the texts of blanks, and without quotes.
use Rattle.std.specs.Prelude.{ℕ, ◌-◌, List, map, length, take, drop}
use Rattle.model.specs.declared.tokens.Mark.{Mark}
use Rattle.model.specs.declared.tokens.TokenKind.{TokenKind}
use Rattle.model.specs.declared.tokens.TokenKind.TheVariants as kind
use Rattle.model.specs.declared.tokens.Token.{Token}
use Rattle.model.specs.Deck.Digits.{decimal_value}

pub data Tok : Type 0 where
  Blank : Tok
  Word : List ℕ → Tok
  -- the number that the digits stand for
  Digits : ℕ → Tok
  -- the bytes between the quotes
  Quoted : List ℕ → Tok
  Sign : Mark → Tok

abbrev pub between_quotes : List ℕ → List ℕ
between_quotes text = take (length text - 2) (drop 1 text)

abbrev pub tok_by : TokenKind → List ℕ → Tok
tok_by kind.Blank text = Blank
tok_by kind.Name text = Word text
tok_by kind.Integer text = Digits (decimal_value text)
tok_by kind.Literal text = Quoted (between_quotes text)
tok_by (kind.Mark mark) text = Sign mark

abbrev pub tok : Token → Tok
tok t = tok_by t.kind t.text.now

abbrev pub toks : List Token → List Tok
toks tokens = map tok tokens
