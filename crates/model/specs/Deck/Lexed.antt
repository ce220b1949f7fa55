-- What tokens are that are cut from a text without lexical faults.
use Rattle.std.specs.Prelude.{◌≡◌, ◌≤◌, ⊤, List, [], ◌∷◌}
use Rattle.model.specs.declared.tokens.TokenKind.TheVariants as kind
use Rattle.model.specs.declared.tokens.Token.{Token}
use Rattle.model.specs.Deck.Cut.{IsToken}
use Rattle.model.specs.Deck.Digits.{decimal_value}

-- the text is of the token's kind, and an integer isn't too large
pub record IsLexed (t : Token) : Type 0 where
  pub token : IsToken t.kind t.text.now
  pub small : t.kind ≡ kind.Integer → decimal_value t.text.now ≤ 9223372036854775807

abbrev pub Lexed : List Token → Type 0
Lexed [] = ⊤
Lexed (t ∷ ts) = IsLexed t × Lexed ts
