-- The tokens of a text, with their places in it.
use Rattle.std.specs.Prelude.{◌≡◌, ◌<◌, ℕ, List, [], ◌∷◌, length, map, slice_range, Option, Some, None}
use Rattle.model.specs.declared.tokens.Token.{Token}
use Rattle.model.specs.declared.tokens.TokenKind.TheVariants as kind
use Rattle.model.specs.Deck.Cut as cut
use Rattle.model.specs.Deck.Cut.{Piece, least_lexical}
use Rattle.model.specs.Deck.Pieces.{pieces}
use Rattle.lexer.specs.declared.limits.Limits.{Limits}
use Rattle.lexer.specs.Limits.{told}

abbrev pub piece_of : Token → Piece
piece_of t = cut.Token t.kind t.text.now

abbrev pub pieces_of : List Token → List Piece
pieces_of tokens = map piece_of tokens

-- the name that pieces begin with
abbrev pub name_in_front : List Piece → Option (List ℕ)
name_in_front (cut.Token kind.Name w ∷ ps) = Some w
name_in_front ps = None

-- each token's text is the slice of its span, and the spans follow on one another from n to m
abbrev pub Spans : ℕ → ℕ → List ℕ → List Token → Type 0
Spans n m text [] = n ≡ m
Spans n m text (t ∷ ts) = (t.start ≡ n) × (n < t.end) × (t.text.now ≡ slice_range text n t.end) × Spans t.end m text ts

-- the tokens are all the pieces, and what they break of L3 to L5 is what the text breaks
pub record AreTokens (text : List ℕ) (tokens : List Token) (limits : Limits) : Type 0 where
  pub pieces : pieces_of tokens ≡ pieces text
  pub spans : Spans 0 (length text) text tokens
  pub least : least_lexical (pieces_of tokens) ≡ told limits []
