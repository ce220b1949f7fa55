-- The pieces of a text, as a function of it.
use Rattle.std.specs.Prelude.{◌≡◌, ℕ, zero, suc, ◌==◌, List, [], ◌∷◌, ◌++◌, length, if◌then◌else◌}
use Rattle.std.specs.Prelude.{Bool}
use Rattle.model.specs.declared.tokens.Mark.TheVariants as mark
use Rattle.model.specs.declared.tokens.TokenKind.TheVariants as kind
use Rattle.model.specs.Deck.Cut.{Class, Space, Letter, Digit, Quote, Star, Dot, Underscore, Sign, Other, class, is_space, is_word, is_digit, differs, Piece, Token, Stray, Unclosed, Cut}

-- the bytes that pass
abbrev pub front : (ℕ → Bool) → List ℕ → List ℕ
front p [] = []
front p (b ∷ bs) = if p b then b ∷ front p bs else []

-- the bytes from the first that doesn't pass
abbrev pub behind_front : (ℕ → Bool) → List ℕ → List ℕ
behind_front p [] = []
behind_front p (b ∷ bs) = if p b then behind_front p bs else b ∷ bs

-- a piece, and what is left behind it
pub record FirstPiece : Type 0 where
  pub piece : Piece
  pub rest : List ℕ

abbrev pub found : Piece → List ℕ → FirstPiece
found piece rest = record { piece = piece; rest = rest }

-- a quote, what stands before the next one like it, and what is left from there
abbrev pub quoted : ℕ → List ℕ → List ℕ → FirstPiece
quoted q text [] = found (Unclosed (q ∷ text)) []
quoted q text (b ∷ rest) = found (Token kind.Literal (q ∷ (text ++ b ∷ []))) rest

-- a star, and what is left behind it
abbrev pub starred : ℕ → List ℕ → FirstPiece
starred b [] = found (Token (kind.Mark mark.Star) (b ∷ [])) []
starred b (c ∷ bs) =
    if c == 42 then found (Token (kind.Mark mark.Power) (b ∷ c ∷ [])) bs
    else found (Token (kind.Mark mark.Star) (b ∷ [])) (c ∷ bs)

-- the first piece, by the class of its first byte
abbrev pub by_class : Class → ℕ → List ℕ → FirstPiece
by_class Space b bs = found (Token kind.Blank (b ∷ front is_space bs)) (behind_front is_space bs)
by_class Letter b bs = found (Token kind.Name (b ∷ front is_word bs)) (behind_front is_word bs)
by_class Digit b bs = found (Token kind.Integer (b ∷ front is_digit bs)) (behind_front is_digit bs)
by_class Quote b bs = quoted b (front (differs b) bs) (behind_front (differs b) bs)
by_class Star b bs = starred b bs
by_class Dot b bs = found (Token (kind.Mark mark.Dot) (b ∷ [])) bs
by_class (Sign m) b bs = found (Token (kind.Mark m) (b ∷ [])) bs
by_class _ b bs = found (Stray b) bs

unfoldable pub first_piece : ℕ → List ℕ → FirstPiece
first_piece b bs = by_class (class b) b bs

-- each piece takes a byte or more, so as many pieces as bytes are enough
unfoldable pub pieces_from : ℕ → List ℕ → List Piece
pieces_from n [] = []
pieces_from zero (b ∷ bs) = []
pieces_from (suc n) (b ∷ bs) = (first_piece b bs).piece ∷ pieces_from n (first_piece b bs).rest

unfoldable pub pieces : List ℕ → List Piece
pieces text = pieces_from (length text) text

-- each text has these pieces and no others
pub record EachTextHasOneCut : Type 0 where
  pub cut : (text : List ℕ) → Cut text (pieces text)
  pub only : (text : List ℕ) (ps : List Piece) → Cut text ps → ps ≡ pieces text
