-- What the scan of one piece returns.
use Rattle.std.specs.Prelude.{◌≡◌, ◌<◌, ◌≤◌, ℕ, List, [], ◌∷◌, length, take, drop, Option, Some, None}
use Rattle.model.specs.Deck.Cut.{Class, Piece, Token, Stray, Unclosed}
use Rattle.model.specs.Deck.Cut as cut
use Rattle.model.specs.declared.tokens.TokenKind.TheVariants as kind
use Rattle.model.specs.Deck.Pieces.{FirstPiece, found, first_piece}
use Rattle.lexer.specs.declared.class.Class as declared
use Rattle.lexer.specs.declared.class.Class.TheVariants as c
use Rattle.lexer.specs.declared.scan.Scanned.{Scanned}
use Rattle.lexer.specs.declared.scan.Scanned.TheVariants as s

abbrev pub class_of : declared.Class → Class
class_of c.Space = cut.Space
class_of c.Letter = cut.Letter
class_of c.Digit = cut.Digit
class_of c.Quote = cut.Quote
class_of c.Star = cut.Star
class_of c.Dot = cut.Dot
class_of c.Underscore = cut.Underscore
class_of (c.Sign m) = cut.Sign m
class_of c.Other = cut.Other

-- the piece that begins the text, and the text behind it
abbrev pub found_by : List ℕ → Scanned → FirstPiece
found_by text (s.Token k n) = found (Token k (take n text)) (drop n text)
found_by [] s.Stray = found (Unclosed []) []
found_by (b ∷ bs) s.Stray = found (Stray b) bs
found_by text s.Unclosed = found (Unclosed text) []

abbrev pub fits : List ℕ → Scanned → Type 0
fits text (s.Token k n) = (0 < n) × (n ≤ length text)
fits text _ = Unit {0}

-- the scan of this text returns what the function `pieces` finds
abbrev pub IsFound : List ℕ → Scanned → FirstPiece → Type 0
IsFound text p f = (found_by text p ≡ f) × fits text p

abbrev pub IsScanned : List ℕ → Option Scanned → Type 0
IsScanned [] None = Unit {0}
IsScanned [] (Some p) = ⊥
IsScanned (b ∷ bs) None = ⊥
IsScanned (b ∷ bs) (Some p) = IsFound (b ∷ bs) p (first_piece b bs)

-- the name that this piece in front of a text is
abbrev pub name_found : List ℕ → Scanned → Option (List ℕ)
name_found text (s.Token kind.Name n) = Some (take n text)
name_found text _ = None
