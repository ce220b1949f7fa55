-- Worked cases of texts, one beside the other: their pieces, and the least of L1 to L5.
use Rattle.std.specs.Prelude.{◌≡◌, ℕ, zero, suc, List, [], ◌∷◌, ◌++◌, Option, Some, None, codes}
use Rattle.model.specs.declared.causes.Cause.{Cause}
use Rattle.model.specs.declared.causes.Cause.TheVariants as cause
use Rattle.model.specs.declared.tokens.Mark.{Mark}
use Rattle.model.specs.declared.tokens.Mark.TheVariants as mark
use Rattle.model.specs.declared.tokens.TokenKind.TheVariants as kind
use Rattle.model.specs.Deck.Cut.{Piece, Token, Stray, Unclosed, written, least_lexical, toks_of}
use Rattle.model.specs.Deck.Pieces.{pieces}
use Rattle.model.specs.Deck.Tokens as t

abbrev sign : Mark → Piece
sign m = Token (kind.Mark m) (written m)

abbrev blank : List ℕ → Piece
blank text = Token kind.Blank text

abbrev name : List ℕ → Piece
name text = Token kind.Name text

abbrev integer : List ℕ → Piece
integer text = Token kind.Integer text

abbrev literal : List ℕ → Piece
literal text = Token kind.Literal text

-- the least cause of a text
abbrev least_of : List ℕ → Option Cause
least_of text = least_lexical (pieces text)

abbrev times : ℕ → List ℕ → List ℕ
times zero text = []
times (suc n) text = text ++ times n text

pub record CutRows : Type 0 where
  pub nothing : pieces [] ≡ []
  pub statement : pieces (codes "L  X.1_ = 42") ≡ name (codes "L") ∷ blank (codes "  ") ∷ name (codes "X.1_") ∷ blank (codes " ") ∷ sign mark.Equal ∷ blank (codes " ") ∷ integer (codes "42") ∷ []
  pub all_marks : pieces (codes "(**)*<>,=:/+-.$@?&|~") ≡ sign mark.Open ∷ sign mark.Power ∷ sign mark.Close ∷ sign mark.Star ∷ sign mark.Less ∷ sign mark.Greater ∷ sign mark.Comma ∷ sign mark.Equal
      ∷ sign mark.Colon ∷ sign mark.Slash ∷ sign mark.Plus ∷ sign mark.Minus ∷ sign mark.Dot ∷ sign mark.Dollar ∷ sign mark.At ∷ sign mark.Question ∷ sign mark.Ampersand ∷ sign mark.Bar ∷ sign mark.Tilde ∷ []
  pub three_stars : pieces (codes "***") ≡ sign mark.Power ∷ sign mark.Star ∷ []
  pub digits_then_letter : pieces (codes "1A") ≡ integer (codes "1") ∷ name (codes "A") ∷ []
  pub dot_first : pieces (codes ".A.B") ≡ sign mark.Dot ∷ name (codes "A.B") ∷ []
  pub underscore_first : pieces (codes "_A") ≡ Stray 95 ∷ name (codes "A") ∷ []
  -- the other quote doesn't close a literal
  pub quotes : pieces (codes "'A\"'\"B'\"") ≡ literal (codes "'A\"'") ∷ literal (codes "\"B'\"") ∷ []
  pub two_literals : pieces (codes "'A''B'") ≡ literal (codes "'A'") ∷ literal (codes "'B'") ∷ []
  pub unclosed : pieces (codes "X 'A # B") ≡ name (codes "X") ∷ blank (codes " ") ∷ Unclosed (codes "'A # B") ∷ []
  pub tokens : toks_of (pieces (codes " 'A' 07")) ≡ t.Blank ∷ t.Quoted (codes "A") ∷ t.Blank ∷ t.Digits 7 ∷ []
  pub fair : least_of (codes " OUTPUT = 'A#' 9223372036854775807") ≡ None
  pub stray : least_of (codes " X = 'A' # 'B'") ≡ Some cause.StrayByte
  pub open_literal : least_of (codes " OUTPUT = 'X") ≡ Some cause.UnclosedLiteral
  -- what an open literal holds is no stray byte
  pub open_literal_holds_all : least_of (codes " 'X # ") ≡ Some cause.UnclosedLiteral
  pub large : least_of (codes " X = 9223372036854775808") ≡ Some cause.IntegerTooLarge
  pub leading_zeros : least_of (codes " X = 00000000000000000000009") ≡ None
  pub deep : least_of (times 65 (codes "(") ++ codes "Y" ++ times 65 (codes ")")) ≡ Some cause.TooManyBrackets
  pub not_too_deep : least_of (times 64 (codes "(") ++ codes "Y" ++ times 64 (codes ")")) ≡ None
  pub both_kinds : least_of (times 33 (codes "(A<")) ≡ Some cause.TooManyBrackets
  -- a bracket closes the newest open one of either kind, and none where none is open
  pub closed_between : least_of (times 65 (codes "(>")) ≡ None
  pub closed_before : least_of (times 9 (codes ")") ++ times 65 (codes "(")) ≡ Some cause.TooManyBrackets
  pub long_row : least_of (codes " X = " ++ times 17 (codes "-") ++ codes "Y") ≡ Some cause.TooManyMarks
  pub not_too_long_row : least_of (codes " X = " ++ times 16 (codes "-") ++ codes "Y") ≡ None
  -- eight times `**`, and `*`
  pub stars : least_of (times 17 (codes "*")) ≡ None
  pub broken_row : least_of (times 16 (codes "-") ++ codes "**" ++ times 16 (codes "-")) ≡ None
  -- the least of several
  pub large_and_stray : least_of (codes "9223372036854775808 #") ≡ Some cause.StrayByte
  pub deep_and_open : least_of (times 65 (codes "(") ++ codes "'") ≡ Some cause.UnclosedLiteral
