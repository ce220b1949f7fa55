-- Which pieces the text of a statement is cut into, and which of L1 to L5 they break.
use Rattle.std.specs.Prelude.{◌≡◌, ◌≤◌, ℕ, ◌+◌, ◌-◌, ◌&&◌, ◌||◌, ◌==◌, nat_le, nat_lt, Bool, true, false, not, List, [], ◌∷◌, ◌++◌, length, Option, Some, None, if◌then◌else◌, codes}
use Rattle.model.specs.declared.causes.Cause.{Cause}
use Rattle.model.specs.declared.causes.Cause.TheVariants as cause
use Rattle.model.specs.declared.tokens.Mark.{Mark}
use Rattle.model.specs.declared.tokens.Mark.TheVariants as mark
use Rattle.model.specs.declared.tokens.TokenKind.{TokenKind}
use Rattle.model.specs.declared.tokens.TokenKind.TheVariants as kind
use Rattle.model.specs.Deck.Digits.{decimal_value}
use Rattle.model.specs.Deck.Tokens.{Tok, tok_by}

-- ---- bytes

-- what a byte is; each is exactly one of these
pub data Class : Type 0 where
  Space Letter Digit Quote Star Dot Underscore : Class
  -- a mark of one byte other than `*` and `.`
  Sign : Mark → Class
  Other : Class

abbrev pub class_of_sign : ℕ → Class
class_of_sign b =
    if b == 40 then Sign mark.Open
    else (if b == 41 then Sign mark.Close
    else (if b == 60 then Sign mark.Less
    else (if b == 62 then Sign mark.Greater
    else (if b == 44 then Sign mark.Comma
    else (if b == 61 then Sign mark.Equal
    else (if b == 58 then Sign mark.Colon
    else (if b == 47 then Sign mark.Slash
    else (if b == 43 then Sign mark.Plus
    else (if b == 45 then Sign mark.Minus
    else (if b == 36 then Sign mark.Dollar
    else (if b == 64 then Sign mark.At
    else (if b == 63 then Sign mark.Question
    else (if b == 38 then Sign mark.Ampersand
    else (if b == 124 then Sign mark.Bar
    else (if b == 126 then Sign mark.Tilde else Other)))))))))))))))

unfoldable pub class : ℕ → Class
class b =
    if b == 32 then Space
    else (if (nat_le 65 b && nat_le b 90) || (nat_le 97 b && nat_le b 122) then Letter
    else (if nat_le 48 b && nat_le b 57 then Digit
    else (if b == 39 || b == 34 then Quote
    else (if b == 42 then Star
    else (if b == 46 then Dot
    else (if b == 95 then Underscore
    else class_of_sign b))))))

abbrev pub spacy : Class → Bool
spacy Space = true
spacy _ = false

abbrev pub wordy : Class → Bool
wordy Letter = true
wordy Digit = true
wordy Dot = true
wordy Underscore = true
wordy _ = false

abbrev pub digital : Class → Bool
digital Digit = true
digital _ = false

abbrev pub is_space : ℕ → Bool
is_space b = spacy (class b)

abbrev pub is_word : ℕ → Bool
is_word b = wordy (class b)

abbrev pub is_digit : ℕ → Bool
is_digit b = digital (class b)

abbrev pub differs : ℕ → ℕ → Bool
differs q b = not (b == q)

abbrev pub all : (ℕ → Bool) → List ℕ → Bool
all p [] = true
all p (b ∷ bs) = p b && all p bs

-- ---- tokens

-- how a mark is written
abbrev pub written : Mark → List ℕ
written mark.Power = codes "**"
written mark.Open = codes "("
written mark.Close = codes ")"
written mark.Less = codes "<"
written mark.Greater = codes ">"
written mark.Comma = codes ","
written mark.Equal = codes "="
written mark.Colon = codes ":"
written mark.Star = codes "*"
written mark.Slash = codes "/"
written mark.Plus = codes "+"
written mark.Minus = codes "-"
written mark.Dot = codes "."
written mark.Dollar = codes "$"
written mark.At = codes "@"
written mark.Question = codes "?"
written mark.Ampersand = codes "&"
written mark.Bar = codes "|"
written mark.Tilde = codes "~"

-- the text is a token of this kind
abbrev pub IsToken : TokenKind → List ℕ → Type 0
IsToken k [] = ⊥
IsToken kind.Blank (b ∷ bs) = (class b ≡ Space) × (all is_space bs ≡ true)
IsToken kind.Name (b ∷ bs) = (class b ≡ Letter) × (all is_word bs ≡ true)
IsToken kind.Integer (b ∷ bs) = (class b ≡ Digit) × (all is_digit bs ≡ true)
IsToken kind.Literal (b ∷ bs) = (class b ≡ Quote) × ((inner : List ℕ) × (bs ≡ inner ++ b ∷ []) × (all (differs b) inner ≡ true))
IsToken (kind.Mark m) (b ∷ bs) = b ∷ bs ≡ written m

-- a token of this kind begins the text
pub record Begins (text : List ℕ) (k : TokenKind) (token : List ℕ) : Type 0 where
  pub is : IsToken k token
  pub rest : List ℕ
  pub whole : text ≡ token ++ rest

-- ---- pieces

pub data Piece : Type 0 where
  Token : TokenKind → List ℕ → Piece
  -- a byte that begins no token
  Stray : ℕ → Piece
  -- a quote without its end, and all that is left
  Unclosed : List ℕ → Piece

abbrev pub text_of : Piece → List ℕ
text_of (Token k text) = text
text_of (Stray b) = b ∷ []
text_of (Unclosed text) = text

-- the first piece of a text: its longest token; else a quote and all that is left; else one byte
pub data First : List ℕ → Piece → Type 0 where
  longest : (text : List ℕ) (k : TokenKind) (token : List ℕ) → Begins text k token
      → ((j : TokenKind) (other : List ℕ) → Begins text j other → length other ≤ length token) → First text (Token k token)
  unclosed : (b : ℕ) (bs : List ℕ) → class b ≡ Quote → ((k : TokenKind) (token : List ℕ) → Begins (b ∷ bs) k token → ⊥) → First (b ∷ bs) (Unclosed (b ∷ bs))
  stray : (b : ℕ) (bs : List ℕ) → (class b ≡ Quote → ⊥) → ((k : TokenKind) (token : List ℕ) → Begins (b ∷ bs) k token → ⊥) → First (b ∷ bs) (Stray b)

-- these pieces, joined, are the text, and each is the first of what is left there
abbrev pub Cut : List ℕ → List Piece → Type 0
Cut text [] = text ≡ []
Cut text (p ∷ ps) = First text p × ((rest : List ℕ) × (text ≡ text_of p ++ rest) × Cut rest ps)

-- the tokens among the pieces, as the grammar sees them
abbrev pub toks_of : List Piece → List Tok
toks_of [] = []
toks_of (Token k text ∷ ps) = tok_by k text ∷ toks_of ps
toks_of (_ ∷ ps) = toks_of ps

-- ---- what pieces may break

abbrev pub has : (Piece → Bool) → List Piece → Bool
has p [] = false
has p (piece ∷ ps) = p piece || has p ps

abbrev pub is_stray : Piece → Bool
is_stray (Stray b) = true
is_stray _ = false

abbrev pub is_unclosed : Piece → Bool
is_unclosed (Unclosed text) = true
is_unclosed _ = false

abbrev pub is_too_large : Piece → Bool
is_too_large (Token kind.Integer ds) = nat_lt 9223372036854775807 (decimal_value ds)
is_too_large _ = false

-- how many brackets are open after a mark; each closing one closes the newest of either kind, if any is open
abbrev pub open_after_mark : ℕ → Mark → ℕ
open_after_mark n mark.Open = n + 1
open_after_mark n mark.Less = n + 1
open_after_mark n mark.Close = n - 1
open_after_mark n mark.Greater = n - 1
open_after_mark n _ = n

abbrev pub open_after : ℕ → Piece → ℕ
open_after n (Token (kind.Mark m) text) = open_after_mark n m
open_after n _ = n

-- more than 64 brackets are open at some place, where so many are open before
abbrev pub opens_too_many : ℕ → List Piece → Bool
opens_too_many n [] = false
opens_too_many n (p ∷ ps) = nat_lt 64 (open_after n p) || opens_too_many (open_after n p) ps

-- the marks that are unary operators; `**` is none
abbrev pub may_be_unary : Mark → Bool
may_be_unary mark.Star = true
may_be_unary mark.Plus = true
may_be_unary mark.Minus = true
may_be_unary mark.Dot = true
may_be_unary mark.Dollar = true
may_be_unary mark.At = true
may_be_unary mark.Question = true
may_be_unary mark.Ampersand = true
may_be_unary mark.Tilde = true
may_be_unary _ = false

-- how many such marks stand in a row up to here
abbrev pub row_after : ℕ → Piece → ℕ
row_after n (Token (kind.Mark m) text) = if may_be_unary m then n + 1 else 0
row_after n _ = 0

-- more than 16 such marks stand in a row at some place, where so many stand before
abbrev pub rows_too_many : ℕ → List Piece → Bool
rows_too_many n [] = false
rows_too_many n (p ∷ ps) = nat_lt 16 (row_after n p) || rows_too_many (row_after n p) ps

-- the least of L1 to L5 that the pieces break
unfoldable pub least_lexical : List Piece → Option Cause
least_lexical ps =
    if has is_stray ps then Some cause.StrayByte
    else (if has is_unclosed ps then Some cause.UnclosedLiteral
    else (if has is_too_large ps then Some cause.IntegerTooLarge
    else (if opens_too_many 0 ps then Some cause.TooManyBrackets
    else (if rows_too_many 0 ps then Some cause.TooManyMarks else None))))
