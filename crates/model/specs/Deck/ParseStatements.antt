-- The tree of a token list, as a function of it: the statements.
use Rattle.std.specs.Prelude.{ℕ, ◌&&◌, Bool, true, false, List, [], ◌∷◌, length, Option, Some, None, if◌then◌else◌}
use Rattle.std.specs.Str.{bytes_eq}
use Rattle.model.specs.declared.tokens.Mark.{Mark}
use Rattle.model.specs.declared.tokens.Mark.TheVariants as mark
use Rattle.model.specs.Deck.Tokens.{Tok, Blank, Word}
use Rattle.model.specs.Deck.Trees.{Bytes, Expr, Place, Label, Computed, Goto, Next, Always, OnSuccess, OnFailure, Both, Body, Nothing, Evaluate, Match, Assign, Replace, Stmt, Plain, End}
use Rattle.model.specs.Deck.Statements.{on_success, on_failure, end_word}
use Rattle.model.specs.Deck.Parse.{Parser, bind, skip, starts, sees, tail, expect, element, whole, at_end}

-- whether this word comes next
abbrev pub word_is : Bytes → Tok → Bool
word_is w (Word s) = bytes_eq s w
word_is w _ = false

unfoldable pub sees_word : Bytes → List Tok → Bool
sees_word w [] = false
sees_word w (t ∷ ts) = word_is w t

abbrev pub is_blank_tok : Tok → Bool
is_blank_tok Blank = true
is_blank_tok _ = false

-- whether blanks and this mark come next
unfoldable pub sees_spaced : Mark → List Tok → Bool
sees_spaced m [] = false
sees_spaced m (t ∷ ts) = is_blank_tok t && sees m ts

-- whether blanks and an element come next
unfoldable pub starts_spaced : List Tok → Bool
starts_spaced [] = false
starts_spaced (t ∷ ts) = is_blank_tok t && starts ts

abbrev pub is_word_tok : Tok → Bool
is_word_tok (Word s) = true
is_word_tok _ = false

-- whether a word comes next
unfoldable pub starts_word : List Tok → Bool
starts_word [] = false
starts_word (t ∷ ts) = is_word_tok t

-- whether blanks and a word come next
unfoldable pub word_spaced : List Tok → Bool
word_spaced [] = false
word_spaced (t ∷ ts) = is_blank_tok t && starts_word ts

-- a word, where one comes next
abbrev pub label_parser : Parser (Option Bytes)
label_parser (Word l ∷ ts) = Some (Some l, ts)
label_parser ts = Some (None, ts)

-- the entry of END, and blanks
unfoldable pub after_end : Parser Stmt
after_end ts = if word_spaced ts then bind (label_parser (tail ts)) (λ l rest. Some (End l, skip rest)) else Some (End None, skip ts)

-- the goto with the place that stands first, and with the other where there is one
abbrev pub from_success : Place → Option Place → Goto
from_success p None = OnSuccess p
from_success p (Some q) = Both p q

abbrev pub from_failure : Place → Option Place → Goto
from_failure q None = OnFailure q
from_failure q (Some p) = Both p q

-- brackets and unary operators are nested less deep than the number
module _ (d : ℕ) where
  -- ---- gotos
  abbrev pub place_named : Parser Place
  place_named (Word l ∷ ts) = Some (Label l, ts)
  place_named ts = None

  unfoldable pub place_parser : Parser Place
  place_parser ts = if sees mark.Dollar ts then bind (element d (tail ts)) (λ e rest. Some (Computed e, rest)) else place_named ts

  unfoldable pub in_brackets : Parser Place
  in_brackets ts = if sees mark.Open ts then bind (place_parser (skip (tail ts))) (λ p rest. expect mark.Close p (skip rest)) else None

  -- the place after blanks and this word, where the word comes next
  unfoldable pub second : Bytes → Parser (Option Place)
  second word ts = if sees_word word (skip ts) then bind (in_brackets (tail (skip ts))) (λ q rest. Some (Some q, rest)) else Some (None, ts)

  unfoldable pub exits : Parser Goto
  exits ts =
      if sees_word on_success ts then bind (in_brackets (tail ts)) (λ p rest. bind (second on_failure rest) (λ q end. Some (from_success p q, end)))
      else (if sees_word on_failure ts then bind (in_brackets (tail ts)) (λ q rest. bind (second on_success rest) (λ p end. Some (from_failure q p, end)))
      else bind (in_brackets ts) (λ p rest. Some (Always p, rest)))

  unfoldable pub goto : Parser Goto
  goto ts = if sees_spaced mark.Colon ts then exits (skip (tail (tail ts))) else Some (Next, ts)

  -- ---- bodies
  unfoldable pub object_parser : Parser (Option Expr)
  object_parser ts = if starts_spaced ts then bind (whole d (tail ts)) (λ e rest. Some (Some e, rest)) else Some (None, ts)

  unfoldable pub after_pattern : Expr → Expr → Parser Body
  after_pattern x p ts = if sees_spaced mark.Equal ts then bind (object_parser (tail (tail ts))) (λ o rest. Some (Replace x p o, rest)) else Some (Match x p, ts)

  unfoldable pub after_subject : Expr → Parser Body
  after_subject x ts =
      if sees_spaced mark.Equal ts then bind (object_parser (tail (tail ts))) (λ o rest. Some (Assign x o, rest))
      else (if starts_spaced ts then bind (whole d (tail ts)) (after_pattern x) else Some (Evaluate x, ts))

  unfoldable pub body_parser : Parser Body
  body_parser ts = if starts_spaced ts then bind (element d (tail ts)) after_subject else Some (Nothing, ts)

  -- ---- statements
  unfoldable pub after_label : Option Bytes → Parser Stmt
  after_label l ts = bind (body_parser ts) (λ b rest. bind (goto rest) (λ g end. Some (Plain l b g, skip end)))

  unfoldable pub statement_parser : Parser Stmt
  statement_parser ts = if sees_word end_word ts then after_end (tail ts) else bind (label_parser ts) after_label

-- the one tree of all the tokens
unfoldable pub stmt : List Tok → Option Stmt
stmt ts = at_end (statement_parser (length ts) ts)
