-- Worked cases of cards, one beside the other: the deck, and its statements or its fault.
use Rattle.std.specs.Prelude.{◌≡◌, ◌<◌, ℕ, zero, suc, List, [], ◌∷◌, ◌++◌, Result, Ok, Err, codes, replicate, length}
use Rattle.model.specs.declared.cards.Statement.{Statement}
use Rattle.model.specs.declared.cards.CardFault.{CardFault}
use Rattle.model.specs.declared.cards.CardRule.{CardRule}
use Rattle.model.specs.declared.cards.CardRule.TheVariants as rule
use Rattle.model.specs.Deck.Cards.{deck, fault}

-- a card with its line feed
abbrev card : List ℕ → List ℕ
card line = line ++ 10 ∷ []

abbrev statement : ℕ → ℕ → List ℕ → Statement
statement number first text = record { number = number; card = first; text = text }

abbrev refused_at : ℕ → CardRule → Result (List Statement) CardFault
refused_at n r = Err (fault n r)

abbrev xs : ℕ → List ℕ
xs n = replicate n 88

abbrev times : ℕ → List ℕ → List ℕ
times zero text = []
times (suc n) text = text ++ times n text

-- a text of 3,977 bytes over 56 cards, and as many more on the next card
abbrev long_text : ℕ → List ℕ
long_text more = card (xs 72) ++ times 55 (card (codes "+" ++ xs 71)) ++ card (codes "+" ++ xs more)

pub record CardRows : Type 0 where
  -- no card at all
  pub no_bytes : deck [] ≡ refused_at 1 rule.NoEnd
  pub end_alone : deck (card (codes "END")) ≡ Ok (statement 1 1 (codes "END") ∷ [])
  pub end_without_line_feed : deck (card (codes " X") ++ codes "END") ≡ Ok (statement 1 1 (codes " X") ∷ statement 2 2 (codes "END") ∷ [])
  pub no_end : deck (card (codes " X") ++ card (codes " ENDS")) ≡ refused_at 3 rule.NoEnd
  pub continuation_first : deck (card (codes "+ X")) ≡ refused_at 1 rule.NothingToContinue
  pub continuation_after_comment : deck (card (codes "* C") ++ card (codes "+ X") ++ card (codes "END")) ≡ refused_at 2 rule.NothingToContinue
  pub unknown_control : deck (card (codes "-LISTX")) ≡ refused_at 1 rule.UnknownControl
  pub known_controls : deck (card (codes "-LIST ON") ++ card (codes "-UNLIST") ++ card (codes "-EJECT") ++ card (codes "END")) ≡ Ok (statement 1 4 (codes "END") ∷ [])
  pub two_on_a_card : deck (card (codes " OUTPUT = 1;END")) ≡ Ok (statement 1 1 (codes " OUTPUT = 1") ∷ statement 2 1 (codes "END") ∷ [])
  -- nothing stands between what the two cards give
  pub joined : deck (card (codes " OUTPUT = 'AB") ++ card (codes "+CD'") ++ card (codes ".E") ++ card (codes "END")) ≡ Ok (statement 1 1 (codes " OUTPUT = 'ABCD'E") ∷ statement 2 4 (codes "END") ∷ [])
  pub comments_between : deck (card (codes " X") ++ card (codes "* C") ++ card [] ++ card (codes "-LIST") ++ card (codes "+Y") ++ card (codes "END")) ≡ Ok (statement 1 1 (codes " XY") ∷ statement 2 6 (codes "END") ∷ [])
  pub semicolon_in_literal : deck (card (codes " X = 'A;") ++ card (codes "+B' ; ;Y") ++ card (codes "END"))
      ≡ Ok (statement 1 1 (codes " X = 'A;B' ") ∷ statement 2 2 (codes "Y") ∷ statement 3 3 (codes "END") ∷ [])
  pub other_quote_inside : deck (card (codes " X = '\";';Y") ++ card (codes "END")) ≡ Ok (statement 1 1 (codes " X = '\";'") ∷ statement 2 1 (codes "Y") ∷ statement 3 2 (codes "END") ∷ [])
  pub open_literal : deck (card (codes " X = 'A;Y") ++ card (codes "END")) ≡ Ok (statement 1 1 (codes " X = 'A;Y") ∷ statement 2 2 (codes "END") ∷ [])
  pub blank_piece : deck (card (codes " X;  ;;Y") ++ card (codes "END")) ≡ Ok (statement 1 1 (codes " X") ∷ statement 2 1 (codes "Y") ∷ statement 3 2 (codes "END") ∷ [])
  -- what stands behind the END piece is ignored, on its card and after it
  pub after_end : deck (card (codes "END A;B") ++ card (codes "-FOO") ++ card (9 ∷ [])) ≡ Ok (statement 1 1 (codes "END A") ∷ [])
  -- but a bad byte on its card is reported
  pub bad_byte_after_end : deck (card (codes "END;" ++ 9 ∷ [])) ≡ refused_at 1 rule.BadByte
  -- the deck ends at the card that makes the piece END
  pub end_over_two_cards : deck (card (codes ";EN") ++ card (codes "+D") ++ card (codes "+ A")) ≡ Ok (statement 1 1 (codes "END") ∷ [])
  pub end_before_continuation : deck (card (codes "END") ++ card (codes "+ING")) ≡ Ok (statement 1 1 (codes "END") ∷ [])
  pub not_yet_end : deck (card (codes "EN") ++ card (codes "+DX") ++ card (codes "END")) ≡ Ok (statement 1 1 (codes "ENDX") ∷ statement 2 3 (codes "END") ∷ [])
  -- column 73 isn't read
  pub past_column_72 : deck (card (xs 72 ++ codes "Y") ++ card (codes "END")) ≡ Ok (statement 1 1 (xs 72) ∷ statement 2 2 (codes "END") ∷ [])
  pub bad_byte_past_column_72 : deck (card (xs 72 ++ 127 ∷ []) ++ card (codes "END")) ≡ refused_at 1 rule.BadByte
  pub bad_byte_in_comment : deck (card (codes "* " ++ 9 ∷ []) ++ card (codes "END")) ≡ refused_at 1 rule.BadByte
  -- the least card, then the least number
  pub two_on_one_card : deck (card (codes "+" ++ 9 ∷ []) ++ card (codes "END")) ≡ refused_at 1 rule.BadByte
  pub earlier_card : deck (card (codes " X") ++ card (codes "-FOO") ++ card (9 ∷ []) ++ card (codes "END")) ≡ refused_at 2 rule.UnknownControl
  pub four_thousand_bytes : deck (long_text 23 ++ card (codes "END")) ≡ Ok (statement 1 1 (xs 4000) ∷ statement 2 58 (codes "END") ∷ [])
  -- reported at the card of its first byte, and so before what is wrong with a later card
  pub one_byte_more : deck (long_text 24 ++ card (codes "-FOO") ++ card (codes "END")) ≡ refused_at 1 rule.StatementTooLong
  -- a deck over 16,777,216 bytes is reported at card 0, whatever is in it
  pub too_long : (text : List ℕ) → 16777216 < length text → deck text ≡ refused_at 0 rule.DeckTooLong
