-- How far a deck is read.
use Rattle.std.specs.Prelude.{◌≡◌, ℕ, ◌+◌, ◌∷◌, ◌++◌, ◌||◌, Bool, true, false, List, [], length, Option, Some, None, is_some, Result, Ok, Err, map}
use Rattle.model.specs.declared.cards.Statement.{Statement}
use Rattle.model.specs.declared.cards.CardFault.{CardFault}
use Rattle.model.specs.Deck.Cards.{Card, CardKind, Start, Column, lines, numbered_from, cards, kind_of, continued, texts, split, pieces_of_texts, pieces_of, beginnings, first_ended, ended, bad_bytes, lost_continuations, unknown_controls, least}
use Rattle.card_reader.specs.declared.reader.Reader.{Reader}
use Rattle.card_reader.specs.Parts.{Parts, glue}
use Rattle.card_reader.specs.Reading.{merge, Waits}

-- all pieces of parts, where these follow
abbrev pub with_more : Parts → List (List Column) → List (List Column)
with_more s more = s.whole ++ glue (s.last ∷ []) more

-- the pieces of all cards, where these follow the parts
abbrev pub pieces_at : Option Parts → List Card → List (List Column)
pieces_at None cards = pieces_of_texts (texts cards)
pieces_at (Some s) cards = with_more s (split s.quote (continued cards)) ++ pieces_of_texts (texts cards)

-- the card that ends the deck, where none of these before does
abbrev pub ended_at : List Card → List Card → Option (List Card)
ended_at before cards = first_ended (map (λ b. before ++ b) (beginnings cards))

abbrev pub is_start : CardKind → Bool
is_start (Start text) = true
is_start _ = false

-- whether a text begins on one of these cards
abbrev pub has_start : List Card → Bool
has_start [] = false
has_start (card ∷ cards) = is_start (kind_of card) || has_start cards

-- the least of C1 to C3
unfoldable pub early : List Card → Option CardFault
early cards = merge (least (bad_bytes cards)) (merge (least (lost_continuations cards)) (least (unknown_controls cards)))

-- the reader has read all cards but those of the rest, the next of which has this number
pub record Reached (deck : List ℕ) (r : Reader) (number : ℕ) (rest : List ℕ) : Type 0 where
  pub before : List Card
  pub parts : Option Parts
  pub cards_are : cards deck ≡ before ++ numbered_from number (lines rest)
  pub count : number ≡ length before + 1
  pub pieces : (more : List Card) → pieces_of (before ++ more) ≡ pieces_at parts more
  pub begun : has_start before ≡ is_some parts
  pub waits : Waits r parts (early before)
  pub ended : ended (cards deck) ≡ ended_at before (numbered_from number (lines rest))

-- the result of a reader that has read all
abbrev pub answer : List Statement → Option CardFault → Result (List Statement) CardFault
answer statements None = Ok statements
answer statements (Some f) = Err f
