-- The statements of a deck, or its first fault of cards, as a function of the whole deck.
use Rattle.std.specs.Prelude.{ℕ, ◌+◌, ◌&&◌, ◌||◌, nat_le, nat_lt, ◌==◌, Bool, true, false, List, [], ◌∷◌, ◌++◌, length, take, Option, Some, None, Result, Ok, Err, if◌then◌else◌, map, codes}
use Rattle.std.specs.List.{list_all}
use Rattle.model.specs.declared.cards.Statement.{Statement}
use Rattle.model.specs.declared.cards.CardFault.{CardFault}
use Rattle.model.specs.declared.cards.CardRule.{CardRule}
use Rattle.model.specs.declared.cards.CardRule.TheVariants as rule
use Rattle.model.specs.Language.Strings.{is_blank}

-- ---- cards

pub record Card : Type 0 where
  pub number : ℕ
  pub line : List ℕ

abbrev pub to_first : ℕ → List (List ℕ) → List (List ℕ)
to_first b [] = (b ∷ []) ∷ []
to_first b (line ∷ lines) = (b ∷ line) ∷ lines

-- the parts between line feeds; a line feed at the very end begins none
abbrev pub lines : List ℕ → List (List ℕ)
lines [] = []
lines (b ∷ bs) = if b == 10 then [] ∷ lines bs else to_first b (lines bs)

abbrev pub numbered_from : ℕ → List (List ℕ) → List Card
numbered_from n [] = []
numbered_from n (line ∷ lines) = record { number = n; line = line } ∷ numbered_from (n + 1) lines

abbrev pub cards : List ℕ → List Card
cards deck = numbered_from 1 (lines deck)

-- ---- what a card is

abbrev pub is_blank_text : List ℕ → Bool
is_blank_text text = list_all is_blank text

-- the text is the word, or begins with the word and a blank
abbrev pub is_word_first : List ℕ → List ℕ → Bool
is_word_first [] [] = true
is_word_first [] (b ∷ bs) = is_blank b
is_word_first (w ∷ ws) [] = false
is_word_first (w ∷ ws) (b ∷ bs) = (w == b) && is_word_first ws bs

abbrev pub is_known_control : List ℕ → Bool
is_known_control text = is_word_first (codes "-LIST") text || is_word_first (codes "-UNLIST") text || is_word_first (codes "-EJECT") text

pub data CardKind : Type 0 where
  Comment Control UnknownControl : CardKind
  -- what it appends to the text before it
  Continuation : List ℕ → CardKind
  -- what its new text begins with
  Start : List ℕ → CardKind

abbrev pub kind_by_first : ℕ → List ℕ → CardKind
kind_by_first b rest =
    if b == 42 then Comment
    else (if b == 45 then (if is_known_control (b ∷ rest) then Control else UnknownControl)
    else (if b == 43 || b == 46 then Continuation rest else Start (b ∷ rest)))

abbrev pub kind_of_columns : List ℕ → CardKind
kind_of_columns [] = Comment
kind_of_columns (b ∷ bs) = if is_blank_text (b ∷ bs) then Comment else kind_by_first b bs

-- columns past 72 aren't read
unfoldable pub kind_of : Card → CardKind
kind_of card = kind_of_columns (take 72 card.line)

-- ---- texts

-- a byte of a text, with the number of its card
pub record Column : Type 0 where
  pub card : ℕ
  pub byte : ℕ

abbrev pub placed : ℕ → List ℕ → List Column
placed n = map (λ b. record { card = n; byte = b })

abbrev pub column_bytes : List Column → List ℕ
column_bytes = map (λ c. c.byte)

abbrev pub before_continued : CardKind → ℕ → List Column → List Column
before_continued (Continuation text) n more = placed n text ++ more
before_continued (Start text) n more = []
before_continued _ n more = more

-- what the continuations among these cards append, up to the card that begins the next text
abbrev pub continued : List Card → List Column
continued [] = []
continued (card ∷ cards) = before_continued (kind_of card) card.number (continued cards)

abbrev pub before_texts : CardKind → ℕ → List Column → List (List Column) → List (List Column)
before_texts (Start text) n more others = (placed n text ++ more) ∷ others
before_texts _ n more others = others

-- each text is what its first card gives and what its continuations append
abbrev pub texts : List Card → List (List Column)
texts [] = []
texts (card ∷ cards) = before_texts (kind_of card) card.number (continued cards) (texts cards)

-- ---- pieces

abbrev pub into_first : Column → List (List Column) → List (List Column)
into_first c [] = (c ∷ []) ∷ []
into_first c (piece ∷ pieces) = (c ∷ piece) ∷ pieces

-- the pieces between semicolons outside literals, where the quote of an open literal is given
abbrev pub split : Option ℕ → List Column → List (List Column)
split quote [] = [] ∷ []
split None (c ∷ cs) =
    if c.byte == 59 then [] ∷ split None cs
    else (if c.byte == 39 || c.byte == 34 then into_first c (split (Some c.byte) cs) else into_first c (split None cs))
split (Some quote) (c ∷ cs) = if c.byte == quote then into_first c (split None cs) else into_first c (split (Some quote) cs)

abbrev pub pieces_of_texts : List (List Column) → List (List Column)
pieces_of_texts [] = []
pieces_of_texts (text ∷ texts) = split None text ++ pieces_of_texts texts

unfoldable pub pieces_of : List Card → List (List Column)
pieces_of cards = pieces_of_texts (texts cards)

-- ---- the end of the deck

-- END, and then a blank or the end of the piece
abbrev pub is_end : List Column → Bool
is_end piece = is_word_first (codes "END") (column_bytes piece)

abbrev pub has_end : List (List Column) → Bool
has_end [] = false
has_end (piece ∷ pieces) = is_end piece || has_end pieces

-- all beginnings of the cards, the shortest first
abbrev pub beginnings : List Card → List (List Card)
beginnings [] = [] ∷ []
beginnings (card ∷ cards) = [] ∷ map (λ b. card ∷ b) (beginnings cards)

abbrev pub first_ended : List (List Card) → Option (List Card)
first_ended [] = None
first_ended (some ∷ more) = if has_end (pieces_of some) then Some some else first_ended more

-- the cards up to and with the first at whose end a piece is END
unfoldable pub ended : List Card → Option (List Card)
ended cards = first_ended (beginnings cards)

-- ---- statements

abbrev pub before_kept : List Column → List (List Column) → List (List Column)
before_kept piece more = if is_blank_text (column_bytes piece) then more else piece ∷ more

-- the pieces that aren't blank, up to and with the first END
abbrev pub kept : List (List Column) → List (List Column)
kept [] = []
kept (piece ∷ pieces) = if is_end piece then piece ∷ [] else before_kept piece (kept pieces)

-- the card of a piece's first byte
abbrev pub first_card : List Column → ℕ
first_card [] = 0
first_card (c ∷ cs) = c.card

abbrev pub statements_from : ℕ → List (List Column) → List Statement
statements_from n [] = []
statements_from n (piece ∷ pieces) = record { number = n; card = first_card piece; text = column_bytes piece } ∷ statements_from (n + 1) pieces

abbrev pub statements_of : List Card → List Statement
statements_of cards = statements_from 1 (kept (pieces_of cards))

-- ---- faults

abbrev pub fault : ℕ → CardRule → CardFault
fault n r = record { card = n; rule = r }

-- bytes 32 to 126
abbrev pub is_plain : ℕ → Bool
is_plain b = nat_le 32 b && nat_le b 126

-- C1: each card with a byte that is neither 32 to 126 nor a line feed, columns past 72 among them
abbrev pub bad_bytes : List Card → List CardFault
bad_bytes [] = []
bad_bytes (card ∷ cards) = if list_all is_plain card.line then bad_bytes cards else fault card.number rule.BadByte ∷ bad_bytes cards

abbrev pub before_lost : CardKind → ℕ → List CardFault → List CardFault
before_lost (Continuation text) n more = fault n rule.NothingToContinue ∷ more
before_lost (Start text) n more = []
before_lost _ n more = more

-- C2: each continuation before any text
abbrev pub lost_continuations : List Card → List CardFault
lost_continuations [] = []
lost_continuations (card ∷ cards) = before_lost (kind_of card) card.number (lost_continuations cards)

abbrev pub before_unknown : CardKind → ℕ → List CardFault → List CardFault
before_unknown UnknownControl n more = fault n rule.UnknownControl ∷ more
before_unknown _ n more = more

-- C3: each unknown control card
abbrev pub unknown_controls : List Card → List CardFault
unknown_controls [] = []
unknown_controls (card ∷ cards) = before_unknown (kind_of card) card.number (unknown_controls cards)

-- C6: each statement over 4,000 bytes, at the card of its first byte
abbrev pub long_statements : List (List Column) → List CardFault
long_statements [] = []
long_statements (piece ∷ pieces) =
    if nat_lt 4000 (length piece) then fault (first_card piece) rule.StatementTooLong ∷ long_statements pieces else long_statements pieces

unfoldable pub faults_of : List Card → List CardFault
faults_of cards = bad_bytes cards ++ (lost_continuations cards ++ (unknown_controls cards ++ long_statements (kept (pieces_of cards))))

abbrev pub rank : CardRule → ℕ
rank rule.BadByte = 1
rank rule.NothingToContinue = 2
rank rule.UnknownControl = 3
rank rule.NoEnd = 4
rank rule.DeckTooLong = 5
rank rule.StatementTooLong = 6
rank rule.Memory = 7

-- by card, then by the number of the rule
abbrev pub is_less : CardFault → CardFault → Bool
is_less a b = nat_lt a.card b.card || ((a.card == b.card) && nat_lt (rank a.rule) (rank b.rule))

abbrev pub lesser : CardFault → Option CardFault → CardFault
lesser a None = a
lesser a (Some b) = if is_less b a then b else a

abbrev pub least : List CardFault → Option CardFault
least [] = None
least (a ∷ more) = Some (lesser a (least more))

-- ---- the deck

abbrev pub cards_verdict : List Card → Option CardFault → Result (List Statement) CardFault
cards_verdict cards None = Ok (statements_of cards)
cards_verdict cards (Some f) = Err f

-- C4: no END, at the number of cards plus 1
abbrev pub deck_of : List Card → Option (List Card) → Result (List Statement) CardFault
deck_of cards (Some used) = cards_verdict used (least (faults_of used))
deck_of cards None = cards_verdict cards (least (faults_of cards ++ fault (length cards + 1) rule.NoEnd ∷ []))

-- C5: a deck over 16,777,216 bytes is reported at card 0 before all others
unfoldable pub deck : List ℕ → Result (List Statement) CardFault
deck text = if nat_lt 16777216 (length text) then Err (fault 0 rule.DeckTooLong) else deck_of (cards text) (ended (cards text))

abbrev pub cards_of : Result (List Statement) CardFault → List ℕ
cards_of (Ok statements) = map (λ s. s.card) statements
cards_of (Err f) = []

-- the card where each statement of a deck begins
abbrev pub first_cards : List ℕ → List ℕ
first_cards text = cards_of (deck text)
