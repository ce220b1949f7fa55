-- What the reader holds of the cards so far.
use Rattle.std.specs.Prelude.{◌≡◌, ◌<◌, ◌+◌, ℕ, ◌∷◌, ◌++◌, ◌&&◌, Bool, true, false, not, nat_lt, List, [], length, take, drop, Option, Some, None, is_some, Result, Ok, Err, if◌then◌else◌}
use Rattle.std.specs.List.{list_all}
use Rattle.std.specs.declared.alloc.AllocError.{AllocError}
use Rattle.model.specs.declared.cards.Statement.{Statement}
use Rattle.model.specs.declared.cards.CardFault.{CardFault}
use Rattle.model.specs.declared.cards.CardRule.{CardRule}
use Rattle.model.specs.declared.cards.CardRule.TheVariants as rule
use Rattle.model.specs.Deck.Cards.{CardKind, Comment, Control, UnknownControl, Continuation, Start, Column, placed, column_bytes, split, is_end, has_end, kept, first_card, statements_from, is_blank_text, long_statements, least, lesser, fault, is_plain}
use Rattle.card_reader.specs.declared.kinds.Kind as declared
use Rattle.card_reader.specs.declared.kinds.Kind.TheVariants as k
use Rattle.card_reader.specs.declared.reader.Reader.{Reader}
use Rattle.card_reader.specs.declared.reader.Stop.{Stop}
use Rattle.card_reader.specs.declared.reader.Stop.TheVariants as s
use Rattle.card_reader.specs.Parts.{after, Parts, parts, parts_of, all_pieces}

abbrev pub kind_of : declared.Kind → CardKind
kind_of k.Comment = Comment
kind_of k.Control = Control
kind_of k.UnknownControl = UnknownControl
kind_of (k.Continuation text) = Continuation text.now
kind_of (k.Start text) = Start text.now

-- ---- faults

-- the lesser of two, where there are two
abbrev pub merge : Option CardFault → Option CardFault → Option CardFault
merge None b = b
merge (Some a) b = Some (lesser a b)

abbrev pub when : Bool → ℕ → CardRule → Option CardFault
when true n r = Some (fault n r)
when false n r = None

abbrev pub is_continuation : CardKind → Bool
is_continuation (Continuation text) = true
is_continuation _ = false

abbrev pub is_unknown : CardKind → Bool
is_unknown UnknownControl = true
is_unknown _ = false

abbrev pub bad_byte : ℕ → List ℕ → Option CardFault
bad_byte n line = when (not (list_all is_plain line)) n rule.BadByte

-- what C2 and C3 say of a card, where a text began before or none did
abbrev pub kind_fault : Bool → CardKind → ℕ → Option CardFault
kind_fault begun kind n = merge (when (is_continuation kind && not begun) n rule.NothingToContinue) (when (is_unknown kind) n rule.UnknownControl)

abbrev pub card_fault : Bool → CardKind → ℕ → List ℕ → Option CardFault
card_fault begun kind n line = merge (bad_byte n line) (kind_fault begun kind n)

-- ---- what is held

-- the reader holds these parts, no whole one of which is END; the fault is the least of an earlier one and of C6
pub record Holds (r : Reader) (p : Parts) (earlier : Option CardFault) : Type 0 where
  pub no_end : has_end p.whole ≡ false
  pub statements : r.statements ≡ statements_from 1 (kept p.whole)
  pub piece : r.piece ≡ column_bytes p.last
  pub card : 0 < length p.last → r.piece_card ≡ first_card p.last
  pub quote : r.quote ≡ p.quote
  pub fault : r.fault ≡ merge earlier (least (long_statements (kept p.whole)))

-- the reader holds the statements of pieces of which one is END
pub record Ends (r : Reader) (pieces : List (List Column)) (earlier : Option CardFault) : Type 0 where
  pub ends : has_end pieces ≡ true
  pub statements : r.statements ≡ statements_from 1 (kept pieces)
  pub fault : r.fault ≡ merge earlier (least (long_statements (kept pieces)))

-- the parts after a call that says whether a piece was END
abbrev pub IsRead : Result Bool AllocError → Reader → Parts → Option CardFault → Type 0
IsRead (Ok false) r p earlier = Holds r p earlier × (is_end p.last ≡ false)
IsRead (Ok true) r p earlier = Ends r (all_pieces p) earlier
IsRead (Err e) r p earlier = Unit {0}

-- a piece has ended that may be END, whatever follows it
abbrev pub IsPieceEnd : Result Bool AllocError → Reader → List (List Column) → List Column → Option CardFault → Type 0
IsPieceEnd (Ok false) r whole piece earlier = Holds r (parts (whole ++ piece ∷ []) [] None) earlier
IsPieceEnd (Ok true) r whole piece earlier = (more : List (List Column)) → Ends r (whole ++ piece ∷ more) earlier
IsPieceEnd (Err e) r whole piece earlier = Unit {0}

-- the reader holds the parts of the cards so far, if a text has begun, and no piece is END
pub record Waits (r : Reader) (o : Option Parts) (earlier : Option CardFault) : Type 0 where
  pub begun : r.begun ≡ is_some o
  pub holds : Holds r (parts_of o) earlier
  pub no_end : is_end (parts_of o).last ≡ false

-- all pieces, if nothing follows
abbrev pub pieces_now : Option Parts → List (List Column)
pieces_now None = []
pieces_now (Some p) = all_pieces p

abbrev pub IsCardRead : Result Bool AllocError → Reader → Option Parts → Option CardFault → Type 0
IsCardRead (Ok false) r o earlier = Waits r o earlier
IsCardRead (Ok true) r o earlier = Ends r (pieces_now o) earlier
IsCardRead (Err e) r o earlier = Unit {0}

-- how many columns a card gives
abbrev pub text_length : CardKind → ℕ
text_length (Continuation text) = length text
text_length (Start text) = length text
text_length _ = 0

-- what no piece's bytes change
pub record Others (old new : Reader) : Type 0 where
  pub statements : new.statements ≡ old.statements
  pub quote : new.quote ≡ old.quote
  pub begun : new.begun ≡ old.begun
  pub fault : new.fault ≡ old.fault

-- the statement that a piece is, if it isn't blank
abbrev pub statement_of : ℕ → ℕ → List ℕ → List Statement
statement_of n card text = if is_blank_text text then [] else record { number = n; card = card; text = text } ∷ []

abbrev pub too_long : ℕ → List ℕ → Option CardFault
too_long card text = if is_blank_text text then None else when (nat_lt 4000 (length text)) card rule.StatementTooLong

-- the piece has ended
pub record IsClosed (old new : Reader) : Type 0 where
  pub piece : new.piece ≡ []
  pub quote : new.quote ≡ old.quote
  pub begun : new.begun ≡ old.begun
  pub statements : new.statements ≡ old.statements ++ statement_of (length old.statements + 1) old.piece_card old.piece
  pub fault : new.fault ≡ merge old.fault (too_long old.piece_card old.piece)

-- where the next piece of these bytes ends, from an open quote or none
abbrev pub IsStop : Option ℕ → List ℕ → Stop → Type 0
IsStop quote text (s.Semicolon i) = (i < length text)
    × ((n : ℕ) → split quote (placed n text) ≡ placed n (take i text) ∷ split None (placed n (drop (i + 1) text)))
    × ((n : ℕ) → after quote (placed n text) ≡ after None (placed n (drop (i + 1) text)))
IsStop quote text (s.End q) = ((n : ℕ) → split quote (placed n text) ≡ placed n text ∷ []) × ((n : ℕ) → after quote (placed n text) ≡ q)
