-- The name that a text begins with.
use Rattle.std.proofs.Common.{◌≡◌, ◌∙◌, sym, ap, ℕ, List, [], ◌∷◌}
use Rattle.std.specs.Prelude.{Some, None}
use Rattle.model.specs.declared.tokens.TokenKind.TheVariants as kind
use Rattle.model.specs.Deck.Pieces.{FirstPiece, first_piece, pieces}
use Rattle.model.proofs.Decks.Cutting.{pieces_step}
use Rattle.lexer.specs.declared.scan.Scanned.{Scanned}
use Rattle.lexer.specs.declared.scan.Scanned.TheVariants as s
use Rattle.lexer.specs.Lexed.{name_in_front}
use Rattle.lexer.specs.Scans.{IsScanned, found_by, fits, name_found}
use Rattle.lexer.proofs.Lexing.{no_piece}

pub fits_is : (xs : List ℕ) (p : Scanned) → IsScanned xs (Some p) → fits xs p
fits_is [] p h = absurd h
fits_is (b ∷ bs) p h = h.1

pub none_named : (xs : List ℕ) → IsScanned xs None → None ≡ name_in_front (pieces xs)
none_named xs h = ap name_in_front (sym (no_piece xs h))

by_piece : (b : ℕ) (bs : List ℕ) (f : FirstPiece) → f ≡ first_piece b bs → name_in_front (f.piece ∷ pieces f.rest) ≡ name_in_front (pieces (b ∷ bs))
by_piece b bs f e = ap (λ (f : FirstPiece). name_in_front (f.piece ∷ pieces f.rest)) e ∙ ap name_in_front (sym (pieces_step b bs))

pub name_is : (xs : List ℕ) (p : Scanned) → IsScanned xs (Some p) → name_found xs p ≡ name_in_front (pieces xs)
name_is [] p h = absurd h
name_is (b ∷ bs) (s.Token kind.Name n) h = by_piece b bs (found_by (b ∷ bs) (s.Token kind.Name n)) h.0
name_is (b ∷ bs) (s.Token kind.Blank n) h = by_piece b bs (found_by (b ∷ bs) (s.Token kind.Blank n)) h.0
name_is (b ∷ bs) (s.Token kind.Integer n) h = by_piece b bs (found_by (b ∷ bs) (s.Token kind.Integer n)) h.0
name_is (b ∷ bs) (s.Token kind.Literal n) h = by_piece b bs (found_by (b ∷ bs) (s.Token kind.Literal n)) h.0
name_is (b ∷ bs) (s.Token (kind.Mark m) n) h = by_piece b bs (found_by (b ∷ bs) (s.Token (kind.Mark m) n)) h.0
name_is (b ∷ bs) s.Stray h = by_piece b bs (found_by (b ∷ bs) s.Stray) h.0
name_is (b ∷ bs) s.Unclosed h = by_piece b bs (found_by (b ∷ bs) s.Unclosed) h.0
