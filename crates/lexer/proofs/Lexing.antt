-- The loop of the scan, piece by piece.
use Rattle.std.proofs.Common.{◌≡◌, refl, sym, ap, ◌∙◌, subst, ℕ, ◌+◌, ◌-◌, ◌<◌, ◌≤◌, ◌||◌, Bool, true, false, List, [], ◌∷◌, ◌++◌, length, take, drop, arith, append_assoc}
use Rattle.std.specs.Prelude.{Option, Some, None, slice_range, nat_lt, ◌&&◌, if◌then◌else◌}
use Rattle.std.proofs.lemmas.Bool.Decides.{nat_tests}
use Rattle.std.proofs.lemmas.List.{take_all, length-drop, drop-drop, map-append}
use Rattle.model.specs.declared.causes.Cause.{Cause}
use Rattle.model.specs.declared.causes.Cause.TheVariants as cause
use Rattle.model.specs.declared.tokens.Mark.{Mark}
use Rattle.model.specs.declared.tokens.Mark.TheVariants as mark
use Rattle.model.specs.declared.tokens.Token.{Token}
use Rattle.model.specs.declared.tokens.TokenKind.{TokenKind}
use Rattle.model.specs.declared.tokens.TokenKind.TheVariants as kind
use Rattle.model.specs.Deck.Cut as cut
use Rattle.model.specs.Deck.Cut.{Piece, has, is_stray, is_unclosed, is_too_large, opens_too_many, rows_too_many, least_lexical}
use Rattle.model.specs.Deck.Pieces.{pieces, pieces_from}
use Rattle.model.proofs.Decks.Cutting.{pieces_step}
use Rattle.lexer.specs.declared.limits.Limits.{Limits}
use Rattle.lexer.specs.declared.scan.Scanned.TheVariants as s
use Rattle.lexer.specs.Lexed.{piece_of, pieces_of, Spans}
use Rattle.lexer.specs.Limits.{none, after, closes, closes_by, told}
use Rattle.lexer.specs.Scans.{IsScanned}

-- ---- one piece

pub no_piece : (xs : List ℕ) → IsScanned xs None → pieces xs ≡ []
unfolding pieces pieces_from
no_piece [] h = refl
no_piece (b ∷ bs) h = absurd h

pub token_piece : (xs : List ℕ) (k : TokenKind) (n : ℕ) → IsScanned xs (Some (s.Token k n)) → pieces xs ≡ cut.Token k (take n xs) ∷ pieces (drop n xs)
token_piece [] k n h = absurd h
token_piece (b ∷ bs) k n h = pieces_step b bs ∙ ap (λ f. f.piece ∷ pieces f.rest) (sym h.0)

pub token_fits : (xs : List ℕ) (k : TokenKind) (n : ℕ) → IsScanned xs (Some (s.Token k n)) → (0 < n) × (n ≤ length xs)
token_fits [] k n h = absurd h
token_fits (b ∷ bs) k n h = h.1

pub stray_piece : (xs : List ℕ) → IsScanned xs (Some s.Stray) → has is_stray (pieces xs) ≡ true
stray_piece [] h = absurd h
stray_piece (b ∷ bs) h = ap (has is_stray) (pieces_step b bs ∙ ap (λ f. f.piece ∷ pieces f.rest) (sym h.0))

pub unclosed_piece : (xs : List ℕ) → IsScanned xs (Some s.Unclosed) → pieces xs ≡ cut.Unclosed xs ∷ []
unfolding pieces pieces_from
unclosed_piece [] h = absurd h
unclosed_piece (b ∷ bs) h = pieces_step b bs ∙ ap (λ f. f.piece ∷ pieces f.rest) (sym h.0)

-- ---- the tokens before

pub has_tokens : (p : Piece → Bool) (ts : List Token) (ps : List Piece) → ((t : Token) → p (piece_of t) ≡ false) → has p (pieces_of ts ++ ps) ≡ has p ps
has_tokens p [] ps none_of = refl
has_tokens p (t ∷ ts) ps none_of = rw (none_of t) (has_tokens p ts ps none_of)

no_tokens : (p : Piece → Bool) (ts : List Token) → ((t : Token) → p (piece_of t) ≡ false) → has p (pieces_of ts) ≡ false
no_tokens p [] none_of = refl
no_tokens p (t ∷ ts) none_of = rw (none_of t) (no_tokens p ts none_of)

pub stray_found : (ts : List Token) (ps : List Piece) → has is_stray ps ≡ true → least_lexical (pieces_of ts ++ ps) ≡ Some cause.StrayByte
unfolding least_lexical
stray_found ts ps h = rw (has_tokens is_stray ts ps (λ t. refl), h) refl

pub unclosed_found : (ts : List Token) (text : List ℕ) → least_lexical (pieces_of ts ++ cut.Unclosed text ∷ []) ≡ Some cause.UnclosedLiteral
unfolding least_lexical
unclosed_found ts text = rw (has_tokens is_stray ts (cut.Unclosed text ∷ []) (λ t. refl), has_tokens is_unclosed ts (cut.Unclosed text ∷ []) (λ t. refl)) refl

or_or : (a b c : Bool) → (a || (b || c)) ≡ ((b || a) || c)
or_or true true c = refl
or_or true false c = refl
or_or false true c = refl
or_or false false c = refl

-- what is over a bound is told once it is over a lesser number
or_less : (a b c : Bool) → (a ≡ true → b ≡ true) → (a || (b || c)) ≡ (b || c)
or_less true true c h = refl
or_less true false c h = let no : false ≡ true = h refl in cc
or_less false b c h = refl

less_over : (n m : ℕ) → n ≤ m → nat_lt 64 n ≡ true → nat_lt 64 m ≡ true
less_over n m le h = grind (arith, nat_tests)

no_fewer : (n : ℕ) (m : Mark) → closes_by m ≡ false → n ≤ cut.open_after_mark n m
no_fewer n mark.Open h = omega arith
no_fewer n mark.Less h = omega arith
no_fewer n mark.Close h = absurd (cc)
no_fewer n mark.Greater h = absurd (cc)
no_fewer n _ h = omega arith

keeps_open : (n : ℕ) (p : Piece) → closes p ≡ false → n ≤ cut.open_after n p
keeps_open n (cut.Token (kind.Mark m) text) h = no_fewer n m h
keeps_open n _ h = omega arith

-- brackets that are open, with those of one more piece
opened : (l : Limits) (p : Piece) (more : Bool) (b : Bool) → closes p ≡ b
    → (l.deep || (nat_lt 64 l.open_brackets || (nat_lt 64 (cut.open_after l.open_brackets p) || more)))
    ≡ (((b && nat_lt 64 l.open_brackets) || l.deep) || (nat_lt 64 (cut.open_after l.open_brackets p) || more))
opened l p more true h = or_or l.deep (nat_lt 64 l.open_brackets) (nat_lt 64 (cut.open_after l.open_brackets p) || more)
opened l p more false h =
    ap (λ x. l.deep || x) (or_less (nat_lt 64 l.open_brackets) (nat_lt 64 (cut.open_after l.open_brackets p)) more (less_over l.open_brackets (cut.open_after l.open_brackets p) (keeps_open l.open_brackets p h)))

-- a piece counts before those that follow
pub told_step : (l : Limits) (p : Piece) (ps : List Piece) → told l (p ∷ ps) ≡ told (after l p) ps
unfolding told after
told_step l p ps = rw (
  or_or l.large (is_too_large p) (has is_too_large ps),
  opened l p (opens_too_many (cut.open_after l.open_brackets p) ps) (closes p) refl,
  or_or l.long (nat_lt 16 (cut.row_after l.row p)) (rows_too_many (cut.row_after l.row p) ps),
) refl

pub told_tokens : (ts : List Token) → least_lexical (pieces_of ts) ≡ told none (pieces_of ts)
unfolding least_lexical told
told_tokens ts = rw (no_tokens is_stray ts (λ t. refl), no_tokens is_unclosed ts (λ t. refl)) refl

-- ---- the spans so far

pub spans_more : (n m : ℕ) (text : List ℕ) (ts : List Token) (t : Token) → Spans n m text ts → t.start ≡ m → m < t.end → t.text.now ≡ slice_range text m t.end → Spans n t.end text (ts ++ t ∷ [])
spans_more n m text [] t h at lt is = (at ∙ sym h, subst (λ k. k < t.end) (sym h) lt, subst (λ k. t.text.now ≡ slice_range text k t.end) (sym h) is, refl)
spans_more n m text (u ∷ ts) t h at lt is = (h.0, h.1, h.2, spans_more u.end m text ts t h.3 at lt is)

-- ---- the counts so far

open_most : (n : ℕ) (m : Mark) → cut.open_after_mark n m ≤ n + 1
open_most n mark.Open = omega arith
open_most n mark.Less = omega arith
open_most n mark.Close = omega arith
open_most n mark.Greater = omega arith
open_most n _ = omega arith

row_most : (b : Bool) (n : ℕ) → (if b then n + 1 else 0) ≤ n + 1
row_most true n = omega arith
row_most false n = omega arith

pub after_open : (l : Limits) (k : TokenKind) (text : List ℕ) → (after l (cut.Token k text)).open_brackets ≤ l.open_brackets + 1
unfolding after
after_open l (kind.Mark m) text = open_most l.open_brackets m
after_open l _ text = omega arith

pub after_row : (l : Limits) (k : TokenKind) (text : List ℕ) → (after l (cut.Token k text)).row ≤ l.row + 1
unfolding after
after_row l (kind.Mark m) text = row_most (cut.may_be_unary m) l.row
after_row l _ text = omega arith

-- ---- one turn

pub rest_is : (xs : List ℕ) (n : ℕ) → take (length xs - n) (drop n xs) ≡ drop n xs
rest_is xs n = take_all (length xs - n) (drop n xs) (omega (arith, length-drop n xs))

-- the pieces from here on begin with this token
pub token_from : (text : List ℕ) (start : ℕ) (k : TokenKind) (n : ℕ) → IsScanned (take (length text - start) (drop start text)) (Some (s.Token k n))
    → pieces (drop start text) ≡ cut.Token k (slice_range text start (start + n)) ∷ pieces (drop (start + n) text)
token_from text start k n h =
    let width : start + n - start ≡ n = omega arith in
    let later : drop n (drop start text) ≡ drop (start + n) text = drop-drop n start text in
    token_piece (drop start text) k n (subst (λ xs. IsScanned xs (Some (s.Token k n))) (rest_is text start) h)
    ∙ rw (width, later) refl

pub fits_from : (text : List ℕ) (start : ℕ) (k : TokenKind) (n : ℕ) → start ≤ length text → IsScanned (take (length text - start) (drop start text)) (Some (s.Token k n))
    → (0 < n) × (start + n ≤ length text)
fits_from text start k n le h =
    let fit = token_fits (drop start text) k n (subst (λ xs. IsScanned xs (Some (s.Token k n))) (rest_is text start) h) in
    (fit.0, omega (arith, fit.1, length-drop start text))

pub cut_more : (text : List ℕ) (ts : List Token) (t : Token) (rest more : List Piece) → pieces_of ts ++ rest ≡ pieces text → rest ≡ piece_of t ∷ more → pieces_of (ts ++ t ∷ []) ++ more ≡ pieces text
cut_more text ts t rest more h e =
    let joined : pieces_of (ts ++ t ∷ []) ≡ pieces_of ts ++ piece_of t ∷ [] = map-append piece_of ts (t ∷ []) in
    ap (λ ps. ps ++ more) joined ∙ append_assoc (pieces_of ts) (piece_of t ∷ []) more ∙ ap (λ ps. pieces_of ts ++ ps) (sym e) ∙ h

pub told_more : (l m : Limits) (p : Piece) (rest more : List Piece) (all : Option Cause) → told l rest ≡ all → rest ≡ p ∷ more → m ≡ after l p → told m more ≡ all
told_more l m p rest more all h e is = ap (λ x. told x more) is ∙ sym (told_step l p more) ∙ ap (told l) (sym e) ∙ h

no_text : (xs : List ℕ) → IsScanned xs None → xs ≡ []
no_text [] h = refl
no_text (b ∷ bs) h = absurd h

pub all_read : (text : List ℕ) (start : ℕ) → start ≤ length text → IsScanned (take (length text - start) (drop start text)) None → start ≡ length text
all_read text start le h = omega (arith, ap length (no_text (take (length text - start) (drop start text)) h), ap length (rest_is text start), length-drop start text)
