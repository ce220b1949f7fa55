-- Statements and faults of pieces, one piece more at a time.
use Rattle.std.proofs.Common.{◌≡◌, refl, sym, ◌∙◌, ap, ℕ, suc, ◌+◌, ◌<◌, ◌==◌, ◌||◌, inl, inr, Bool, true, false, List, [], ◌∷◌, ◌++◌, length, arith}
use Rattle.std.specs.Prelude.{Option, Some, None, Ok, if◌then◌else◌, nat_lt, codes}
use Rattle.std.proofs.lemmas.Bool.{cases_Bool}
use Rattle.std.proofs.lemmas.Bool.Decides.{nat_tests}
use Rattle.std.proofs.lemmas.List.{map-append}
use Rattle.model.specs.declared.cards.CardFault.{CardFault}
use Rattle.model.specs.declared.cards.CardRule.TheVariants as rule
use Rattle.model.specs.Deck.Cards.{Column, placed, column_bytes, is_end, has_end, kept, first_card, is_blank_text, is_word_first, statements_from, long_statements, least, fault}
use Rattle.model.proofs.Decks.Sizes.{length-bytes, statements_count}
use Rattle.card_reader.specs.declared.reader.Reader.{Reader}
use Rattle.card_reader.specs.Parts.{Parts, parts, parts_of}
use Rattle.card_reader.specs.Reading.{merge, when, Holds, Ends, Others, IsClosed, IsPieceEnd, IsRead, Waits, statement_of, too_long}
use Rattle.card_reader.proofs.Merging.{merge_swap, merge_shift, least_append}

-- ---- pieces

pub has_end_append : (xs ys : List (List Column)) → has_end (xs ++ ys) ≡ (has_end xs || has_end ys)
has_end_append [] ys = refl
has_end_append (x ∷ xs) ys = elim (cases_Bool (is_end x)) [ inl h ↦ rw h refl | inr h ↦ rw h (has_end_append xs ys) ]

-- without an END before, what follows is kept as if it were alone
pub kept_append : (xs ys : List (List Column)) → has_end xs ≡ false → kept (xs ++ ys) ≡ kept xs ++ kept ys
kept_append [] ys h = refl
kept_append (x ∷ xs) ys h = elim (cases_Bool (is_end x)) [
  | inl e ↦ absurd (let g : true ≡ false = rw e at h in cc)
  | inr e ↦ (let rest : has_end xs ≡ false = rw e at h in
      rw e (elim (cases_Bool (is_blank_text (column_bytes x))) [ inl b ↦ rw b (kept_append xs ys rest) | inr b ↦ rw b (ap (λ t. x ∷ t) (kept_append xs ys rest)) ]))
]

pub kept_end : (x : List Column) (ys : List (List Column)) → is_end x ≡ true → kept (x ∷ ys) ≡ x ∷ []
kept_end x ys e = rw e refl

pub kept_one : (x : List Column) → is_end x ≡ false → kept (x ∷ []) ≡ (if is_blank_text (column_bytes x) then [] else x ∷ [])
kept_one x e = rw e refl

-- END is no blank text
end_shows : (text : List ℕ) → is_word_first (codes "END") text ≡ true → is_blank_text text ≡ false
end_shows [] h = absurd (cc)
end_shows (b ∷ bs) h = elim (cases_Bool (69 == b)) [
  | inl e ↦ (let same : b ≡ 69 = grind (arith, nat_tests) in rw same refl)
  | inr e ↦ absurd (let g : false ≡ true = rw e at h in cc)
]

statements_append : (n : ℕ) (xs ys : List (List Column)) → statements_from n (xs ++ ys) ≡ statements_from n xs ++ statements_from (n + length xs) ys
statements_append n [] ys = let e : n + 0 ≡ n = omega arith in rw e refl
statements_append n (x ∷ xs) ys =
    let e : (n + 1) + length xs ≡ n + suc (length xs) = omega arith in
    ap (λ t. record { number = n; card = first_card x; text = column_bytes x } ∷ t) (statements_append (n + 1) xs ys ∙ ap (λ m. statements_from (n + 1) xs ++ statements_from m ys) e)

long_append : (xs ys : List (List Column)) → long_statements (xs ++ ys) ≡ long_statements xs ++ long_statements ys
long_append [] ys = refl
long_append (x ∷ xs) ys = elim (cases_Bool (nat_lt 4000 (length x))) [ inl h ↦ rw h (ap (λ t. fault (first_card x) rule.StatementTooLong ∷ t) (long_append xs ys)) | inr h ↦ rw h (long_append xs ys) ]

-- ---- a piece that ends

-- what a piece gives that isn't followed by others in the list
abbrev given : List Column → List (List Column)
given x = if is_blank_text (column_bytes x) then [] else x ∷ []

no_bytes : (x : List Column) → is_blank_text (column_bytes x) ≡ false → 0 < length x
no_bytes [] h = absurd (cc)
no_bytes (c ∷ cs) h = omega arith

given_statements : (n card : ℕ) (x : List Column) → (0 < length x → card ≡ first_card x) → statements_from n (given x) ≡ statement_of n card (column_bytes x)
given_statements n card x first = elim (cases_Bool (is_blank_text (column_bytes x))) [
  | inl b ↦ rw b refl
  | inr b ↦ rw b (ap (λ (m : ℕ). record { number = n; card = m; text = column_bytes x } ∷ []) (sym (first (no_bytes x b))))
]

one_long : (card : ℕ) (x : List Column) → card ≡ first_card x → least (long_statements (x ∷ [])) ≡ when (nat_lt 4000 (length (column_bytes x))) card rule.StatementTooLong
one_long card x first = elim (cases_Bool (nat_lt 4000 (length x))) [
  | inl h ↦ rw (length-bytes x, h) (ap (λ m. Some (fault m rule.StatementTooLong)) (sym first))
  | inr h ↦ rw (length-bytes x, h) refl
]

given_long : (card : ℕ) (x : List Column) → (0 < length x → card ≡ first_card x) → least (long_statements (given x)) ≡ too_long card (column_bytes x)
given_long card x first = elim (cases_Bool (is_blank_text (column_bytes x))) [
  | inl b ↦ rw b refl
  | inr b ↦ rw b (one_long card x (first (no_bytes x b)))
]

-- the statements and the fault, once the last piece has ended as this kept list says
closed_statements : (r after : Reader) (p : Parts) (e : Option CardFault) (ps : List (List Column)) → Holds r p e → IsClosed r after → kept ps ≡ kept p.whole ++ given p.last → after.statements ≡ statements_from 1 (kept ps)
closed_statements r after p e ps h c k =
    let count : length r.statements + 1 ≡ 1 + length (kept p.whole) = omega (arith, ap length h.statements, statements_count 1 (kept p.whole)) in
    c.statements
    ∙ ap (λ (t : List ℕ). r.statements ++ statement_of (length r.statements + 1) r.piece_card t) h.piece
    ∙ ap (λ m. r.statements ++ statement_of m r.piece_card (column_bytes p.last)) count
    ∙ ap (λ t. r.statements ++ t) (sym (given_statements (1 + length (kept p.whole)) r.piece_card p.last h.card))
    ∙ ap (λ t. t ++ statements_from (1 + length (kept p.whole)) (given p.last)) h.statements
    ∙ sym (statements_append 1 (kept p.whole) (given p.last))
    ∙ ap (statements_from 1) (sym k)

closed_fault : (r after : Reader) (p : Parts) (e : Option CardFault) (ps : List (List Column)) → Holds r p e → IsClosed r after → kept ps ≡ kept p.whole ++ given p.last → after.fault ≡ merge e (least (long_statements (kept ps)))
closed_fault r after p e ps h c k =
    c.fault
    ∙ ap (λ t. merge r.fault (too_long r.piece_card t)) h.piece
    ∙ ap (merge r.fault) (sym (given_long r.piece_card p.last h.card))
    ∙ ap (λ f. merge f (least (long_statements (given p.last)))) h.fault
    ∙ merge_shift e (least (long_statements (kept p.whole))) (least (long_statements (given p.last)))
    ∙ ap (merge e) (sym (least_append (long_statements (kept p.whole)) (long_statements (given p.last))))
    ∙ ap (λ t. merge e (least t)) (sym (long_append (kept p.whole) (given p.last)))
    ∙ ap (λ t. merge e (least (long_statements t))) (sym k)

-- a reader that holds the same, but for the quote
pub record IsSame (r after : Reader) : Type 0 where
  pub statements : after.statements ≡ r.statements
  pub piece : after.piece ≡ r.piece
  pub card : after.piece_card ≡ r.piece_card
  pub fault : after.fault ≡ r.fault

pub requoted : (r after : Reader) (p : Parts) (e : Option CardFault) (q : Option ℕ) → Holds r p e → IsSame r after → after.quote ≡ q → Holds after (parts p.whole p.last q) e
requoted r after p e q h s k = record {
  no_end = h.no_end;
  statements = s.statements ∙ h.statements;
  piece = s.piece ∙ h.piece;
  card = λ some. s.card ∙ h.card some;
  quote = k;
  fault = s.fault ∙ h.fault;
}

-- a piece that isn't END
pub closes : (r after : Reader) (p : Parts) (e : Option CardFault) → Holds r p e → IsClosed r after → is_end p.last ≡ false → Holds after (parts (p.whole ++ p.last ∷ []) [] p.quote) e
closes r after p e h c goes =
    let k : kept (p.whole ++ p.last ∷ []) ≡ kept p.whole ++ given p.last = kept_append p.whole (p.last ∷ []) h.no_end ∙ ap (λ t. kept p.whole ++ t) (kept_one p.last goes) in
    let none : has_end (p.whole ++ p.last ∷ []) ≡ false = has_end_append p.whole (p.last ∷ []) ∙ rw (h.no_end, goes) refl in
    record {
      no_end = none;
      statements = closed_statements r after p e (p.whole ++ p.last ∷ []) h c k;
      piece = c.piece;
      card = λ some. absurd (omega arith);
      quote = c.quote ∙ h.quote;
      fault = closed_fault r after p e (p.whole ++ p.last ∷ []) h c k;
    }

-- END, whatever follows it
pub closes_end : (r after : Reader) (p : Parts) (e : Option CardFault) (more : List (List Column)) → Holds r p e → IsClosed r after → is_end p.last ≡ true → Ends after (p.whole ++ p.last ∷ more) e
closes_end r after p e more h c stops =
    let shows : is_blank_text (column_bytes p.last) ≡ false = end_shows (column_bytes p.last) stops in
    let alone : p.last ∷ [] ≡ given p.last = rw shows refl in
    let k : kept (p.whole ++ p.last ∷ more) ≡ kept p.whole ++ given p.last = kept_append p.whole (p.last ∷ more) h.no_end ∙ ap (λ t. kept p.whole ++ t) (kept_end p.last more stops ∙ alone) in
    record {
      ends = has_end_append p.whole (p.last ∷ more) ∙ rw (h.no_end, stops) refl;
      statements = closed_statements r after p e (p.whole ++ p.last ∷ more) h c k;
      fault = closed_fault r after p e (p.whole ++ p.last ∷ more) h c k;
    }

-- ---- a piece that goes on

bytes_placed : (n : ℕ) (text : List ℕ) → column_bytes (placed n text) ≡ text
bytes_placed n [] = refl
bytes_placed n (b ∷ bs) = ap (λ t. b ∷ t) (bytes_placed n bs)

first_of : (n : ℕ) (xs : List Column) (text : List ℕ) (m : ℕ) → (0 < length xs → m ≡ first_card xs) → 0 < length (xs ++ placed n text) → (if nat_lt 0 (length xs) then m else n) ≡ first_card (xs ++ placed n text)
first_of n [] [] m h lt = absurd (omega arith)
first_of n [] (b ∷ bs) m h lt = refl
first_of n (x ∷ xs) text m h lt = let some : nat_lt 0 (suc (length xs)) ≡ true = grind (arith, nat_tests) in rw some (h (omega arith))

pub extends : (r after : Reader) (p : Parts) (e : Option CardFault) (n : ℕ) (text : List ℕ) → Holds r p e → Others r after → after.piece ≡ r.piece ++ text
    → after.piece_card ≡ (if nat_lt 0 (length r.piece) then r.piece_card else n) → Holds after (parts p.whole (p.last ++ placed n text) p.quote) e
extends r after p e n text h o grows card =
    let width : length r.piece ≡ length p.last = ap length h.piece ∙ length-bytes p.last in
    record {
      no_end = h.no_end;
      statements = o.statements ∙ h.statements;
      piece = grows ∙ ap (λ t. t ++ text) h.piece ∙ ap (λ t. column_bytes p.last ++ t) (sym (bytes_placed n text)) ∙ sym (map-append (λ (c : Column). c.byte) p.last (placed n text));
      card = λ lt. card ∙ ap (λ m. if nat_lt 0 m then r.piece_card else n) width ∙ first_of n p.last text r.piece_card h.card lt;
      quote = o.quote ∙ h.quote;
      fault = o.fault ∙ h.fault;
    }

-- ---- what the reader's steps answer

pub ends_same : (r after : Reader) (ps : List (List Column)) (e : Option CardFault) → Ends r ps e → IsSame r after → Ends after ps e
ends_same r after ps e h s = record { ends = h.ends; statements = s.statements ∙ h.statements; fault = s.fault ∙ h.fault }

pub piece_ends : (b : Bool) (r closed after : Reader) (p : Parts) (e : Option CardFault) → Holds r p e → IsClosed r closed → b ≡ is_end p.last → IsSame closed after → after.quote ≡ None → IsPieceEnd (Ok b) after p.whole p.last e
piece_ends false r closed after p e h c is s q = requoted closed after (parts (p.whole ++ p.last ∷ []) [] p.quote) e None (closes r closed p e h c (sym is)) s q
piece_ends true r closed after p e h c is s q = λ more. ends_same closed after (p.whole ++ p.last ∷ more) e (closes_end r closed p e more h c (sym is)) s

-- the faults reported so far, and one more
merge_later : (e l f : Option CardFault) → merge (merge e l) f ≡ merge (merge e f) l
merge_later e l f = merge_shift e l f ∙ ap (merge e) (merge_swap l f) ∙ sym (merge_shift e f l)

pub record IsNoted (r after : Reader) (f : Option CardFault) : Type 0 where
  pub statements : after.statements ≡ r.statements
  pub piece : after.piece ≡ r.piece
  pub card : after.piece_card ≡ r.piece_card
  pub quote : after.quote ≡ r.quote
  pub begun : after.begun ≡ r.begun
  pub fault : after.fault ≡ merge r.fault f

pub noted : (r after : Reader) (p : Parts) (e f : Option CardFault) → Holds r p e → IsNoted r after f → Holds after p (merge e f)
noted r after p e f h s = record {
  no_end = h.no_end;
  statements = s.statements ∙ h.statements;
  piece = s.piece ∙ h.piece;
  card = λ some. s.card ∙ h.card some;
  quote = s.quote ∙ h.quote;
  fault = s.fault ∙ ap (λ x. merge x f) h.fault ∙ merge_later e (least (long_statements (kept p.whole))) f;
}

pub waits_noted : (r after : Reader) (o : Option Parts) (e f : Option CardFault) → Waits r o e → IsNoted r after f → Waits after o (merge e f)
waits_noted r after o e f w s = record { begun = s.begun ∙ w.begun; holds = noted r after (parts_of o) e f w.holds s; no_end = w.no_end }

-- ---- by the answer that a test gave

pub is_read_end : (b : Bool) (r closed : Reader) (p : Parts) (e : Option CardFault) → Holds r p e → IsClosed r closed → b ≡ true → b ≡ is_end p.last → IsRead (Ok b) closed p e
is_read_end false r closed p e h c yes_ is = absurd (cc)
is_read_end true r closed p e h c yes_ is = closes_end r closed p e [] h c (sym is)

pub is_read_on : (b : Bool) (r : Reader) (p : Parts) (e : Option CardFault) → Holds r p e → b ≡ false → b ≡ is_end p.last → IsRead (Ok b) r p e
is_read_on false r p e h no_ is = (h, sym is)
is_read_on true r p e h no_ is = absurd (cc)
