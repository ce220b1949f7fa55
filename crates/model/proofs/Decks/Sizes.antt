-- How much an accepted deck holds.
use Rattle.std.proofs.Common.{Bool, ◌≡◌, refl, sym, ap, subst, ℕ, suc, ◌+◌, ◌≤◌, ◌==◌, ◌||◌, inl, inr, true, false, List, [], ◌∷◌, ◌++◌, length, length-append, take, arith}
use Rattle.std.specs.Prelude.{Option, Some, None, map, nat_lt, if◌then◌else◌}
use Rattle.std.specs.List.{AllByRecursion}
use Rattle.std.proofs.lemmas.Bool.{cases_Bool}
use Rattle.std.proofs.lemmas.Bool.Decides.{nat_tests}
use Rattle.std.proofs.lemmas.List.{length-map, length-take}
use Rattle.model.specs.declared.cards.Statement.{Statement}
use Rattle.model.specs.declared.cards.CardRule.TheVariants as rule
use Rattle.model.specs.Deck.Cards.{Card, to_first, lines, numbered_from, cards, is_blank_text, is_known_control, CardKind, Comment, Control, UnknownControl, Continuation, Start, kind_by_first, kind_of_columns, kind_of, Column, placed, column_bytes, before_continued, continued, before_texts, texts, into_first, split, pieces_of_texts, pieces_of, is_end, beginnings, first_ended, ended, kept, first_card, statements_from, statements_of, fault, bad_bytes, lost_continuations, unknown_controls, long_statements, faults_of}
use Rattle.model.specs.Laws.Decks.{DecksFit, CardsFit, AcceptedDecksFit}
use Rattle.model.specs.Deck.Trees.{Stmt}
use Rattle.model.specs.Deck.Weights.{weight, total}
use Rattle.model.proofs.Decks.Verdicts.{Have, accepts, by_cards, none_right}
use Rattle.model.proofs.Decks.ParseSteps.{if_is}
use Rattle.model.proofs.Decks.TreeWeights.{read_less}

-- ---- cards

to_first_total : (b : ℕ) (ls : List (List ℕ)) → total length (to_first b ls) ≡ total length ls + 1
to_first_total b [] = omega arith
to_first_total b (l ∷ ls) = omega arith

lines_total : (text : List ℕ) → total length (lines text) ≤ length text
lines_total [] = omega arith
lines_total (b ∷ bs) =
    let more = lines_total bs in
    elim (cases_Bool (b == 10)) [
      | inl h ↦ rw h (omega arith)
      | inr h ↦ rw h (omega (arith, to_first_total b (lines bs)))
    ]

abbrev on_cards : List Card → ℕ
on_cards cs = total (λ c. length c.line) cs

numbered_total : (n : ℕ) (ls : List (List ℕ)) → on_cards (numbered_from n ls) ≡ total length ls
numbered_total n [] = refl
numbered_total n (l ∷ ls) = ap (λ x. length l + x) (numbered_total (n + 1) ls)

-- ---- beginnings

abbrev AtMost : ℕ → List (List Card) → Type 0
AtMost n bs = AllByRecursion (λ b. on_cards b ≤ n) bs

after_card : (card : Card) (n : ℕ) (bs : List (List Card)) → AtMost n bs → AtMost (length card.line + n) (map (λ b. card ∷ b) bs)
after_card card n [] h = tt
after_card card n (b ∷ bs) h = (omega (arith, h.0), after_card card n bs h.1)

beginnings_total : (cs : List Card) → AtMost (on_cards cs) (beginnings cs)
beginnings_total [] = (omega arith, tt)
beginnings_total (c ∷ cs) = (omega arith, after_card c (on_cards cs) (beginnings cs) (beginnings_total cs))

first_total : (n : ℕ) (bs : List (List Card)) (used : List Card) → AtMost n bs → first_ended bs ≡ Some used → on_cards used ≤ n
first_total n [] used all h = absurd (cc)
first_total n (b ∷ bs) used all h = elim (if_is _ (Some b) (first_ended bs) (Some used) h) [
  | inl x ↦ (let same : b ≡ used = let e = x.1 in cc in subst (λ y. on_cards y ≤ n) same all.0)
  | inr x ↦ first_total n bs used all.1 x.1
]

ended_total : (cs used : List Card) → ended cs ≡ Some used → on_cards used ≤ on_cards cs
unfolding ended
ended_total cs used h = first_total (on_cards cs) (beginnings cs) used (beginnings_total cs) h

-- ---- texts

abbrev of_kind : CardKind → ℕ
of_kind (Continuation text) = length text
of_kind (Start text) = length text
of_kind _ = 0

tests_total : (comment control known continuation : Bool) (b : ℕ) (rest : List ℕ)
    → of_kind (if comment then Comment else (if control then (if known then Control else UnknownControl) else (if continuation then Continuation rest else Start (b ∷ rest)))) ≤ length (b ∷ rest)
tests_total true y k z b rest = omega arith
tests_total false true true z b rest = omega arith
tests_total false true false z b rest = omega arith
tests_total false false k true b rest = omega arith
tests_total false false k false b rest = omega arith

kind_by_total : (b : ℕ) (rest : List ℕ) → of_kind (kind_by_first b rest) ≤ length (b ∷ rest)
kind_by_total b rest = tests_total (b == 42) (b == 45) (is_known_control (b ∷ rest)) ((b == 43) || (b == 46)) b rest

columns_total : (columns : List ℕ) → of_kind (kind_of_columns columns) ≤ length columns
columns_total [] = omega arith
columns_total (b ∷ bs) = elim (cases_Bool (is_blank_text (b ∷ bs))) [
  | inl h ↦ rw h (omega arith)
  | inr h ↦ rw h (kind_by_total b bs)
]

kind_total : (card : Card) → of_kind (kind_of card) ≤ length card.line
unfolding kind_of
kind_total card = omega (arith, columns_total (take 72 card.line), length-take 72 card.line)

length-placed : (n : ℕ) (text : List ℕ) → length (placed n text) ≡ length text
length-placed n text = length-map text (λ b. record { card = n; byte = b })

card_total : (k : CardKind) (n : ℕ) (more : List Column) (others : List (List Column))
    → length (before_continued k n more) + total length (before_texts k n more others) ≤ of_kind k + (length more + total length others)
card_total Comment n more others = omega arith
card_total Control n more others = omega arith
card_total UnknownControl n more others = omega arith
card_total (Continuation text) n more others = omega (arith, length-append (placed n text) more, length-placed n text)
card_total (Start text) n more others = omega (arith, length-append (placed n text) more, length-placed n text)

texts_total : (cs : List Card) → length (continued cs) + total length (texts cs) ≤ on_cards cs
texts_total [] = omega arith
texts_total (c ∷ cs) =
    let here = card_total (kind_of c) c.number (continued cs) (texts cs) in
    let kind = kind_total c in
    let more = texts_total cs in
    omega arith

-- ---- pieces

into_first_total : (c : Column) (ps : List (List Column)) → total length (into_first c ps) ≡ total length ps + 1
into_first_total c [] = omega arith
into_first_total c (p ∷ ps) = omega arith

split_total : (quote : Option ℕ) (cs : List Column) → total length (split quote cs) ≤ length cs
split_total None [] = omega arith
split_total (Some q) [] = omega arith
split_total None (c ∷ cs) =
    let more = split_total None cs in
    let inside = split_total (Some c.byte) cs in
    elim (cases_Bool (c.byte == 59)) [
      | inl h ↦ rw h (omega arith)
      | inr h ↦ elim (cases_Bool ((c.byte == 39) || (c.byte == 34))) [
        | inl i ↦ rw (h, i) (omega (arith, into_first_total c (split (Some c.byte) cs)))
        | inr i ↦ rw (h, i) (omega (arith, into_first_total c (split None cs)))
      ]
    ]
split_total (Some q) (c ∷ cs) =
    let outside = split_total None cs in
    let more = split_total (Some q) cs in
    elim (cases_Bool (c.byte == q)) [
      | inl h ↦ rw h (omega (arith, into_first_total c (split None cs)))
      | inr h ↦ rw h (omega (arith, into_first_total c (split (Some q) cs)))
    ]

total-append : (xs ys : List (List Column)) → total length (xs ++ ys) ≡ total length xs + total length ys
total-append [] ys = omega arith
total-append (x ∷ xs) ys = let more = total-append xs ys in omega arith

pieces_total : (ts : List (List Column)) → total length (pieces_of_texts ts) ≤ total length ts
pieces_total [] = omega arith
pieces_total (t ∷ ts) =
    let here = split_total None t in
    let more = pieces_total ts in
    omega (arith, total-append (split None t) (pieces_of_texts ts))

-- ---- statements

-- a piece that is kept has a byte
pub end_some : (p : List Column) → is_end p ≡ true → 1 ≤ length p
end_some [] h = absurd (cc)
end_some (c ∷ cs) h = omega arith

pub kept_some : (p : List Column) → is_blank_text (column_bytes p) ≡ false → 1 ≤ length p
kept_some [] h = absurd (cc)
kept_some (c ∷ cs) h = omega arith

kept_total : (ps : List (List Column)) → (total length (kept ps) ≤ total length ps) × (length (kept ps) ≤ total length (kept ps))
kept_total [] = (omega arith, omega arith)
kept_total (p ∷ ps) =
    let more = kept_total ps in
    elim (cases_Bool (is_end p)) [
      | inl h ↦ (let some = end_some p h in rw h (omega arith, omega arith))
      | inr h ↦ elim (cases_Bool (is_blank_text (column_bytes p))) [
        | inl i ↦ rw (h, i) (omega arith, omega arith)
        | inr i ↦ (let some = kept_some p i in rw (h, i) (omega arith, omega arith))
      ]
    ]

short_pieces : (ps : List (List Column)) → long_statements ps ≡ [] → AllByRecursion (λ p. length p ≤ 4000) ps
short_pieces [] h = tt
short_pieces (p ∷ ps) h = elim (if_is (nat_lt 4000 (length p)) (fault (first_card p) rule.StatementTooLong ∷ long_statements ps) (long_statements ps) [] h) [
  | inl x ↦ absurd (cc)
  | inr x ↦ (let test = x.0 in (grind (arith, nat_tests), short_pieces ps x.1))
]

abbrev on_statements : List Statement → ℕ
on_statements ss = total (λ s. length s.text) ss

pub length-bytes : (p : List Column) → length (column_bytes p) ≡ length p
length-bytes p = length-map p (λ c. c.byte)

statements_total : (n : ℕ) (ps : List (List Column)) → on_statements (statements_from n ps) ≡ total length ps
statements_total n [] = refl
statements_total n (p ∷ ps) = let more = statements_total (n + 1) ps in omega (arith, length-bytes p)

pub statements_count : (n : ℕ) (ps : List (List Column)) → length (statements_from n ps) ≡ length ps
statements_count n [] = refl
statements_count n (p ∷ ps) = ap suc (statements_count (n + 1) ps)

short_statements : (n : ℕ) (ps : List (List Column)) → AllByRecursion (λ p. length p ≤ 4000) ps → AllByRecursion (λ s. length s.text ≤ 4000) (statements_from n ps)
short_statements n [] h = tt
short_statements n (p ∷ ps) h = (omega (arith, h.0, length-bytes p), short_statements (n + 1) ps h.1)

clean_long : (cs : List Card) → faults_of cs ≡ [] → long_statements (kept (pieces_of cs)) ≡ []
unfolding faults_of
clean_long cs h =
    let a = none_right (bad_bytes cs) (lost_continuations cs ++ (unknown_controls cs ++ long_statements (kept (pieces_of cs)))) h in
    let b = none_right (lost_continuations cs) (unknown_controls cs ++ long_statements (kept (pieces_of cs))) a in
    none_right (unknown_controls cs) (long_statements (kept (pieces_of cs))) b

cards_total : (cs : List Card) → total length (kept (pieces_of cs)) ≤ on_cards cs
unfolding pieces_of
cards_total cs =
    let a = kept_total (pieces_of_texts (texts cs)) in
    let b = pieces_total (texts cs) in
    let c = texts_total cs in
    omega arith

used_fit : (text : List ℕ) (used : List Card) → length text ≤ 16777216 → ended (cards text) ≡ Some used → faults_of used ≡ [] → CardsFit text (statements_of used)
used_fit text used short to_end clean =
    let ps = kept (pieces_of used) in
    let all : total length ps ≤ length text = omega (arith, cards_total used, ended_total (cards text) used to_end, numbered_total 1 (lines text), lines_total text) in
    record {
      deck = short;
      count = omega (arith, all, statements_count 1 ps, (kept_total (pieces_of used)).1);
      together = omega (arith, all, statements_total 1 ps);
      each = short_statements 1 ps (short_pieces ps (clean_long used clean));
    }

pub decks_fit : DecksFit
decks_fit text statements h =
    let a = by_cards text statements h in
    subst (λ x. CardsFit text x) (sym a.are) (used_fit text a.used a.short a.to_end a.clean)

-- ---- trees

pub record TreesLess (statements : List Statement) (ss : List Stmt) : Type 0 where
  pub count : length ss ≡ length statements
  pub together : total weight ss ≤ on_statements statements
  pub each : AllByRecursion (λ s. weight s ≤ 4000) ss

pub trees_less : (statements : List Statement) (ss : List Stmt) → Have statements ss → AllByRecursion (λ s. length s.text ≤ 4000) statements → TreesLess statements ss
trees_less [] [] have h = record { count = refl; together = omega arith; each = tt }
trees_less [] (t ∷ ts) have h = absurd have
trees_less (s ∷ ss) [] have h = absurd have
trees_less (s ∷ ss) (t ∷ ts) have h =
    let more = trees_less ss ts have.1 h.1 in
    let here = read_less s.text t have.0 in
    record { count = ap suc more.count; together = omega (arith, more.together); each = (omega (arith, h.0), more.each) }

pub accepted_fit : AcceptedDecksFit
accepted_fit text ss h =
    let a = accepts text ss h in
    let fit = decks_fit text a.statements a.given in
    let trees = trees_less a.statements ss a.have fit.each in
    record { deck = fit.deck; count = omega (arith, fit.count, trees.count); together = omega (arith, fit.together, trees.together); each = trees.each }
