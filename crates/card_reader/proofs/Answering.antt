-- From what the reader holds at the end to the answer for the deck.
use Rattle.std.proofs.Common.{◌≡◌, ◌≢◌, refl, ◌∙◌, ap, subst, ℕ, ◌+◌, ◌<◌, ◌≤◌, ◌||◌, Bool, true, false, List, [], ◌∷◌, ◌++◌, length, take, arith, inl, inr}
use Rattle.std.specs.Prelude.{Option, Some, None, Result, Ok, Err, IfOk, IfErr, nat_lt}
use Rattle.std.specs.List.{list_all}
use Rattle.std.proofs.lemmas.Bool.{cases_Bool}
use Rattle.std.proofs.lemmas.Bool.Decides.{nat_tests}
use Rattle.model.specs.declared.cards.Statement.{Statement}
use Rattle.model.specs.declared.cards.CardFault.{CardFault}
use Rattle.model.specs.declared.cards.CardRule.{CardRule}
use Rattle.model.specs.declared.cards.CardRule.TheVariants as rule
use Rattle.model.specs.Deck.Cards.{Card, CardKind, Comment, Control, UnknownControl, Continuation, Start, Column, cards, kind_of, kind_of_columns, pieces_of, ended, kept, bad_bytes, before_lost, lost_continuations, before_unknown, unknown_controls, long_statements, faults_of, fault, least, lesser, is_less, is_plain, cards_verdict, deck_of, deck}
use Rattle.card_reader.specs.declared.reader.Reader.{Reader}
use Rattle.card_reader.specs.declared.views.DeckView.{DeckView}
use Rattle.card_reader.specs.Parts.{Parts, parts_of}
use Rattle.card_reader.specs.Reading.{merge, IsClosed, Waits, pieces_now}
use Rattle.card_reader.proofs.Keeping.{closes}

-- the last piece has ended
pub closed_now : (r closed : Reader) (o : Option Parts) (e : Option CardFault) → Waits r o e → IsClosed r closed → closed.fault ≡ merge e (least (long_statements (kept (pieces_now o))))
closed_now r closed None e w c = (closes r closed (parts_of None) e w.holds c w.no_end).fault
closed_now r closed (Some p) e w c = (closes r closed p e w.holds c w.no_end).fault

pub with_fault : (x y : Option CardFault) (f g : CardFault) → Some f ≡ merge x (Some g) → x ≡ y → Some f ≡ merge y (Some g)
with_fault x y f g h e = h ∙ ap (λ z. merge z (Some g)) e

pub kind_columns : (n : ℕ) (line : List ℕ) → kind_of (record { number = n; line = line }) ≡ kind_of_columns (take 72 line)
unfolding kind_of
kind_columns n line = refl

-- ---- results

abbrev Answer : Type 0
Answer = Result (List Statement) CardFault

pub if_ok : (res : Result DeckView CardFault) (a b : Answer) → b ≡ a → IfOk res (λ d. a ≡ Ok d.statements) → IfOk res (λ d. b ≡ Ok d.statements)
if_ok (Ok d) a b e h = e ∙ h
if_ok (Err f) a b e h = tt

pub if_err : (res : Result DeckView CardFault) (a b : Answer) → b ≡ a → IfErr res (λ f. a ≡ Err f) → IfErr res (λ f. b ≡ Err f)
if_err (Ok d) a b e h = tt
if_err (Err f) a b e h = e ∙ h

pub if_fault : (res : Result DeckView CardFault) (a : Answer) → IfErr res (λ f. a ≡ Err f) → IfErr res (λ f. f.rule ≢ rule.Memory → a ≡ Err f)
if_fault (Ok d) a h = tt
if_fault (Err f) a h = λ _. h

-- ---- no fault of a deck is of memory

abbrev is_memory : CardRule → Bool
is_memory rule.Memory = true
is_memory _ = false

abbrev has_memory : List CardFault → Bool
has_memory [] = false
has_memory (f ∷ fs) = is_memory f.rule || has_memory fs

memory_append : (xs ys : List CardFault) → has_memory xs ≡ false → has_memory ys ≡ false → has_memory (xs ++ ys) ≡ false
memory_append [] ys h k = k
memory_append (x ∷ xs) ys h k = elim (cases_Bool (is_memory x.rule)) [
  | inl m ↦ absurd (let g : true ≡ false = rw m at h in cc)
  | inr m ↦ (let rest : has_memory xs ≡ false = rw m at h in rw m (memory_append xs ys rest k))
]

bad_memory : (cs : List Card) → has_memory (bad_bytes cs) ≡ false
bad_memory [] = refl
bad_memory (c ∷ cs) = elim (cases_Bool (list_all is_plain c.line)) [ inl h ↦ rw h (bad_memory cs) | inr h ↦ rw h (bad_memory cs) ]

lost_memory_by : (k : CardKind) (n : ℕ) (fs : List CardFault) → has_memory fs ≡ false → has_memory (before_lost k n fs) ≡ false
lost_memory_by (Continuation text) n fs h = h
lost_memory_by (Start text) n fs h = refl
lost_memory_by Comment n fs h = h
lost_memory_by Control n fs h = h
lost_memory_by UnknownControl n fs h = h

lost_memory : (cs : List Card) → has_memory (lost_continuations cs) ≡ false
lost_memory [] = refl
lost_memory (c ∷ cs) = lost_memory_by (kind_of c) c.number (lost_continuations cs) (lost_memory cs)

unknown_memory_by : (k : CardKind) (n : ℕ) (fs : List CardFault) → has_memory fs ≡ false → has_memory (before_unknown k n fs) ≡ false
unknown_memory_by (Continuation text) n fs h = h
unknown_memory_by (Start text) n fs h = h
unknown_memory_by Comment n fs h = h
unknown_memory_by Control n fs h = h
unknown_memory_by UnknownControl n fs h = h

unknown_memory : (cs : List Card) → has_memory (unknown_controls cs) ≡ false
unknown_memory [] = refl
unknown_memory (c ∷ cs) = unknown_memory_by (kind_of c) c.number (unknown_controls cs) (unknown_memory cs)

long_memory : (ps : List (List Column)) → has_memory (long_statements ps) ≡ false
long_memory [] = refl
long_memory (p ∷ ps) = elim (cases_Bool (nat_lt 4000 (length p))) [ inl h ↦ rw h (long_memory ps) | inr h ↦ rw h (long_memory ps) ]

all_memory : (cs : List Card) → has_memory (faults_of cs) ≡ false
unfolding faults_of
all_memory cs = memory_append (bad_bytes cs) _ (bad_memory cs) (memory_append (lost_continuations cs) _ (lost_memory cs) (memory_append (unknown_controls cs) _ (unknown_memory cs) (long_memory (kept (pieces_of cs)))))

lesser_memory : (a : CardFault) (o : Option CardFault) → is_memory a.rule ≡ false → ((b : CardFault) → o ≡ Some b → is_memory b.rule ≡ false) → is_memory (lesser a o).rule ≡ false
lesser_memory a None h k = h
lesser_memory a (Some b) h k = elim (cases_Bool (is_less b a)) [ inl l ↦ rw l (k b refl) | inr l ↦ rw l h ]

least_memory : (fs : List CardFault) → has_memory fs ≡ false → (f : CardFault) → least fs ≡ Some f → is_memory f.rule ≡ false
least_memory [] h f e = absurd (cc)
least_memory (x ∷ xs) h f e = elim (cases_Bool (is_memory x.rule)) [
  | inl m ↦ absurd (let g : true ≡ false = rw m at h in cc)
  | inr m ↦ (let rest : has_memory xs ≡ false = rw m at h in
      let is : lesser x (least xs) ≡ f = cc in
      subst (λ g. is_memory g.rule ≡ false) is (lesser_memory x (least xs) m (λ b k. least_memory xs rest b k)))
]

verdict_memory : (cs : List Card) (o : Option CardFault) (f : CardFault) → ((b : CardFault) → o ≡ Some b → is_memory b.rule ≡ false) → cards_verdict cs o ≡ Err f → is_memory f.rule ≡ false
verdict_memory cs None f h e = absurd (cc)
verdict_memory cs (Some b) f h e = let same : b ≡ f = cc in subst (λ g. is_memory g.rule ≡ false) same (h b refl)

deck_memory : (cs : List Card) (o : Option (List Card)) (f : CardFault) → deck_of cs o ≡ Err f → is_memory f.rule ≡ false
deck_memory cs (Some used) f e = verdict_memory used (least (faults_of used)) f (λ b k. least_memory (faults_of used) (all_memory used) b k) e
deck_memory cs None f e =
    let fs = faults_of cs ++ fault (length cs + 1) rule.NoEnd ∷ [] in
    verdict_memory cs (least fs) f (λ b k. least_memory fs (memory_append (faults_of cs) (fault (length cs + 1) rule.NoEnd ∷ []) (all_memory cs) refl) b k) e

pub if_memory : (res : Result DeckView CardFault) (cs : List Card) (o : Option (List Card)) → IfErr res (λ f. deck_of cs o ≡ Err f) → IfErr res (λ f. f.rule ≡ rule.Memory → f ≡ fault 0 rule.Memory)
if_memory (Ok d) cs o h = tt
if_memory (Err f) cs o h = λ e. absurd (let m = deck_memory cs o f h in let t : is_memory f.rule ≡ true = ap is_memory e in cc)

-- ---- the length of the deck

pub not_too_long : (text : List ℕ) → length text ≤ 16777216 → deck text ≡ deck_of (cards text) (ended (cards text))
unfolding deck
not_too_long text h = let short : nat_lt 16777216 (length text) ≡ false = grind (arith, nat_tests) in rw short refl

pub too_long : (text : List ℕ) → 16777216 < length text → deck text ≡ Err (fault 0 rule.DeckTooLong)
unfolding deck
too_long text h = let long : nat_lt 16777216 (length text) ≡ true = grind (arith, nat_tests) in rw long refl
