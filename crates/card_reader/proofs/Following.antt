-- One card after the other, to the card that ends the deck or the last.
use Rattle.std.proofs.Common.{◌≡◌, refl, sym, ◌∙◌, ap, subst, ℕ, ◌+◌, ◌||◌, Bool, true, false, List, [], ◌∷◌, ◌++◌, length, append_assoc, append-nil, length-append, arith, inl, inr}
use Rattle.std.specs.Prelude.{Option, Some, None, is_some, Ok, Err}
use Rattle.std.specs.List.{list_all}
use Rattle.std.proofs.lemmas.Bool.{cases_Bool}
use Rattle.std.proofs.Math.Bool.{or-false, or_assoc}
use Rattle.model.specs.declared.cards.Statement.{Statement}
use Rattle.model.specs.declared.cards.CardFault.{CardFault}
use Rattle.model.specs.declared.cards.CardRule.TheVariants as rule
use Rattle.model.specs.Deck.Cards.{Card, CardKind, Comment, Control, UnknownControl, Continuation, Start, lines, numbered_from, cards, kind_of, pieces_of, has_end, ended, kept, statements_from, statements_of, bad_bytes, before_lost, lost_continuations, before_unknown, unknown_controls, long_statements, faults_of, fault, least, is_plain, cards_verdict, deck_of}
use Rattle.card_reader.specs.declared.reader.Reader.{Reader}
use Rattle.card_reader.specs.Parts.{Parts, nothing, step}
use Rattle.card_reader.specs.Reading.{merge, bad_byte, kind_fault, card_fault, Holds, Waits, pieces_now, IsCardRead}
use Rattle.card_reader.specs.Reached.{pieces_at, ended_at, is_start, has_start, early, Reached, answer}
use Rattle.card_reader.proofs.Growing.{pieces_step, pieces_end, ended_start, ended_here, ended_later, ended_never}
use Rattle.card_reader.proofs.Keeping.{has_end_append}
use Rattle.card_reader.proofs.Merging.{merge_shift, merge_middle, least_append}

-- ---- C1 to C3, one card more

bad_append : (xs ys : List Card) → bad_bytes (xs ++ ys) ≡ bad_bytes xs ++ bad_bytes ys
bad_append [] ys = refl
bad_append (x ∷ xs) ys = elim (cases_Bool (list_all is_plain x.line)) [ inl h ↦ rw h (bad_append xs ys) | inr h ↦ rw h (ap (λ t. fault x.number rule.BadByte ∷ t) (bad_append xs ys)) ]

bad_one : (c : Card) → least (bad_bytes (c ∷ [])) ≡ bad_byte c.number c.line
bad_one c = elim (cases_Bool (list_all is_plain c.line)) [ inl h ↦ rw h refl | inr h ↦ rw h refl ]

unknown_before : (k : CardKind) (n : ℕ) (xs ys : List CardFault) → before_unknown k n (xs ++ ys) ≡ before_unknown k n xs ++ ys
unknown_before UnknownControl n xs ys = refl
unknown_before Comment n xs ys = refl
unknown_before Control n xs ys = refl
unknown_before (Continuation text) n xs ys = refl
unknown_before (Start text) n xs ys = refl

unknown_append : (xs ys : List Card) → unknown_controls (xs ++ ys) ≡ unknown_controls xs ++ unknown_controls ys
unknown_append [] ys = refl
unknown_append (x ∷ xs) ys = ap (before_unknown (kind_of x) x.number) (unknown_append xs ys) ∙ unknown_before (kind_of x) x.number (unknown_controls xs) (unknown_controls ys)

-- the continuation that is lost where no text has begun
abbrev lost_of : Bool → CardKind → ℕ → List CardFault
lost_of true k n = []
lost_of false k n = before_lost k n []

lost_before : (k : CardKind) (n : ℕ) (begun : Bool) (xs : List CardFault) (j : CardKind) (m : ℕ) → before_lost k n (xs ++ lost_of begun j m) ≡ before_lost k n xs ++ lost_of (is_start k || begun) j m
lost_before (Continuation text) n begun xs j m = refl
lost_before (Start text) n begun xs j m = refl
lost_before Comment n begun xs j m = refl
lost_before Control n begun xs j m = refl
lost_before UnknownControl n begun xs j m = refl

lost_append : (xs : List Card) (c : Card) → lost_continuations (xs ++ c ∷ []) ≡ lost_continuations xs ++ lost_of (has_start xs) (kind_of c) c.number
lost_append [] c = refl
lost_append (x ∷ xs) c = ap (before_lost (kind_of x) x.number) (lost_append xs c) ∙ lost_before (kind_of x) x.number (has_start xs) (lost_continuations xs) (kind_of c) c.number

kind_one : (begun : Bool) (k : CardKind) (n : ℕ) → merge (least (lost_of begun k n)) (least (before_unknown k n [])) ≡ kind_fault begun k n
kind_one true Comment n = refl
kind_one true Control n = refl
kind_one true UnknownControl n = refl
kind_one true (Continuation text) n = refl
kind_one true (Start text) n = refl
kind_one false Comment n = refl
kind_one false Control n = refl
kind_one false UnknownControl n = refl
kind_one false (Continuation text) n = refl
kind_one false (Start text) n = refl

early_more : (xs : List Card) (c : Card) → early (xs ++ c ∷ []) ≡ merge (early xs) (card_fault (has_start xs) (kind_of c) c.number c.line)
unfolding early
early_more xs c =
    let bad : least (bad_bytes (xs ++ c ∷ [])) ≡ merge (least (bad_bytes xs)) (bad_byte c.number c.line) =
    ap least (bad_append xs (c ∷ [])) ∙ least_append (bad_bytes xs) (bad_bytes (c ∷ [])) ∙ ap (merge (least (bad_bytes xs))) (bad_one c) in
    let lost : least (lost_continuations (xs ++ c ∷ [])) ≡ merge (least (lost_continuations xs)) (least (lost_of (has_start xs) (kind_of c) c.number)) =
    ap least (lost_append xs c) ∙ least_append (lost_continuations xs) (lost_of (has_start xs) (kind_of c) c.number) in
    let unknown : least (unknown_controls (xs ++ c ∷ [])) ≡ merge (least (unknown_controls xs)) (least (before_unknown (kind_of c) c.number [])) =
    ap least (unknown_append xs (c ∷ [])) ∙ least_append (unknown_controls xs) (unknown_controls (c ∷ [])) in
    rw (bad, lost, unknown)
    (ap (merge (merge (least (bad_bytes xs)) (bad_byte c.number c.line)))
    (merge_middle (least (lost_continuations xs)) (least (lost_of (has_start xs) (kind_of c) c.number)) (least (unknown_controls xs)) (least (before_unknown (kind_of c) c.number []))
    ∙ ap (merge (merge (least (lost_continuations xs)) (least (unknown_controls xs)))) (kind_one (has_start xs) (kind_of c) c.number))
    ∙ merge_middle (least (bad_bytes xs)) (bad_byte c.number c.line) (merge (least (lost_continuations xs)) (least (unknown_controls xs))) (kind_fault (has_start xs) (kind_of c) c.number))

-- ---- whether a text has begun

start_more : (xs : List Card) (c : Card) → has_start (xs ++ c ∷ []) ≡ (has_start xs || is_start (kind_of c))
start_more [] c = or-false (is_start (kind_of c))
start_more (x ∷ xs) c = ap (λ b. is_start (kind_of x) || b) (start_more xs c) ∙ sym (or_assoc (is_start (kind_of x)) (has_start xs) (is_start (kind_of c)))

step_begun : (o : Option Parts) (k : CardKind) (n : ℕ) → is_some (step o k n) ≡ (is_some o || is_start k)
step_begun None Comment n = refl
step_begun None Control n = refl
step_begun None UnknownControl n = refl
step_begun None (Continuation text) n = refl
step_begun None (Start text) n = refl
step_begun (Some p) Comment n = refl
step_begun (Some p) Control n = refl
step_begun (Some p) UnknownControl n = refl
step_begun (Some p) (Continuation text) n = refl
step_begun (Some p) (Start text) n = refl

-- ---- one card more

abbrev pub next_card : ℕ → List ℕ → Card
next_card n line = record { number = n; line = line }

pieces_more : (before : List Card) (o : Option Parts) (c : Card) → ((more : List Card) → pieces_of (before ++ more) ≡ pieces_at o more)
    → (more : List Card) → pieces_of ((before ++ c ∷ []) ++ more) ≡ pieces_at (step o (kind_of c) c.number) more
pieces_more before o c all more = ap pieces_of (append_assoc before (c ∷ []) more) ∙ all (c ∷ more) ∙ pieces_step o c more (kind_of c) refl

pieces_here : (before : List Card) (o : Option Parts) → ((more : List Card) → pieces_of (before ++ more) ≡ pieces_at o more) → pieces_of before ≡ pieces_now o
pieces_here before o all = ap pieces_of (sym (append-nil before)) ∙ all [] ∙ pieces_end o

waits_no_end : (r : Reader) (o : Option Parts) (e : Option CardFault) → Waits r o e → has_end (pieces_now o) ≡ false
waits_no_end r None e w = refl
waits_no_end r (Some p) e w = has_end_append p.whole (p.last ∷ []) ∙ rw (w.holds.no_end, w.no_end) refl

-- no card before is END's
not_ended : (deck : List ℕ) (r : Reader) (n : ℕ) (rest : List ℕ) (s : Reached deck r n rest) → has_end (pieces_of s.before) ≡ false
not_ended deck r n rest s = ap has_end (pieces_here s.before s.parts s.pieces) ∙ waits_no_end r s.parts (early s.before) s.waits

-- what the card's faults are, by the parts
same_early : (deck : List ℕ) (r : Reader) (n : ℕ) (rest line : List ℕ) (s : Reached deck r n rest)
    → merge (early s.before) (card_fault (is_some s.parts) (kind_of (next_card n line)) n line) ≡ early (s.before ++ next_card n line ∷ [])
same_early deck r n rest line s = ap (λ b. merge (early s.before) (card_fault b (kind_of (next_card n line)) n line)) (sym s.begun) ∙ sym (early_more s.before (next_card n line))

abbrev kind_at : ℕ → List ℕ → CardKind
kind_at n line = kind_of (next_card n line)

pub goes_on : (deck : List ℕ) (r after : Reader) (n : ℕ) (rest line more : List ℕ) (s : Reached deck r n rest) → lines rest ≡ line ∷ lines more
    → IsCardRead (Ok false) after (step s.parts (kind_at n line) n) (merge (early s.before) (card_fault (is_some s.parts) (kind_at n line) n line))
    → Reached deck after (n + 1) more
goes_on deck r after n rest line more s l read =
    let c = next_card n line in
    let cut : numbered_from n (lines rest) ≡ c ∷ numbered_from (n + 1) (lines more) = ap (numbered_from n) l in
    record {
      before = s.before ++ c ∷ [];
      parts = step s.parts (kind_of c) n;
      cards_are = s.cards_are ∙ ap (λ x. s.before ++ x) cut ∙ sym (append_assoc s.before (c ∷ []) (numbered_from (n + 1) (lines more)));
      count = omega (arith, s.count, length-append s.before (c ∷ []));
      pieces = pieces_more s.before s.parts c s.pieces;
      begun = start_more s.before c ∙ ap (λ b. b || is_start (kind_of c)) s.begun ∙ sym (step_begun s.parts (kind_of c) n);
      waits = subst (Waits after (step s.parts (kind_of c) n)) (same_early deck r n rest line s) read;
      ended = s.ended ∙ ap (ended_at s.before) cut ∙ ended_later s.before c (numbered_from (n + 1) (lines more)) (not_ended deck r n rest s);
    }

-- ---- the answer

faults_are : (used : List Card) → least (faults_of used) ≡ merge (early used) (least (long_statements (kept (pieces_of used))))
unfolding faults_of early
faults_are used =
    let bad = bad_bytes used in
    let lost = lost_continuations used in
    let unknown = unknown_controls used in
    let long = long_statements (kept (pieces_of used)) in
    least_append bad (lost ++ (unknown ++ long))
    ∙ ap (merge (least bad)) (least_append lost (unknown ++ long) ∙ ap (merge (least lost)) (least_append unknown long) ∙ sym (merge_shift (least lost) (least unknown) (least long)))
    ∙ sym (merge_shift (least bad) (merge (least lost) (least unknown)) (least long))

verdict_is : (used : List Card) (f : Option CardFault) → cards_verdict used f ≡ answer (statements_of used) f
verdict_is used None = refl
verdict_is used (Some f) = refl

answers_same : (ss ts : List Statement) (f g : Option CardFault) → ss ≡ ts → f ≡ g → answer ss f ≡ answer ts g
answers_same ss ts f g e h = ap (λ x. answer x f) e ∙ ap (answer ts) h

-- END's card
pub ends_here : (deck : List ℕ) (r after : Reader) (n : ℕ) (rest line more : List ℕ) (s : Reached deck r n rest) → lines rest ≡ line ∷ lines more
    → IsCardRead (Ok true) after (step s.parts (kind_at n line) n) (merge (early s.before) (card_fault (is_some s.parts) (kind_at n line) n line))
    → deck_of (cards deck) (ended (cards deck)) ≡ answer after.statements after.fault
ends_here deck r after n rest line more s l read =
    let c = next_card n line in
    let used = s.before ++ c ∷ [] in
    let cut : numbered_from n (lines rest) ≡ c ∷ numbered_from (n + 1) (lines more) = ap (numbered_from n) l in
    let now : pieces_of used ≡ pieces_now (step s.parts (kind_of c) n) = pieces_here used (step s.parts (kind_of c) n) (pieces_more s.before s.parts c s.pieces) in
    let last : ended (cards deck) ≡ Some used =
    s.ended ∙ ap (ended_at s.before) cut ∙ ended_later s.before c (numbered_from (n + 1) (lines more)) (not_ended deck r n rest s)
    ∙ ended_here used (numbered_from (n + 1) (lines more)) (ap has_end now ∙ read.ends) in
    let told : least (faults_of used) ≡ after.fault =
    faults_are used ∙ ap (λ x. merge (early used) (least (long_statements (kept x)))) now
    ∙ ap (λ e. merge e (least (long_statements (kept (pieces_now (step s.parts (kind_of c) n)))))) (sym (same_early deck r n rest line s)) ∙ sym read.fault in
    ap (deck_of (cards deck)) last ∙ verdict_is used (least (faults_of used))
    ∙ answers_same (statements_of used) after.statements (least (faults_of used)) after.fault (ap (λ x. statements_from 1 (kept x)) now ∙ sym read.statements) told

-- no card is END's
pub ends_nowhere : (deck : List ℕ) (r : Reader) (n : ℕ) (rest : List ℕ) (f : CardFault) (s : Reached deck r n rest) → rest ≡ []
    → Some f ≡ merge (merge (early s.before) (least (long_statements (kept (pieces_now s.parts))))) (Some (fault n rule.NoEnd))
    → deck_of (cards deck) (ended (cards deck)) ≡ Err f
ends_nowhere deck r n rest f s none told =
    let all : cards deck ≡ s.before = s.cards_are ∙ ap (λ x. s.before ++ numbered_from n (lines x)) none ∙ append-nil s.before in
    let never : ended (cards deck) ≡ None = s.ended ∙ ap (λ x. ended_at s.before (numbered_from n (lines x))) none ∙ ended_never s.before (not_ended deck r n rest s) in
    let count : length s.before + 1 ≡ n = sym s.count in
    let least_is : least (faults_of s.before ++ fault (length s.before + 1) rule.NoEnd ∷ []) ≡ Some f =
    least_append (faults_of s.before) (fault (length s.before + 1) rule.NoEnd ∷ [])
    ∙ ap (λ x. merge x (Some (fault (length s.before + 1) rule.NoEnd))) (faults_are s.before ∙ ap (λ x. merge (early s.before) (least (long_statements (kept x)))) (pieces_here s.before s.parts s.pieces))
    ∙ ap (λ m. merge (merge (early s.before) (least (long_statements (kept (pieces_now s.parts))))) (Some (fault m rule.NoEnd))) count ∙ sym told in
    ap (deck_of (cards deck)) never ∙ ap (λ cs. cards_verdict cs (least (faults_of cs ++ fault (length cs + 1) rule.NoEnd ∷ []))) all ∙ ap (cards_verdict s.before) least_is

-- before the first card
pub nothing_read : (deck : List ℕ) (r : Reader) → Holds r nothing None → r.begun ≡ false → Reached deck r 1 deck
unfolding early pieces_of
nothing_read deck r h b = record {
  before = [];
  parts = None;
  cards_are = refl;
  count = omega arith;
  pieces = λ more. refl;
  begun = refl;
  waits = record { begun = b; holds = h; no_end = refl };
  ended = ended_start (cards deck);
}
