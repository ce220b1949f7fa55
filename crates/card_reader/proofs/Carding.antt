-- What each kind of card does to what is held.
use Rattle.std.proofs.Common.{◌≡◌, refl, sym, ap, subst, ℕ, ◌+◌, ◌≤◌, Bool, true, false, List, [], ◌∷◌, length, take, arith, ◌==◌, ◌||◌}
use Rattle.std.specs.Prelude.{Option, Some, None, is_some, Result, Ok, Err, OnOk, if◌then◌else◌}
use Rattle.std.specs.declared.alloc.AllocError.{AllocError}
use Rattle.std.proofs.lemmas.List.{length-take}
use Rattle.model.specs.declared.cards.CardFault.{CardFault}
use Rattle.model.specs.declared.cards.CardRule.TheVariants as rule
use Rattle.model.specs.Deck.Cards.{CardKind, Comment, Control, UnknownControl, Continuation, Start, fault, is_blank_text, is_known_control, kind_of_columns, kind_by_first}
use Rattle.card_reader.specs.declared.reader.Reader.{Reader}
use Rattle.card_reader.specs.Parts.{Parts, parts_of, next_text, step}
use Rattle.card_reader.specs.Reading.{merge, kind_fault, Holds, Waits, IsClosed, IsCardRead, text_length}
use Rattle.card_reader.proofs.Keeping.{IsNoted, IsSame, waits_noted, requoted, closes}
use Rattle.card_reader.proofs.Merging.{merge_shift}

-- ---- an unknown control card

pub unknown_read : (r after : Reader) (o : Option Parts) (e : Option CardFault) (n : ℕ) → Waits r o e → IsNoted r after (Some (fault n rule.UnknownControl))
    → Waits after (step o UnknownControl n) (merge e (kind_fault (is_some o) UnknownControl n))
unknown_read r after None e n w s = waits_noted r after None e (Some (fault n rule.UnknownControl)) w s
unknown_read r after (Some p) e n w s = waits_noted r after (Some p) e (Some (fault n rule.UnknownControl)) w s

-- ---- a new text

pub begins : (r closed after : Reader) (o : Option Parts) (e : Option CardFault) → Waits r o e → IsClosed r closed → IsSame closed after → after.quote ≡ None → Holds after (next_text o) e
begins r closed after None e w c s q =
    let h = requoted closed after _ e None (closes r closed (parts_of None) e w.holds c w.no_end) s q in
    record { no_end = refl; statements = h.statements; piece = h.piece; card = h.card; quote = h.quote; fault = h.fault }
begins r closed after (Some p) e w c s q = requoted closed after _ e None (closes r closed p e w.holds c w.no_end) s q

-- ---- a whole card

pub with_bytes : (res : Result Bool AllocError) (r : Reader) (o : Option Parts) (e a b : Option CardFault) → IsCardRead res r o (merge (merge e a) b) → IsCardRead res r o (merge e (merge a b))
with_bytes res r o e a b h = subst (IsCardRead res r o) (merge_shift e a b) h

pub noted_is : (r after : Reader) (f : Option CardFault) → after ≡ record r { fault = merge r.fault f } → IsNoted r after f
noted_is r after f h = subst (λ x. IsNoted r x f) (sym h) (record { statements = refl; piece = refl; card = refl; quote = refl; begun = refl; fault = refl })

-- a card gives no more bytes than it has
either_width : (t : Bool) (j k : CardKind) (n : ℕ) → text_length j ≤ n → text_length k ≤ n → text_length (if t then j else k) ≤ n
either_width true j k n h i = h
either_width false j k n h i = i

first_width : (b : ℕ) (bs : List ℕ) → text_length (kind_by_first b bs) ≤ length (b ∷ bs)
first_width b bs =
    let n = length (b ∷ bs) in
    either_width (b == 42) Comment _ n (omega arith)
    (either_width (b == 45) _ _ n (either_width (is_known_control (b ∷ bs)) Control UnknownControl n (omega arith) (omega arith))
    (either_width (b == 43 || b == 46) (Continuation bs) (Start (b ∷ bs)) n (omega arith) (omega arith)))

pub text_width : (cols : List ℕ) → text_length (kind_of_columns cols) ≤ length cols
text_width [] = omega arith
text_width (b ∷ bs) = either_width (is_blank_text (b ∷ bs)) Comment (kind_by_first b bs) (length (b ∷ bs)) (omega arith) (first_width b bs)

pub card_width : (line cols : List ℕ) (k : CardKind) → k ≡ kind_of_columns cols → cols ≡ take 72 line → text_length k ≤ length line
card_width line cols k e c = omega (arith, ap text_length e, text_width cols, ap length c, length-take 72 line)

pub counted : (res : Result Bool AllocError) (m a b t n : ℕ) → OnOk res (m ≤ a + t + 2) → a ≡ b → t ≤ n → OnOk res (m ≤ b + n + 2)
counted (Ok x) m a b t n h e w = omega arith
counted (Err x) m a b t n h e w = tt
