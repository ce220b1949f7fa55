-- Texts that are cut.
use Rattle.std.proofs.Common.{◌≡◌, ℕ, zero, suc, ◌+◌, ◌-◌, ◌<◌, List, [], ◌∷◌, length, take, drop, Bool, true, false, Option, Some, None, refl, sym, ap, ◌∙◌, arith, get_or}
use Rattle.std.specs.Prelude.{option_map, ◌==◌, if◌then◌else◌}
use Rattle.memchr.specs.Find.{IsFirstByte, is_byte}
use Rattle.model.specs.Deck.Trees.{Bytes}
use Rattle.model.specs.Language.Prototypes.{Cut, cut_at, split_at, begun_with}
use Rattle.std.proofs.lemmas.List.{take_rest, length-drop}

abbrev longer : ℕ → Cut → Cut
longer b c = record { before = b ∷ c.before; after = c.after }

abbrev cut_by : Bool → ℕ → Bytes → Option Cut → Option Cut
cut_by here b bs later = if here then Some (record { before = []; after = bs }) else option_map (longer b) later

not_so : (b : Bool) → ¬ (b ≡ true) → b ≡ false
not_so true h = absurd (h refl)
not_so false h = refl

next_place : (k : ℕ) → suc (k + 1) ≡ suc k + 1
next_place k = omega arith

cut_found : (mark : ℕ) (text : Bytes) (k : ℕ) → k < length text → ((j : ℕ) → j < k → ¬ ((get_or text j 0 == mark) ≡ true)) → (get_or text k 0 == mark) ≡ true → cut_at mark text ≡ Some (record { before = take k text; after = drop (k + 1) text })
cut_found mark [] k lt before at = absurd (omega arith)
cut_found mark (b ∷ bs) zero lt before at = ap (λ x. cut_by x b bs (cut_at mark bs)) at
cut_found mark (b ∷ bs) (suc k) lt before at =
    ap (λ x. cut_by x b bs (cut_at mark bs)) (not_so (b == mark) (before 0 (omega arith)))
    ∙ ap (option_map (longer b)) (cut_found mark bs k (omega arith) (λ j l. before (suc j) (omega arith)) at)
    ∙ ap (λ n. Some (record { before = b ∷ take k bs; after = drop n (b ∷ bs) })) (next_place k)

not_found : (mark : ℕ) (text : Bytes) → ((j : ℕ) → j < length text → ¬ ((get_or text j 0 == mark) ≡ true)) → cut_at mark text ≡ None
not_found mark [] before = refl
not_found mark (b ∷ bs) before =
    ap (λ x. cut_by x b bs (cut_at mark bs)) (not_so (b == mark) (before 0 (omega arith)))
    ∙ ap (option_map (longer b)) (not_found mark bs (λ j l. before (suc j) (omega arith)))

-- a search for the byte cuts there, and the byte is gone
pub cut_where : (mark : ℕ) (text : Bytes) (k : ℕ) → IsFirstByte (is_byte mark) text (Some k)
    → (cut_at mark text ≡ Some (record { before = take k text; after = take (length text - (k + 1)) (drop (k + 1) text) })) × (length (take (length text - (k + 1)) (drop (k + 1) text)) < length text)
cut_where mark text k h =
    let n = k + 1 in
    let rest : take (length text - n) (drop n text) ≡ drop n text = take_rest text n in
    let shorter = ap length rest ∙ length-drop n text in
    let within = h.0.high in
    (cut_found mark text k within (λ j l. h.0.before j (omega arith) l) h.1 ∙ ap (λ xs. Some (record { before = take k text; after = xs })) (sym rest), omega (arith, shorter, within))

pub cut_nowhere : (mark : ℕ) (text : Bytes) → IsFirstByte (is_byte mark) text None → cut_at mark text ≡ None
cut_nowhere mark text h = not_found mark text (λ j l. h j (omega arith) l)

-- what is split, by the first cut
abbrev pub split_by : ℕ → Bytes → Option Cut → List Bytes
split_by mark text None = text ∷ []
split_by mark text (Some c) = c.before ∷ split_at mark c.after

split_step : (mark b : ℕ) (bs : Bytes) (here : Bool) (o : Option Cut) → split_at mark bs ≡ split_by mark bs o
    → (if here then [] ∷ split_at mark bs else begun_with b (split_at mark bs)) ≡ split_by mark (b ∷ bs) (cut_by here b bs o)
split_step mark b bs true o h = refl
split_step mark b bs false None h = ap (begun_with b) h
split_step mark b bs false (Some c) h = ap (begun_with b) h

pub split_first : (mark : ℕ) (text : Bytes) → split_at mark text ≡ split_by mark text (cut_at mark text)
split_first mark [] = refl
split_first mark (b ∷ bs) = split_step mark b bs (b == mark) (cut_at mark bs) (split_first mark bs)

-- a turn of a loop that splits from cut to cut
pub split_turn : (mark : ℕ) (text name after : Bytes) → cut_at mark text ≡ Some (record { before = name; after = after }) → split_at mark text ≡ name ∷ split_at mark after
split_turn mark text name after h = split_first mark text ∙ ap (split_by mark text) h

pub split_last : (mark : ℕ) (text : Bytes) → cut_at mark text ≡ None → split_at mark text ≡ text ∷ []
split_last mark text h = split_first mark text ∙ ap (split_by mark text) h
