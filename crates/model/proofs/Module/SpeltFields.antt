-- The code, and the entries of each table.
use Rattle.std.proofs.Common.{◌≡◌, ℕ, zero, suc, ◌^◌, ◌<◌, ◌≤◌, Bool, true, false, ltb, List, [], ◌∷◌, ◌++◌, length, take, drop, Option, Some, None, Result, Ok, Err, refl, sym, ap, subst, ◌∙◌, append_assoc, arith, inl, inr}
use Rattle.std.specs.Prelude.{slice_get, option_map, replicate, if◌then◌else◌, ◌==◌}
use Rattle.std.specs.List.{AllByRecursion}
use Rattle.std.specs.Int.{w16, w32}
use Rattle.std.proofs.lemmas.Bool.{cases_Bool, eqb-true, ltb-false, le-ltb}
use Rattle.std.proofs.lemmas.List.{append-nil, take_at, drop_at, take-append-drop, length-append, length-take, length-replicate}
use Rattle.std.specs.List.{flat_map}
use Rattle.std.proofs.lemmas.List.Concat.{flat_map-cons}
use Rattle.model.specs.declared.format.Miss.{Miss}
use Rattle.model.specs.declared.format.FormatRule.TheVariants.{BadVersion, Truncated, BadTable, UnknownInstruction}
use Rattle.model.specs.declared.format.Version.{Version}
use Rattle.model.specs.declared.format.Version.TheVariants as versions
use Rattle.model.specs.declared.image.PatInstr.{PatInstr}
use Rattle.model.specs.declared.image.Label.{Label}
use Rattle.model.specs.declared.image.Level.{Level}
use Rattle.model.specs.declared.image.Level.TheVariants as levels
use Rattle.model.specs.declared.instr.Instr.{Instr}
use Rattle.model.specs.Module.Spelling.{u16, u32, level_number, since_two, Follow, CardFits, AreCards, is_card, is_of, IsOf, HasLevel, most_code, string, label, pattern, instr, pat_instr, pat_operand, code_bytes, is_new, newest, rises, statement_of, InstrFits, StringFits, LabelFits, StatementFits, OffsetFits, PatInstrFits, PatternFits}
use Rattle.model.specs.Module.Reading.{◌>>=◌, number_at, level_of, level_at, card_at, cards_at, known_of, entries_from, bytes_at, checked, required, byte, either, instr_of, pat_readers, operand_at, count_at, text_at, string_at, label_at, labelled, statement_at, offset_at, pat_instr_at, pattern_at, code_from, code_at}
use Rattle.model.specs.Laws.OneSpelling.{IsBytes}
use Rattle.model.proofs.Module.SpeltNumbers.{some_bind, ok_bind, ok_is, wide16, number_takes, number_again, checked_ok, required_ok, guard_ok, Takes, Takes-then, IsBytes-drop, IsBytes-take, u32_takes, u32_again, byte_takes}
use Rattle.model.proofs.Module.SpeltInstrs.{instr_takes, instr_again, operand_takes, operand_again}
use Rattle.model.proofs.Module.SpeltTables.{IsEntry, count_takes, count_again, entries_take, entries_again, table_takes, table_again}

pub bytes_take : (n : ℕ) (bytes : List ℕ) (x : List ℕ × List ℕ) → IsBytes bytes → bytes_at n bytes ≡ Ok x → Takes bytes x.0 x.1 × (length x.0 ≡ n) × IsBytes x.0
bytes_take n bytes x fits e =
    let g = guard_ok (ltb (length bytes) n) (record { left = 0; rule = Truncated }) (take n bytes, drop n bytes) x e in
    let long : n ≤ length bytes = ltb-false _ _ g.0 in
    let len : length (take n bytes) ≡ n = omega (arith, length-take n bytes) in
    let P : List ℕ × List ℕ → Type 0 = λ y. Takes bytes y.0 y.1 × (length y.0 ≡ n) × IsBytes y.0 in
    subst P g.1 (record { parts = sym (take-append-drop n bytes); rest_fits = IsBytes-drop n bytes fits }, len, IsBytes-take n bytes fits)

pub bytes_again : (text rest : List ℕ) → bytes_at (length text) (text ++ rest) ≡ Ok (text, rest)
bytes_again text rest =
    let long : ltb (length (text ++ rest)) (length text) ≡ false = le-ltb _ _ (omega (arith, length-append text rest)) in
    rw (long, take_at text rest (length text) refl, drop_at text rest (length text) refl) refl

-- ---- entries

pub string_entry : IsEntry string_at string StringFits
unfolding string_at text_at
string_entry = record {
  takes = λ front bytes x fits e.
      let c = ok_bind (text_at bytes) (λ s. checked (is_new front s.0) BadTable bytes s) x e in
      let a = ok_bind (number_at w32 bytes) (λ n. bytes_at n.0 n.1) c.0 c.1 in
      let g = checked_ok (is_new front c.0.0) BadTable bytes c.0 x c.2 in
      let t = u32_takes bytes a.0 fits a.1 in
      let u = bytes_take a.0.0 a.0.1 c.0 t.0.rest_fits a.2 in
      let both = Takes-then bytes (u32 a.0.0) a.0.1 c.0.0 c.0.1 t.0 u.0 in
      let whole : Takes bytes (string c.0.0) c.0.1 = rw u.1 both in
      let small : length c.0.0 < 2 ^ 32 = omega (arith, u.1, t.1) in
      let P : List ℕ × List ℕ → Type 0 = λ y. Takes bytes (string y.0) y.1 × StringFits front y.0 in
      subst P g.1 (whole, (small, g.0));
  again = λ front s rest h.
      ap (string_at front) (append_assoc (u32 (length s)) s rest) ∙ rw (u32_again (length s) (s ++ rest) h.0, bytes_again s rest, h.1) refl;
}

pub label_entry : IsEntry label_at label LabelFits
unfolding label_at
label_entry = record {
  takes = λ front bytes x fits e.
      let a = ok_bind (number_at w32 bytes) (λ s. number_at w32 s.1 >>= λ k. checked (rises (option_map statement_of (newest front)) k.0) BadTable bytes (labelled s.0 k.0, k.1)) x e in
      let b = ok_bind (number_at w32 a.0.1) (λ k. checked (rises (option_map statement_of (newest front)) k.0) BadTable bytes (labelled a.0.0 k.0, k.1)) x a.2 in
      let g = checked_ok (rises (option_map statement_of (newest front)) b.0.0) BadTable bytes (labelled a.0.0 b.0.0, b.0.1) x b.2 in
      let t = u32_takes bytes a.0 fits a.1 in
      let u = u32_takes a.0.1 b.0 t.0.rest_fits b.1 in
      let both = Takes-then bytes (u32 a.0.0) a.0.1 (u32 b.0.0) b.0.1 t.0 u.0 in
      let P : Label × List ℕ → Type 0 = λ y. Takes bytes (label y.0) y.1 × LabelFits front y.0 in
      subst P g.1 (both, (t.1, u.1, g.0));
  again = λ front l rest h.
      ap (label_at front) (append_assoc (u32 l.string) (u32 l.statement) rest) ∙ rw (u32_again l.string (u32 l.statement ++ rest) h.0, u32_again l.statement rest h.1, h.2) refl;
}

pub statement_entry : IsEntry statement_at u32 StatementFits
unfolding statement_at
statement_entry = record {
  takes = λ front bytes x fits e.
      let a = ok_bind (number_at w32 bytes) (λ n. checked (rises (newest front) n.0) BadTable bytes n) x e in
      let g = checked_ok (rises (newest front) a.0.0) BadTable bytes a.0 x a.2 in
      let t = u32_takes bytes a.0 fits a.1 in
      let P : ℕ × List ℕ → Type 0 = λ y. Takes bytes (u32 y.0) y.1 × StatementFits front y.0 in
      subst P g.1 (t.0, (t.1, g.0));
  again = λ front n rest h. rw (u32_again n rest h.0, h.1) refl;
}

pub card_entry : (l : Level) → IsEntry (card_at l) u32 (CardFits l)
unfolding card_at
card_entry l = record {
  takes = λ front bytes x fits e.
      let a = ok_bind (number_at w32 bytes) (λ n. checked (is_card l front n.0) BadTable bytes n) x e in
      let g = checked_ok (is_card l front a.0.0) BadTable bytes a.0 x a.2 in
      let t = u32_takes bytes a.0 fits a.1 in
      let P : ℕ × List ℕ → Type 0 = λ y. Takes bytes (u32 y.0) y.1 × CardFits l front y.0 in
      subst P g.1 (t.0, (t.1, g.0));
  again = λ front n rest h. rw (u32_again n rest h.0, h.1) refl;
}

pub offset_entry : IsEntry offset_at u32 OffsetFits
unfolding offset_at
offset_entry = record {
  takes = λ front bytes x fits e. u32_takes bytes x fits e;
  again = λ front n rest h. u32_again n rest h;
}

operand_ok : (bytes : List ℕ) (o : Option (List ℕ → Option (PatInstr × List ℕ))) (rest : List ℕ) (x : PatInstr × List ℕ) → operand_at bytes o rest ≡ Ok x → (r : List ℕ → Option (PatInstr × List ℕ)) × (o ≡ Some r) × (r rest ≡ Some x)
operand_ok bytes None rest x e = absurd cc
operand_ok bytes (Some r) rest x e = (r, refl, required_ok (r rest) x e)

pub pat_instr_entry : IsEntry pat_instr_at pat_instr PatInstrFits
unfolding pat_instr_at
pat_instr_entry = record {
  takes = λ front bytes x fits e.
      let a = ok_bind (required (byte bytes)) (λ b. operand_at bytes (slice_get pat_readers b.0) b.1) x e in
      let b = operand_ok bytes (slice_get pat_readers a.0.0) a.0.1 x a.2 in
      let t = byte_takes bytes a.0 fits (required_ok (byte bytes) a.0 a.1) in
      let u = operand_takes a.0.0 b.0 a.0.1 x b.1 t.0.rest_fits b.2 in
      (rw u.1 (Takes-then bytes (a.0.0 ∷ []) a.0.1 (pat_operand x.0) x.1 t.0 u.0), u.2);
  again = λ front i rest h.
      let r = operand_again i rest h in
      rw (r.1, r.2) refl;
}

pub pattern_entry : IsEntry pattern_at pattern PatternFits
unfolding pattern_at
pattern_entry = record {
  takes = λ front bytes x fits e. table_takes pat_instr_at pat_instr PatInstrFits pat_instr_entry bytes x fits e;
  again = λ front is rest h. table_again pat_instr_at pat_instr PatInstrFits pat_instr_entry is rest h;
}

either_ok : {X Y : Type 0} (o : Option X) (d : Miss) (f : X → Result Y Miss) (y : Y) → either o (Err d) f ≡ Ok y → (x : X) × (o ≡ Some x) × (f x ≡ Ok y)
either_ok None d f y e = absurd cc
either_ok (Some x) d f y e = (x, refl, e)

-- ---- the level, and the cards

level_is : (n : ℕ) (l : Level) → level_of n ≡ Some l → level_number l ≡ n
level_is n l e = elim (cases_Bool (n == 1)) [
  | inl h ↦ (let one : Some levels.One ≡ Some l = (let x : level_of n ≡ Some levels.One = rw h refl in sym x ∙ e) in sym (ap level_number (some_level levels.One l one)) ∙ sym (eqb-true _ _ h))
  | inr h ↦ elim (cases_Bool (n == 2)) [
    | inl i ↦ (let two : Some levels.Two ≡ Some l = (let x : level_of n ≡ Some levels.Two = rw (h, i) refl in sym x ∙ e) in sym (ap level_number (some_level levels.Two l two)) ∙ sym (eqb-true _ _ i))
    | inr i ↦ (let none : None ≡ Some l = (let x : level_of n ≡ None = rw (h, i) refl in sym x ∙ e) in absurd (cc))
  ]
]
  where
    some_level : (k l : Level) → Some k ≡ Some l → k ≡ l
    some_level k l e = cc

level_of_number : (l : Level) → level_of (level_number l) ≡ Some l
level_of_number levels.One = refl
level_of_number levels.Two = refl

small_level : (l : Level) → level_number l < 2 ^ 16
small_level levels.One = omega arith
small_level levels.Two = omega arith

pub level_takes : (v : Version) (bytes : List ℕ) (x : Level × List ℕ) → IsBytes bytes → level_at v bytes ≡ Ok x → Takes bytes (since_two v (u16 (level_number x.0))) x.1 × HasLevel v x.0
unfolding level_at number_at
level_takes versions.One bytes x fits e =
    let P : Level × List ℕ → Type 0 = λ y. Takes bytes [] y.1 × (y.0 ≡ levels.One) in
    subst P (ok_is (levels.One, bytes) x e) (record { parts = refl; rest_fits = fits }, refl)
level_takes versions.Two bytes x fits e =
    let a = ok_bind (number_at w16 bytes) (λ n. either (level_of n.0) (Err (record { left = length bytes; rule = BadVersion })) (λ l. Ok (l, n.1))) x e in
    let b = either_ok (level_of a.0.0) (record { left = length bytes; rule = BadVersion }) (λ l. Ok (l, a.0.1)) x a.2 in
    let t = number_takes w16 (2 ^ 16) u16 wide16 bytes a.0 fits (required_ok _ a.0 a.1) in
    let same : a.0.0 ≡ level_number b.0 = sym (level_is a.0.0 b.0 b.1) in
    let P : Level × List ℕ → Type 0 = λ y. Takes bytes (u16 (level_number y.0)) y.1 × Unit {0} in
    subst P (ok_is (b.0, a.0.1) x b.2) (subst (λ (n : ℕ). Takes bytes (u16 n) a.0.1) same t.0, tt)

pub level_again : (v : Version) (l : Level) (rest : List ℕ) → HasLevel v l → level_at v (since_two v (u16 (level_number l)) ++ rest) ≡ Ok (l, rest)
unfolding level_at number_at
level_again versions.One l rest h = ap (λ (k : Level). Ok (k, rest)) (sym h)
level_again versions.Two l rest h = rw (number_again w16 (2 ^ 16) u16 wide16 (level_number l) rest (small_level l), level_of_number l) refl

zeros_follow : (n : ℕ) (front : List ℕ) → Follow (CardFits levels.One) front (replicate n 0)
zeros_follow zero front = tt
zeros_follow (suc n) front = ((omega arith, refl), zeros_follow n (front ++ 0 ∷ []))

zeros_only : (front cards : List ℕ) → Follow (CardFits levels.One) front cards → cards ≡ replicate (length cards) 0
zeros_only front [] h = refl
zeros_only front (c ∷ cs) h =
    let here : c ≡ 0 = eqb-true _ _ h.0.1 in
    ap (λ (n : ℕ). n ∷ cs) here ∙ ap (λ (ys : List ℕ). 0 ∷ ys) (zeros_only (front ++ c ∷ []) cs h.1)

pub cards_take : (v : Version) (l : Level) (n : ℕ) (bytes : List ℕ) (x : List ℕ × List ℕ) → HasLevel v l → IsBytes bytes → cards_at v l n bytes ≡ Ok x
    → Takes bytes (since_two v (flat_map u32 x.0)) x.1 × (length x.0 ≡ n) × Follow (CardFits l) [] x.0
unfolding cards_at
cards_take versions.One l n bytes x is fits e =
    let P : List ℕ × List ℕ → Type 0 = λ y. Takes bytes [] y.1 × (length y.0 ≡ n) × Follow (CardFits l) [] y.0 in
    subst P (ok_is (replicate n 0, bytes) x e) (record { parts = refl; rest_fits = fits }, length-replicate n 0, subst (λ (k : Level). Follow (CardFits k) [] (replicate n 0)) (sym is) (zeros_follow n []))
cards_take versions.Two l n bytes x is fits e =
    let r = entries_take (card_at l) u32 (CardFits l) (card_entry l) n [] bytes x fits e in
    let P : List ℕ → Type 0 = λ ys. Takes bytes (flat_map u32 ys) x.1 × (length ys ≡ n) × Follow (CardFits l) [] ys in
    subst P (sym r.1) (r.2, r.3, r.4)

pub cards_again : (v : Version) (l : Level) (statements cards rest : List ℕ) → HasLevel v l → AreCards l statements cards → cards_at v l (length statements) (since_two v (flat_map u32 cards) ++ rest) ≡ Ok (cards, rest)
unfolding cards_at
cards_again versions.One l statements cards rest is h =
    let zeros : cards ≡ replicate (length cards) 0 = zeros_only [] cards (subst (λ (k : Level). Follow (CardFits k) [] cards) is h.entries) in
    ap (λ (ys : List ℕ). Ok (ys, rest)) (sym (zeros ∙ ap (λ (n : ℕ). replicate n 0) h.count))
cards_again versions.Two l statements cards rest is h =
    ap (λ (n : ℕ). entries_from (card_at l) [] n (flat_map u32 cards ++ rest)) (sym h.count) ∙ entries_again (card_at l) u32 (CardFits l) (card_entry l) cards [] rest h.entries

-- ---- the code

if_some : {A : Type 0} (b : Bool) (x y : A) → (if b then Some x else None) ≡ Some y → (b ≡ true) × (x ≡ y)
if_some true x y e = (refl, cc)
if_some false x y e = absurd cc

known_takes : (l : Level) (bytes : List ℕ) (x : Instr × List ℕ) → IsBytes bytes → known_of l bytes ≡ Some x → Takes bytes (instr x.0) x.1 × InstrFits x.0 × IsOf l x.0
unfolding known_of
known_takes l bytes x fits e =
    let a = some_bind (instr_of bytes) (λ i. if is_of l i.0 then Some i else None) x e in
    let k = if_some (is_of l a.0.0) a.0 x a.2 in
    let t = instr_takes bytes a.0 fits a.1 in
    subst (λ (y : Instr × List ℕ). Takes bytes (instr y.0) y.1 × InstrFits y.0 × IsOf l y.0) k.1 (t.0, t.1, k.0)

known_again : (l : Level) (i : Instr) (rest : List ℕ) → InstrFits i → IsOf l i → known_of l (instr i ++ rest) ≡ Some (i, rest)
unfolding known_of
known_again l i rest h is = rw (instr_again i rest h, is) refl

abbrev IsCode : Level → List Instr → List ℕ → List Instr → Type 0
IsCode l front bytes is = (xs : List Instr) × (is ≡ front ++ xs) × (bytes ≡ code_bytes xs) × AllByRecursion InstrFits xs × AllByRecursion (IsOf l) xs

pub code_takes : (l : Level) (n : ℕ) (front : List Instr) (behind bytes : List ℕ) (is : List Instr) → IsBytes bytes → code_from l front n behind bytes ≡ Ok is → IsCode l front bytes is
unfolding code_from
code_takes l n front behind [] is fits e = subst (IsCode l front []) (ok_is front is e) ([], sym (append-nil front), refl, tt, tt)
code_takes l zero front behind (b ∷ bytes) is fits e = absurd cc
code_takes l (suc n) front behind (b ∷ bytes) is fits e =
    let a = either_ok (known_of l (b ∷ bytes)) (record { left = length ((b ∷ bytes) ++ behind); rule = UnknownInstruction }) (λ i. code_from l (front ++ i.0 ∷ []) n behind i.1) is e in
    let t = known_takes l (b ∷ bytes) a.0 fits a.1 in
    let r = code_takes l n (front ++ a.0.0 ∷ []) behind a.0.1 is t.0.rest_fits a.2 in
    (a.0.0 ∷ r.0, r.1 ∙ append_assoc front (a.0.0 ∷ []) r.0, t.0.parts ∙ ap (λ (y : List ℕ). instr a.0.0 ++ y) r.2 ∙ sym (flat_map-cons instr a.0.0 r.0), (t.1, r.3), (t.2, r.4))

pub code_again : (l : Level) (xs front : List Instr) (n : ℕ) (behind : List ℕ) → AllByRecursion InstrFits xs → AllByRecursion (IsOf l) xs → length (code_bytes xs) ≤ n → code_from l front n behind (code_bytes xs) ≡ Ok (front ++ xs)
unfolding code_from
code_again l [] front n behind h is le = ap (λ (ys : List Instr). Ok ys) (sym (append-nil front))
code_again l (i ∷ xs) front zero behind h is le = absurd (omega (arith, length-append (instr i) (code_bytes xs), ap length (flat_map-cons instr i xs), le))
code_again l (i ∷ xs) front (suc n) behind h is le =
    let shorter : length (code_bytes xs) ≤ n = omega (arith, length-append (instr i) (code_bytes xs), ap length (flat_map-cons instr i xs), le) in
    ap (code_from l front (suc n) behind) (flat_map-cons instr i xs)
    ∙ rw (known_again l i (code_bytes xs) h.0 is.0) (code_again l xs (front ++ i ∷ []) n behind h.1 is.1 shorter ∙ ap (λ (ys : List Instr). Ok ys) (append_assoc front (i ∷ []) xs))

pub code_at_takes : (l : Level) (bytes : List ℕ) (x : List Instr × List ℕ) → IsBytes bytes → code_at l bytes ≡ Ok x
    → Takes bytes (string (code_bytes x.0)) x.1 × AllByRecursion InstrFits x.0 × AllByRecursion (IsOf l) x.0 × (length (code_bytes x.0) ≤ most_code)
unfolding code_at
code_at_takes l bytes x fits e =
    let a = ok_bind (count_at most_code bytes) (λ n. bytes_at n.0 n.1 >>= λ c. code_from l [] n.0 c.1 c.0 >>= λ is. Ok (is, c.1)) x e in
    let b = ok_bind (bytes_at a.0.0 a.0.1) (λ c. code_from l [] a.0.0 c.1 c.0 >>= λ is. Ok (is, c.1)) x a.2 in
    let c = ok_bind (code_from l [] a.0.0 b.0.1 b.0.0) (λ is. Ok (is, b.0.1)) x b.2 in
    let t = count_takes most_code bytes a.0 fits a.1 in
    let u = bytes_take a.0.0 a.0.1 b.0 t.0.rest_fits b.1 in
    let r = code_takes l a.0.0 [] b.0.1 b.0.0 c.0 u.2 c.1 in
    let same : b.0.0 ≡ code_bytes c.0 = r.2 ∙ ap code_bytes (sym r.1) in
    let len : length b.0.0 ≡ a.0.0 = u.1 in
    let both = Takes-then bytes (u32 a.0.0) a.0.1 b.0.0 b.0.1 t.0 u.0 in
    let whole : Takes bytes (string b.0.0) b.0.1 = rw len both in
    let short : length b.0.0 ≤ most_code = omega (arith, len, t.1) in
    let fine : AllByRecursion InstrFits c.0 = subst (AllByRecursion InstrFits) (sym r.1) r.3 in
    let P : List ℕ → Type 0 = λ y. Takes bytes (string y) b.0.1 × (length y ≤ most_code) in
    let q : P (code_bytes c.0) = subst P same (whole, short) in
    let of_level : AllByRecursion (IsOf l) c.0 = subst (AllByRecursion (IsOf l)) (sym r.1) r.4 in
    let Q : List Instr × List ℕ → Type 0 = λ y. Takes bytes (string (code_bytes y.0)) y.1 × AllByRecursion InstrFits y.0 × AllByRecursion (IsOf l) y.0 × (length (code_bytes y.0) ≤ most_code) in
    subst Q (ok_is (c.0, b.0.1) x c.2) (q.0, fine, of_level, q.1)

pub code_at_again : (l : Level) (is : List Instr) (rest : List ℕ) → AllByRecursion InstrFits is → AllByRecursion (IsOf l) is → length (code_bytes is) ≤ most_code → code_at l (string (code_bytes is) ++ rest) ≡ Ok (is, rest)
unfolding code_at
code_at_again l is rest h of_level le =
    let lt : length (code_bytes is) < 2 ^ 32 = omega (arith, le) in
    ap (code_at l) (append_assoc (u32 (length (code_bytes is))) (code_bytes is) rest)
    ∙ rw (count_again most_code (length (code_bytes is)) (code_bytes is ++ rest) lt le, bytes_again (code_bytes is) rest, code_again l is [] (length (code_bytes is)) rest h of_level (omega arith)) refl
