-- The whole module, both ways.
use Rattle.std.proofs.Common.{◌≡◌, ℕ, ◌^◌, ◌<◌, ◌≤◌, true, List, [], ◌++◌, length, Result, Ok, Err, refl, sym, ap, subst, ◌∙◌, append_assoc, arith}
use Rattle.std.specs.Int.{Width, w16, w32}
use Rattle.std.specs.List.{AllByRecursion, flat_map}
use Rattle.std.proofs.lemmas.Bool.{eqb-true}
use Rattle.std.proofs.lemmas.List.{append-nil, nil_from_length}
use Rattle.std.specs.Prelude.{◌==◌}
use Rattle.model.specs.declared.format.Miss.{Miss}
use Rattle.model.specs.declared.format.FormatRule.{FormatRule}
use Rattle.model.specs.declared.format.FormatRule.TheVariants.{BadMagic, BadVersion, TrailingBytes}
use Rattle.model.specs.declared.format.Version.{Version}
use Rattle.model.specs.declared.format.Version.TheVariants as versions
use Rattle.model.specs.declared.image.Image.{Image}
use Rattle.model.specs.Module.Spelling.{u16, u32, magic, version_number, level_number, since_two, counted, string, label, pattern, code_bytes, spelling_in, IsImage, IsImageIn, HasLevel, IsTable, StringFits, LabelFits, StatementFits, Follow, CardFits, OffsetFits, PatternFits, InstrFits, IsOf, most_code}
use Rattle.model.specs.Module.Reading.{◌>>=◌, number_at, checked, fixed_at, level_at, table_at, string_at, label_at, statement_at, cards_at, offset_at, pattern_at, code_at, image_at, image_in}
use Rattle.model.specs.Laws.OneSpelling.{IsBytes, ReadIsSpelt, SpeltIsRead}
use Rattle.model.proofs.Module.SpeltNumbers.{ok_bind, ok_is, checked_ok, required_ok, Takes, Takes-then, IsWide, wide16, wide32, number_takes, number_again, u32_takes, u32_again}
use Rattle.model.proofs.Module.SpeltTables.{table_takes, table_again}
use Rattle.model.proofs.Module.SpeltFields.{string_entry, label_entry, statement_entry, offset_entry, pattern_entry, level_takes, level_again, cards_take, cards_again, code_at_takes, code_at_again}

fixed_takes : (w : Width) (limit : ℕ) (spell : ℕ → List ℕ) (wide : IsWide w limit spell) (k : ℕ) (rule : FormatRule) (bytes rest : List ℕ) → IsBytes bytes → fixed_at w k rule bytes ≡ Ok rest → Takes bytes (spell k) rest
unfolding fixed_at number_at
fixed_takes w limit spell wide k rule bytes rest fits e =
    let a = ok_bind (number_at w bytes) (λ n. checked (n.0 == k) rule bytes n.1) rest e in
    let g = checked_ok (a.0.0 == k) rule bytes a.0.1 rest a.2 in
    let t = number_takes w limit spell wide bytes a.0 fits (required_ok _ a.0 a.1) in
    let same : a.0.0 ≡ k = eqb-true _ _ g.0 in
    let P : ℕ → List ℕ → Type 0 = λ n r. Takes bytes (spell n) r in
    subst (λ (n : ℕ). Takes bytes (spell n) rest) same (subst (λ (r : List ℕ). Takes bytes (spell a.0.0) r) g.1 t.0)

fixed_again : (w : Width) (limit : ℕ) (spell : ℕ → List ℕ) (wide : IsWide w limit spell) (k : ℕ) (rule : FormatRule) (rest : List ℕ) → k < limit → (k == k) ≡ true → fixed_at w k rule (spell k ++ rest) ≡ Ok rest
unfolding fixed_at number_at
fixed_again w limit spell wide k rule rest lt same = rw (number_again w limit spell wide k rest lt, same) refl

-- what stands behind each field, from the last one on
abbrev IsRead : Version → List ℕ → Image × List ℕ → Type 0
IsRead v bytes x = Takes bytes (spelling_in v x.0) x.1 × IsImageIn v x.0

-- a field that was read, and what holds of it
field : {A B : Type 0} (r : Result A Miss) (f : A → Result B Miss) (y : B) (T : A → Type 0) (G : Type 0) → (r >>= f) ≡ Ok y → ((x : A) → r ≡ Ok x → T x) → ((x : A) → T x → f x ≡ Ok y → G) → G
field (Ok x) f y T G e law go = go x (law x refl) e
field (Err d) f y T G e law go = absurd cc

image_takes : (v : Version) (bytes : List ℕ) (x : Image × List ℕ) → IsBytes bytes → image_at v bytes ≡ Ok x → IsRead v bytes x
unfolding image_at
image_takes v bytes x fits e =
    field (fixed_at w32 magic BadMagic bytes) _ x (λ a. Takes bytes (u32 magic) a) (IsRead v bytes x) e (λ a h. fixed_takes w32 (2 ^ 32) u32 wide32 magic BadMagic bytes a fits h) (λ a ta e1.
    field (fixed_at w16 (version_number v) BadVersion a) _ x (λ b. Takes a (u16 (version_number v)) b) (IsRead v bytes x) e1 (λ b h. fixed_takes w16 (2 ^ 16) u16 wide16 (version_number v) BadVersion a b ta.rest_fits h) (λ b tb e2.
    field (level_at v b) _ x (λ y. Takes b (since_two v (u16 (level_number y.0))) y.1 × HasLevel v y.0) (IsRead v bytes x) e2 (λ y h. level_takes v b y tb.rest_fits h) (λ le tle e3.
    field (number_at w32 le.1) _ x (λ n. Takes le.1 (u32 n.0) n.1 × (n.0 < 2 ^ 32)) (IsRead v bytes x) e3 (λ n h. u32_takes le.1 n tle.0.rest_fits h) (λ n tn e4.
    field (table_at string_at n.1) _ x (λ y. Takes n.1 (counted string y.0) y.1 × IsTable StringFits y.0) (IsRead v bytes x) e4 (λ y h. table_takes string_at string StringFits string_entry n.1 y tn.0.rest_fits h) (λ s ts e5.
    field (table_at label_at s.1) _ x (λ y. Takes s.1 (counted label y.0) y.1 × IsTable LabelFits y.0) (IsRead v bytes x) e5 (λ y h. table_takes label_at label LabelFits label_entry s.1 y ts.0.rest_fits h) (λ l tl e6.
    field (table_at statement_at l.1) _ x (λ y. Takes l.1 (counted u32 y.0) y.1 × IsTable StatementFits y.0) (IsRead v bytes x) e6 (λ y h. table_takes statement_at u32 StatementFits statement_entry l.1 y tl.0.rest_fits h) (λ st tst e7.
    field (cards_at v le.0 (length st.0) st.1) _ x (λ y. Takes st.1 (since_two v (flat_map u32 y.0)) y.1 × (length y.0 ≡ length st.0) × Follow (CardFits le.0) [] y.0) (IsRead v bytes x) e7
    (λ y h. cards_take v le.0 (length st.0) st.1 y tle.1 tst.0.rest_fits h) (λ ca tca e8.
    field (table_at offset_at ca.1) _ x (λ y. Takes ca.1 (counted u32 y.0) y.1 × IsTable OffsetFits y.0) (IsRead v bytes x) e8 (λ y h. table_takes offset_at u32 OffsetFits offset_entry ca.1 y tca.0.rest_fits h) (λ ex tex e9.
    field (table_at pattern_at ex.1) _ x (λ y. Takes ex.1 (counted pattern y.0) y.1 × IsTable PatternFits y.0) (IsRead v bytes x) e9 (λ y h. table_takes pattern_at pattern PatternFits pattern_entry ex.1 y tex.0.rest_fits h) (λ p tp e10.
    field (code_at le.0 p.1) _ x (λ y. Takes p.1 (string (code_bytes y.0)) y.1 × AllByRecursion InstrFits y.0 × AllByRecursion (IsOf le.0) y.0 × (length (code_bytes y.0) ≤ most_code)) (IsRead v bytes x) e10
    (λ y h. code_at_takes le.0 p.1 y tp.0.rest_fits h) (λ c tc e11.
    let m : Image = record { level = le.0; entry = n.0; strings = s.0; labels = l.0; statements = st.0; cards = ca.0; expressions = ex.0; patterns = p.0; code = c.0 } in
    let image : IsImage m = record { entry = tn.1; strings = ts.1; labels = tl.1; statements = tst.1; cards = record { count = tca.1; entries = tca.2 }; expressions = tex.1; patterns = tp.1; code = tc.1; code_length = tc.3; level = tc.2 } in
    let fine : IsImageIn v m = record { image = image; level = tle.1 } in
    let q : Takes bytes (spelling_in v m) c.1 =
    Takes-then bytes (u32 magic) a _ c.1 ta (Takes-then a (u16 (version_number v)) b _ c.1 tb (Takes-then b (since_two v (u16 (level_number le.0))) le.1 _ c.1 tle.0 (Takes-then le.1 (u32 n.0) n.1 _ c.1 tn.0
    (Takes-then n.1 (counted string s.0) s.1 _ c.1 ts.0 (Takes-then s.1 (counted label l.0) l.1 _ c.1 tl.0 (Takes-then l.1 (counted u32 st.0) st.1 _ c.1 tst.0
    (Takes-then st.1 (since_two v (flat_map u32 ca.0)) ca.1 _ c.1 tca.0
    (Takes-then ca.1 (counted u32 ex.0) ex.1 _ c.1 tex.0 (Takes-then ex.1 (counted pattern p.0) p.1 _ c.1 tp.0 tc.0))))))))) in
    subst (IsRead v bytes) (ok_is (m, c.1) x e11) (q, fine))))))))))))

-- a field that is read as Ok, and what is read after it
then_ok : {A B : Type 0} (r : Result A Miss) (x : A) (f : A → Result B Miss) (y : Result B Miss) → r ≡ Ok x → f x ≡ y → (r >>= f) ≡ y
then_ok r x f y e h = rw e h

small_version : (v : Version) → (version_number v < 2 ^ 16) × ((version_number v == version_number v) ≡ true)
small_version versions.One = (omega arith, refl)
small_version versions.Two = (omega arith, refl)

image_again : (v : Version) (m : Image) (rest : List ℕ) → IsImageIn v m → image_at v (spelling_in v m ++ rest) ≡ Ok (m, rest)
unfolding image_at
image_again v m rest fine =
    let is = fine.image in
    let small = small_version v in
    let b10 : List ℕ = string (code_bytes m.code) ++ rest in
    let b9 : List ℕ = counted pattern m.patterns ++ b10 in
    let b8 : List ℕ = counted u32 m.expressions ++ b9 in
    let b7 : List ℕ = since_two v (flat_map u32 m.cards) ++ b8 in
    let b6 : List ℕ = counted u32 m.statements ++ b7 in
    let b5 : List ℕ = counted label m.labels ++ b6 in
    let b4 : List ℕ = counted string m.strings ++ b5 in
    let b3 : List ℕ = u32 m.entry ++ b4 in
    let b2 : List ℕ = since_two v (u16 (level_number m.level)) ++ b3 in
    let b1 : List ℕ = u16 (version_number v) ++ b2 in
    let regrouped : spelling_in v m ++ rest ≡ u32 magic ++ b1 = simp append_assoc in
    ap (image_at v) regrouped
    ∙ then_ok _ _ _ _ (fixed_again w32 (2 ^ 32) u32 wide32 magic BadMagic b1 (omega arith) refl)
    (then_ok _ _ _ _ (fixed_again w16 (2 ^ 16) u16 wide16 (version_number v) BadVersion b2 small.0 small.1)
    (then_ok _ _ _ _ (level_again v m.level b3 fine.level)
    (then_ok _ _ _ _ (u32_again m.entry b4 is.entry)
    (then_ok _ _ _ _ (table_again string_at string StringFits string_entry m.strings b5 is.strings)
    (then_ok _ _ _ _ (table_again label_at label LabelFits label_entry m.labels b6 is.labels)
    (then_ok _ _ _ _ (table_again statement_at u32 StatementFits statement_entry m.statements b7 is.statements)
    (then_ok _ _ _ _ (cards_again v m.level m.statements m.cards b8 fine.level is.cards)
    (then_ok _ _ _ _ (table_again offset_at u32 OffsetFits offset_entry m.expressions b9 is.expressions)
    (then_ok _ _ _ _ (table_again pattern_at pattern PatternFits pattern_entry m.patterns b10 is.patterns)
    (then_ok _ _ _ _ (code_at_again m.level m.code rest is.code is.level is.code_length) refl))))))))))

pub read_is_spelt : ReadIsSpelt
unfolding image_in
read_is_spelt v bytes m fits e =
    let a = ok_bind (image_at v bytes) (λ x. checked (length x.1 == 0) TrailingBytes x.1 x.0) m e in
    let g = checked_ok (length a.0.1 == 0) TrailingBytes a.0.1 a.0.0 m a.2 in
    let t = image_takes v bytes a.0 fits a.1 in
    let nothing : a.0.1 ≡ [] = nil_from_length a.0.1 (eqb-true _ _ g.0) in
    let whole : bytes ≡ spelling_in v a.0.0 = t.0.parts ∙ ap (λ (r : List ℕ). spelling_in v a.0.0 ++ r) nothing ∙ append-nil (spelling_in v a.0.0) in
    let P : Image → Type 0 = λ y. IsImageIn v y × (bytes ≡ spelling_in v y) in
    subst P g.1 (t.1, whole)

pub spelt_is_read : SpeltIsRead
unfolding image_in
spelt_is_read v m is =
    let e : image_at v (spelling_in v m) ≡ Ok (m, []) = ap (image_at v) (sym (append-nil (spelling_in v m))) ∙ image_again v m [] is in
    rw e refl
