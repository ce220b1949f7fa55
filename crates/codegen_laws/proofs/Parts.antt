-- In an image each index, name, target and offset is there.
use Rattle.std.proofs.Common.{◌≡◌, ℕ, zero, suc, ◌+◌, ◌-◌, ◌<◌, ◌≤◌, ◌==◌, List, [], ◌∷◌, ◌++◌, length, refl, sym, ap, ◌∙◌, subst, arith, true, false, not, Bool, ◌&&◌, ◌||◌, Some, None, Option, if◌then◌else◌, rules, slice_get, bytes_eq, append_assoc}
use Rattle.std.specs.Prelude.{nat_lt}
use Rattle.std.specs.List.{Contains, list_any}
use Rattle.model.specs.declared.format.ModuleFault.{ModuleFault}
use Rattle.model.specs.declared.format.ModuleRule.TheVariants.{BadIndex, BadTarget, NoEnd}
use Rattle.model.specs.declared.format.Version.TheVariants as versions
use Rattle.model.specs.declared.image.Image.{Image}
use Rattle.model.specs.declared.image.Label.{Label}
use Rattle.model.specs.declared.instr.Instr.{Instr}
use Rattle.model.specs.declared.instr.Instr.TheVariants as op
use Rattle.model.specs.Module.Flow.{Shape, bare, asked, begins_at, is_fetched, is_jump_target}
use Rattle.model.specs.Machine.Steps.{Fetched, Nowhere, At}
use Rattle.model.specs.Module.Images.{instr_size, code_size, fetch_from, module_of}
use Rattle.model.specs.Module.Placed.{CodeS}
use Rattle.model.specs.Language.Programs.{entry_label, program}
use Rattle.model.specs.Module.Spelling.{newest}
use Rattle.model.specs.Deck.Trees.{Bytes, Stmt, Plain, End}
use Rattle.model.specs.Module.WellFormed.{or_else, unless, fault_if, fault_among, entry_offset, entry_rule, labels_offset, label_rule, is_label_name, is_statement, statements_offset, statement_rule, expressions_offset, expression_rule, code_offset, instr_fault, indices_fit, place_fits, begins_last, is_last_instr, is_end_instr, is_begin, part_fault}
use Rattle.model.proofs.Module.CodeBytes.{some_bytes, total_append}
use Rattle.expr_codegen.specs.Texts.{number_of_text, with_texts}
use Rattle.codegen.specs.Layout.{label_entries, label_texts, code_of, generated_image}
use Rattle.codegen_laws.specs.Fit.{NewLabels, EndsInEnd, IsFit}
use Rattle.codegen_laws.proofs.Flows.{Fits, shape_past}
use Rattle.codegen_laws.proofs.Offsets.{get_within}
use Rattle.codegen_laws.proofs.Placing.{later_of, stmts_placed, offsets_count, entry_among}
use Rattle.codegen_laws.proofs.Shapes.{next_shape, after, shape_from, Targets, Sound, above, behind, ends_well, IsSound}
use Rattle.codegen_laws.proofs.Sounding.{is_sound, statement_there}
use Rattle.codegen_laws.proofs.Standing.{Held, AllHeld}
use Rattle.codegen_laws.proofs.TextPlaces.{all_held}

-- where nothing is reported of any part behind those before it, nothing is reported of all
scan_fine : {A : Type 0} (fault : List A → ℕ → A → Option ModuleFault) (width : A → ℕ) (whole : List A) → ((front : List A) (x : A) (rest : List A) → whole ≡ front ++ x ∷ rest → (pos : ℕ) → fault front pos x ≡ None)
    → (xs front : List A) (pos : ℕ) → whole ≡ front ++ xs → fault_among fault width front pos xs ≡ None
scan_fine fault width whole all [] front pos e = refl
scan_fine fault width whole all (x ∷ xs) front pos e =
    let a = all front x xs e pos in
    let b = scan_fine fault width whole all xs (front ++ x ∷ []) (pos + width x) (e ∙ sym (append_assoc front (x ∷ []) xs)) in
    (λ i. or_else (a i) (b i))

get_split : {A : Type 0} (front : List A) (x : A) (rest : List A) → slice_get (front ++ x ∷ rest) (length front) ≡ Some x
get_split [] x rest = refl
get_split (y ∷ front) x rest = get_split front x rest

contains_split : (front : List ℕ) (x : ℕ) (rest : List ℕ) → Contains (front ++ x ∷ rest) x
contains_split [] x rest = (0, omega arith, refl)
contains_split (y ∷ front) x rest = let (k, less, e) = contains_split front x rest in (suc k, omega (arith, less), e)

-- ---- shapes and instructions

-- an instruction stands where a shape is
shape_fetched : (p : ℕ) (s : Shape) (is : List Instr) (at : ℕ) (t : Shape) → shape_from p s is at ≡ Some t → is_fetched (fetch_from p is at) ≡ true
shape_fetched p s [] at t h = absurd (cc)
shape_fetched p s (i ∷ is) at t h = elim (p == at) as (λ b. (if b then Some s else shape_from (p + instr_size i) (next_shape i s) is at) ≡ Some t → is_fetched (if b then At i (p + instr_size i) else fetch_from (p + instr_size i) is at) ≡ true) [
  | true ↦ λ e. refl
  | false ↦ λ e. shape_fetched (p + instr_size i) (next_shape i s) is at t e
] h

sound_split : (F : Instr → Type 0) (os : List ℕ) (p : ℕ) (s : Shape) (front rest : List Instr) → Sound F os p s (front ++ rest) → Sound F os (p + code_size front) (after front s) rest
sound_split F os p s [] rest h = subst (λ n. Sound F os n s rest) (let e : p ≡ p + 0 = omega arith in e) h
sound_split F os p s (x ∷ front) rest (f, a, t, h) = subst (λ n. Sound F os n (after front (next_shape x s)) rest) (let e : p + instr_size x + code_size front ≡ p + (instr_size x + code_size front) = omega arith in e)
    (sound_split F os (p + instr_size x) (next_shape x s) front rest h)

fetch_split : (front : List Instr) (i : Instr) (rest : List Instr) (p at : ℕ) → p + code_size front ≡ at → fetch_from p (front ++ i ∷ rest) at ≡ At i (at + instr_size i)
fetch_split [] i rest p at e = let same : p ≡ at = omega (arith, e) in let h : (p == at) ≡ true = grind (arith, same) in rw h (ap (λ n. At i (n + instr_size i)) same)
fetch_split (x ∷ front) i rest p at e =
    let y = some_bytes x in
    let h : (p == at) ≡ false = grind (arith, e, y) in
    rw h (fetch_split front i rest (p + instr_size x) at (omega (arith, e)))

ends_split : (front : List Instr) (i : Instr) → ends_well (front ++ i ∷ []) ≡ is_last_instr i
ends_split [] i = refl
ends_split (x ∷ []) i = refl
ends_split (x ∷ y ∷ front) i = ends_split (y ∷ front) i

-- ---- instructions

-- a target stands in the image
target_there : (im : Image) (front : List Instr) (i : Instr) (rest : List Instr) (f : ℕ) (t : Shape) → im.code ≡ front ++ i ∷ rest
    → shape_from (code_size front + instr_size i) (next_shape i (after front bare)) rest f ≡ Some t → is_jump_target im (code_size front) f ≡ true
target_there im front i rest f t e h =
    let up = above (code_size front + instr_size i) (next_shape i (after front bare)) rest f t h in
    let y = some_bytes i in
    let less : nat_lt (code_size front) f ≡ true = grind (arith, up, y) in
    let here : shape_from (0 + code_size front) (after front bare) (i ∷ rest) f ≡ Some t = subst (λ n. shape_from n (after front bare) (i ∷ rest) f ≡ Some t) (let z : code_size front ≡ 0 + code_size front = omega arith in z) (behind (code_size front) (after front bare) i rest f t h) in
    let whole : shape_from 0 bare (front ++ i ∷ rest) f ≡ Some t = shape_past 0 bare front (i ∷ rest) f (omega (arith, up)) ∙ here in
    let there : begins_at im f ≡ true = subst (λ is. is_fetched (fetch_from 0 is f) ≡ true) (sym e) (shape_fetched 0 bare (front ++ i ∷ rest) f t whole) in
    rw (less, there) refl

place_there : (im : Image) (front : List Instr) (i : Instr) (rest : List Instr) → im.code ≡ front ++ i ∷ rest → Targets im.statements i (code_size front) (after front bare) rest → place_fits im (code_size front) i ≡ true
place_there im front (op.Begin f) rest e (t, o) = let h = target_there im front (op.Begin f) rest f bare e t in rw (h, o) refl
place_there im front (op.Try f) rest e t = target_there im front (op.Try f) rest f (after front bare) e t
place_there im front _ rest e t = refl

goes_on : (im : Image) (front : List Instr) (i : Instr) (rest : List Instr) → im.code ≡ front ++ i ∷ rest → ends_well im.code ≡ true → (is_last_instr i || not (code_size front + instr_size i == code_size im.code)) ≡ true
goes_on im front i [] e w = let h : is_last_instr i ≡ true = sym (ends_split front i) ∙ (λ k. ends_well (sym e k)) ∙ w in rw h refl
goes_on im front i (j ∷ rest) e w =
    let y = some_bytes j in
    let t = total_append front (i ∷ j ∷ rest) in
    let same : code_size im.code ≡ code_size (front ++ i ∷ j ∷ rest) = ap code_size e in
    let h : (code_size front + instr_size i == code_size im.code) ≡ false = grind (arith, y, t, same) in
    rw h (elim (is_last_instr i) as (λ b. b || true ≡ true) [ true ↦ refl | false ↦ refl ])

fetched : Fetched → Instr
fetched Nowhere = op.End
fetched (At i next) = i

only_end : (im : Image) (front : List Instr) (i : Instr) (rest : List Instr) (last end : ℕ) → im.code ≡ front ++ i ∷ rest → newest im.statements ≡ Some last → fetch_from 0 im.code last ≡ At op.End end
    → (is_end_instr i || not (begins_last im (code_size front))) ≡ true
unfolding fetched
only_end im front i rest last end e n f = rw n (elim (last == code_size front) as (λ b. (last == code_size front) ≡ b → (is_end_instr i || not b) ≡ true) [
  | true ↦ λ h.
      let same : last ≡ code_size front = grind (arith, h) in
      let here : fetch_from 0 im.code last ≡ At i (last + instr_size i) = ap (λ is. fetch_from 0 is last) e ∙ fetch_split front i rest 0 last (omega (arith, same)) in
      let is : op.End ≡ i = ap fetched (sym f ∙ here) in
      subst (λ j. (is_end_instr j || false) ≡ true) is refl
  | false ↦ λ h. elim (is_end_instr i) as (λ b. b || true ≡ true) [ true ↦ refl | false ↦ refl ]
] refl)

nothing_told : (pos : ℕ) (a b c d : Bool) → a ≡ true → b ≡ true → c ≡ true → d ≡ true → fault_if pos (or_else (unless BadIndex a) (or_else (unless BadTarget (b && c)) (unless NoEnd d))) ≡ None
nothing_told pos a b c d w x y z = rw (w, x, y, z) refl

code_fine : (im : Image) → IsSound (Fits im) im → (last end : ℕ) → newest im.statements ≡ Some last → fetch_from 0 im.code last ≡ At op.End end → (pos : ℕ) → fault_among (instr_fault im) instr_size [] pos im.code ≡ None
code_fine im is last end n f pos = scan_fine (instr_fault im) instr_size im.code
    (λ front i rest e at.
    let here = sound_split (Fits im) im.statements 0 bare front (i ∷ rest) (subst (λ is. Sound (Fits im) im.statements 0 bare is) e is.sound) in
    let targets : Targets im.statements i (code_size front) (after front bare) rest = subst (λ n. Targets im.statements i n (after front bare) rest) (let z : 0 + code_size front ≡ code_size front = omega arith in z) here.2 in
    nothing_told at (indices_fit im i) (place_fits im (code_size front) i) _ _ here.0.0 (place_there im front i rest e targets) (goes_on im front i rest e is.ends) (only_end im front i rest last end e n f))
    im.code [] pos refl

-- ---- labels

-- these have the places of those texts
abbrev Are : List Bytes → List Label → List Bytes → Type 0
Are texts [] [] = Unit {0}
Are texts [] (m ∷ ms) = ⊥
Are texts (e ∷ es) [] = ⊥
Are texts (e ∷ es) (m ∷ ms) = (e.string ≡ number_of_text m texts) × Held texts m × Are texts es ms

are_more : (texts : List Bytes) (es : List Label) (ms : List Bytes) (e : Label) (m : Bytes) → Are texts es ms → e.string ≡ number_of_text m texts → Held texts m → Are texts (es ++ e ∷ []) (ms ++ m ∷ [])
are_more texts [] [] e m a p h = (p, h, tt)
are_more texts [] (x ∷ ms) e m a p h = absurd a
are_more texts (y ∷ es) [] e m a p h = absurd a
are_more texts (y ∷ es) (x ∷ ms) e m (b, c, a) p h = (b, c, are_more texts es ms e m a p h)

-- a text that differs from those has another place
other_place : (texts : List Bytes) (es : List Label) (ms : List Bytes) (l : Bytes) → Are texts es ms → Held texts l → list_any (λ m. bytes_eq m l) ms ≡ false → list_any (λ e. e.string == number_of_text l texts) es ≡ false
other_place texts [] [] l a h n = refl
other_place texts [] (m ∷ ms) l a h n = absurd a
other_place texts (e ∷ es) [] l a h n = absurd a
other_place texts (e ∷ es) (m ∷ ms) l (p, g, a) h n =
    elim (bytes_eq m l) as (λ b. bytes_eq m l ≡ b → b || list_any (λ m. bytes_eq m l) ms ≡ false → ((e.string == number_of_text l texts) || list_any (λ e. e.string == number_of_text l texts) es) ≡ false) [
      | true ↦ λ d r. absurd (cc)
      | false ↦ λ d r. elim (e.string == number_of_text l texts) as (λ b. (e.string == number_of_text l texts) ≡ b → (b || list_any (λ e. e.string == number_of_text l texts) es) ≡ false) [
        | true ↦ λ f.
            let same : e.string ≡ number_of_text l texts = grind (arith, f) in
            let both : Some m ≡ Some l = sym g ∙ ap (slice_get texts) (sym p ∙ same) ∙ h in
            let is : m ≡ l = cc in
            let eq : bytes_eq l l ≡ true = search rules in
            absurd (let x : bytes_eq l l ≡ false = subst (λ y. bytes_eq y l ≡ false) is d in cc)
        | false ↦ λ f. other_place texts es ms l a h r
      ] refl
    ] refl n

labels_fine : (im : Image) (n : ℕ) (ss : List Stmt) → ((i : ℕ) → n ≤ i → i < n + length ss → is_statement im i ≡ true) → AllHeld im.strings (label_texts ss)
    → (front : List Label) (fronts : List Bytes) → Are im.strings front fronts → NewLabels fronts (label_texts ss) → (pos : ℕ)
    → fault_among (λ front at l. fault_if at (label_rule im front l)) (λ l. 8) front pos (label_entries im.strings n ss) ≡ None
labels_fine im n [] t held front fronts a new pos = refl
labels_fine im n (End e ∷ ss) t held front fronts a new pos = labels_fine im (suc n) ss (λ i x y. t i (omega (arith, x)) (omega (arith, y))) held front fronts a new pos
labels_fine im n (Plain None b g ∷ ss) t held front fronts a new pos = labels_fine im (suc n) ss (λ i x y. t i (omega (arith, x)) (omega (arith, y))) held front fronts a new pos
labels_fine im n (Plain (Some l) b g ∷ ss) t (h, held) front fronts a (name, once, new) pos =
    let here : Label = record { string = number_of_text l im.strings; statement = n } in
    let known : is_label_name (slice_get im.strings (number_of_text l im.strings)) ≡ true = ap is_label_name h ∙ name in
    let number : is_statement im n ≡ true = t n (omega arith) (omega arith) in
    let other : list_any (λ e. e.string == number_of_text l im.strings) front ≡ false = other_place im.strings front fronts l a h once in
    let fine : label_rule im front here ≡ None = rw (known, number, other) refl in
    let more = labels_fine im (suc n) ss (λ i x y. t i (omega (arith, x)) (omega (arith, y))) held (front ++ here ∷ []) (fronts ++ l ∷ []) (are_more im.strings front fronts here l a refl h) new (pos + 8) in
    (λ i. or_else (fault_if pos (fine i)) (more i))

-- ---- the image

end_only : (ss : List Stmt) → EndsInEnd ss → (j : ℕ) (e : Option Bytes) → slice_get ss j ≡ Some (End e) → suc j ≡ length ss
end_only [] ends j e h = absurd ends
end_only (End x ∷ []) ends zero e h = refl
end_only (End x ∷ []) ends (suc j) e h = absurd (cc)
end_only (End x ∷ s ∷ ss) ends j e h = absurd ends
end_only (Plain l b g ∷ ss) ends zero e h = absurd (cc)
end_only (Plain l b g ∷ ss) ends (suc j) e h = ap suc (end_only ss ends j e h)

last_is : (ss : List Stmt) → EndsInEnd ss → (j : ℕ) × (e : Option Bytes) × (slice_get ss j ≡ Some (End e)) × (suc j ≡ length ss)
last_is [] ends = absurd ends
last_is (End x ∷ []) ends = (0, x, refl, refl)
last_is (End x ∷ s ∷ ss) ends = absurd ends
last_is (Plain l b g ∷ ss) ends = let (j, e, h, c) = last_is ss ends in (suc j, e, h, ap suc c)

module _ (ss : List Stmt) (fit : IsFit ss) where
  abbrev im : Image
  im = generated_image [] ss

  sound : IsSound (Fits im) im
  sound = is_sound ss fit.ends fit.statements

  entry_fine : entry_rule im ≡ None
  entry_fine =
      let (j, is, less) = entry_among ss fit.ends fit.statements (entry_label ss) in
      let h = statement_there ss fit.ends fit.statements im.entry (omega (arith, is)) (omega (arith, is, less)) in
      ap (unless BadIndex) h

  code_at_number : (k o : ℕ) → slice_get im.statements k ≡ Some o → CodeS (program ss) (module_of im) (slice_get (later_of ss fit.ends fit.statements)) (suc k) (slice_get ss k) o
  code_at_number k o h = stmts_placed ss fit.ends fit.statements (suc k) o h

  statement_fine : (front : List ℕ) (at : ℕ) (o : Option Stmt) → slice_get ss (length front) ≡ o → CodeS (program ss) (module_of im) (slice_get (later_of ss fit.ends fit.statements)) (suc (length front)) o at
      → statement_rule im front at ≡ None
  statement_fine front at None e c = absurd c
  statement_fine front at (Some (End x)) e (q, c) =
      let count = offsets_count ss fit.ends fit.statements in
      let last = end_only ss fit.ends (length front) x e in
      let h : (suc (length front) == length im.statements) ≡ true = grind (arith, count, last) in
      rw (h, c) refl
  statement_fine front at (Some (Plain l b g)) e (p, q, r, f, c, x1, x2, x3, x4, x5) = elim (suc (length front) == length im.statements) as (λ x. (if x then unless NoEnd (begins_at im at) else unless BadTarget (is_begin (fetch_from 0 im.code at))) ≡ None) [
    | true ↦ rw c refl
    | false ↦ rw c refl
  ]

  statements_fine : (pos : ℕ) → fault_among (λ front at o. fault_if at (statement_rule im front o)) (λ o. 4) [] pos im.statements ≡ None
  statements_fine pos = scan_fine (λ front at o. fault_if at (statement_rule im front o)) (λ o. 4) im.statements
      (λ front at rest e p. ap (fault_if p) (statement_fine front at (slice_get ss (length front)) refl (code_at_number (length front) at (ap (λ xs. slice_get xs (length front)) e ∙ get_split front at rest))))
      im.statements [] pos refl

  expressions_fine : (pos : ℕ) → fault_among (λ front at o. fault_if at (expression_rule im front o)) (λ o. 4) [] pos im.expressions ≡ None
  expressions_fine pos = scan_fine (λ front at o. fault_if at (expression_rule im front o)) (λ o. 4) im.expressions
      (λ front at rest e p.
      let c : Contains im.expressions at = subst (λ xs. Contains xs at) (sym e) (contains_split front at rest) in
      let h : begins_at im at ≡ true = shape_fetched 0 bare im.code at asked (sound.expressions at c) in
      ap (λ b. fault_if p (unless BadTarget b)) h)
      im.expressions [] pos refl

  instructions_fine : (pos : ℕ) → fault_among (instr_fault im) instr_size [] pos im.code ≡ None
  instructions_fine pos =
      let (j, x, is, c) = last_is ss fit.ends in
      let count = offsets_count ss fit.ends fit.statements in
      let (o, e) = get_within im.statements j (omega (arith, c, count)) in
      let code : CodeS (program ss) (module_of im) (slice_get (later_of ss fit.ends fit.statements)) (suc j) (Some (End x)) o = subst (λ s. CodeS (program ss) (module_of im) (slice_get (later_of ss fit.ends fit.statements)) (suc j) s o) is (code_at_number j o e) in
      let new : newest im.statements ≡ Some o = ap (slice_get im.statements) (let h : length im.statements - 1 ≡ j = omega (arith, c, count) in h) ∙ e in
      code_fine im sound o code.0 new code.1 pos

  -- the law
  pub parts : part_fault versions.Two im ≡ None
  parts =
      let a = entry_fine in
      let b = labels_fine im 1 ss (statement_there ss fit.ends fit.statements) (all_held (label_texts ss) (with_texts (code_of ss).texts [])) [] [] tt fit.labels (labels_offset versions.Two im) in
      let c = statements_fine (statements_offset versions.Two im) in
      let d = expressions_fine (expressions_offset versions.Two im) in
      let e = instructions_fine (code_offset versions.Two im) in
      (λ i. or_else (fault_if (entry_offset versions.Two) (a i)) (or_else (b i) (or_else (c i) (or_else (d i) (or_else None (e i))))))
