-- The image of a program, from what was put.
use Rattle.std.proofs.Common.{◌≡◌, ℕ, suc, ◌+◌, ◌<◌, ◌≤◌, List, [], ◌∷◌, ◌++◌, length, map, refl, sym, ap, ◌∙◌, subst, append_assoc, append-nil, arith, drop, get_or, Option, Some, None}
use Rattle.std.specs.List.{AllByRecursion}
use Rattle.model.specs.declared.image.Label as image
use Rattle.std.specs.Borrow.{Bor}
use Rattle.model.specs.Module.Images.{code_size}
use Rattle.model.specs.Language.Programs.{labelled_from, entry_label, entry_in}
use Rattle.model.specs.Deck.Trees.{Bytes, Stmt, Plain, End}
use Rattle.model.specs.Deck.Weights as weights
use Rattle.model.proofs.Module.CodeBytes.{code_long}
use Rattle.expr_codegen.specs.Code.{Part}
use Rattle.expr_codegen.specs.Texts.{number_of_text, with_texts}
use Rattle.expr_codegen.specs.Emitting.{Gen, Emits, Longer, Countable, Numbered, size}
use Rattle.expr_codegen.proofs.Joins.{both, longer_trans, longer_texts}
use Rattle.expr_codegen.proofs.TextPlaces.{place_stays}
use Rattle.codegen.specs.Countable.{Fits}
use Rattle.codegen.specs.Labels.{but_end, entry_by, name_of, own_label}
use Rattle.codegen.specs.Building.{IsDraftOf, IsNamed, own_entries, own_texts}
use Rattle.codegen.specs.Laying.{Laid, empty, left, retaken}
use Rattle.codegen.specs.Layout as layout
use Rattle.codegen.specs.Layout.{joined_parts, program_parts, expressions_of, code_of, texts_of, generated_image, label_texts}
use Rattle.codegen.specs.declared.building.Draft.{Draft}
use Rattle.codegen.proofs.Laying.{still_put, next}
use Rattle.codegen.proofs.Unevaluated.{statements_later}

pub size_empty : size empty ≡ 0
unfolding size
size_empty = refl

-- ---- what statements leave to do

pub left_is : (ss : List Stmt) (f : Bytes → Option ℕ) (os : List ℕ) (g0 g1 : Gen) → g0 ≡ empty → Laid (layout.statements f 1 ss) os g0 g1 → g1.taken ≡ g0.taken → left g1 ≡ (joined_parts (layout.statements f 1 ss)).later
left_is ss f os g0 g1 begin laid taken =
    ap (λ n. drop n g1.waiting) (taken ∙ ap (λ (g : Gen). g.taken) begin) ∙ laid.parts.waiting ∙ ap (λ (g : Gen). g.waiting ++ (joined_parts (layout.statements f 1 ss)).later) begin

pub left_countable : (ss : List Stmt) (f : Bytes → Option ℕ) (os : List ℕ) (g0 g1 : Gen) → g0 ≡ empty → Laid (layout.statements f 1 ss) os g0 g1 → g1.taken ≡ g0.taken → Fits ss → AllByRecursion Countable (left g1)
left_countable ss f os g0 g1 begin laid taken fits = subst (AllByRecursion Countable) (sym (left_is ss f os g0 g1 begin laid taken)) (statements_later f 1 ss fits.countable).countable

left_weight : (ss : List Stmt) (f : Bytes → Option ℕ) (os : List ℕ) (g0 g1 : Gen) → g0 ≡ empty → Laid (layout.statements f 1 ss) os g0 g1 → g1.taken ≡ g0.taken → Fits ss → weights.total weights.of_expr (left g1) ≤ weights.total weights.weight ss
left_weight ss f os g0 g1 begin laid taken fits = subst (λ l. weights.total weights.of_expr l ≤ weights.total weights.weight ss) (sym (left_is ss f os g0 g1 begin laid taken)) (statements_later f 1 ss fits.countable).weight

-- ---- labels

abbrev Name : Type 0
Name = Option (Bor (List ℕ))

abbrev owns : List Name → List (Option Bytes)
owns xs = map but_end (map name_of xs)

abbrev pub Kept : List Name → ℕ → ℕ → List image.Label → Gen → Gen → Type 0
Kept xs i n done g h =
    (n ≡ 1 + i)
    × (h.code ≡ g.code)
    × (with_texts (own_texts (owns (drop i xs))) h.texts ≡ with_texts (own_texts (owns xs)) g.texts)
    × ((texts : List Bytes) → Longer h.texts texts → own_entries texts 1 (owns xs) ≡ done ++ own_entries texts n (owns (drop i xs)))
    × (size h + length (drop i xs) ≤ size g + length xs)

pub begins : (xs : List Name) (g : Gen) → Kept xs 0 1 [] g g
begins xs g = (refl, refl, refl, (λ texts l. refl), omega arith)

abbrev entry_for : List Bytes → ℕ → Bytes → image.Label
entry_for texts n l = record { string = number_of_text l texts; statement = n }

step_own : (xs : List Name) (i n m k : ℕ) (x : Name) (l : Bytes) (done now : List image.Label) (g h j : Gen) → i < length xs → x ≡ get_or xs i x → m ≡ n + 1 → but_end (name_of x) ≡ Some l
    → Numbered l k h j → size j ≤ size h + 1 → now ≡ done ++ record { string = k; statement = n } ∷ [] → Kept xs i n done g h → Kept xs (i + 1) m now g j
step_own xs i n m k x l done now g h j less is number own numbered s put (counted, code, texts, all, room) =
    let rest : List Name = drop (i + 1) xs in
    let more : drop i xs ≡ x ∷ rest = next xs i x less is in
    let m1 : suc n ≡ m = omega (arith, number) in
    let len = ap length more in (
      omega (arith, counted, number),
      numbered.code ∙ code,
      ap (with_texts (own_texts (owns rest))) numbered.texts ∙ ap (λ t. with_texts t h.texts) (sym (ap (λ r. own_texts (owns r)) more ∙ ap (λ o. own_texts (o ∷ owns rest)) own)) ∙ texts,
      (λ t longer.
          let place : number_of_text l t ≡ k = ap (number_of_text l) (longer.1 ∙ ap (λ z. z ++ longer.0) numbered.texts) ∙ place_stays l h.texts longer.0 ∙ ap (number_of_text l) (sym numbered.texts) ∙ sym numbered.at in
          let before : Longer h.texts t = longer_trans h.texts j.texts t (subst (λ z. Longer h.texts z) (sym numbered.texts) (longer_texts (l ∷ []) h.texts)) longer in
          all t before ∙ ap (λ r. done ++ own_entries t n (owns r)) more ∙ ap (λ o. done ++ own_entries t n (o ∷ owns rest)) own
          ∙ ap (λ p. done ++ record { string = p; statement = n } ∷ own_entries t (suc n) (owns rest)) place
          ∙ ap (λ q. done ++ record { string = k; statement = n } ∷ own_entries t q (owns rest)) m1
          ∙ sym (ap (λ d. d ++ own_entries t m (owns rest)) put ∙ append_assoc done (record { string = k; statement = n } ∷ []) (own_entries t m (owns rest)))),
      omega (arith, room, len, s),
    )

step_none : (xs : List Name) (i n m : ℕ) (x : Name) (done now : List image.Label) (g h j : Gen) → i < length xs → x ≡ get_or xs i x → m ≡ n + 1 → but_end (name_of x) ≡ None → now ≡ done → j ≡ h → Kept xs i n done g h → Kept xs (i + 1) m now g j
step_none xs i n m x done now g h j less is number own same still (counted, code, texts, all, room) =
    let rest : List Name = drop (i + 1) xs in
    let more : drop i xs ≡ x ∷ rest = next xs i x less is in
    let m1 : suc n ≡ m = omega (arith, number) in
    let len = ap length more in
    subst (λ j. Kept xs (i + 1) m now g j) (sym still) (subst (λ d. Kept xs (i + 1) m d g h) (sym same) (
      omega (arith, counted, number),
      code,
      ap (λ t. with_texts t h.texts) (sym (ap (λ r. own_texts (owns r)) more ∙ ap (λ o. own_texts (o ∷ owns rest)) own)) ∙ texts,
      (λ t longer. all t longer ∙ ap (λ r. done ++ own_entries t n (owns r)) more ∙ ap (λ o. done ++ own_entries t n (o ∷ owns rest)) own ∙ ap (λ q. done ++ own_entries t q (owns rest)) m1),
      omega (arith, room, len),
    ))

pub step : (xs : List Name) (i n m : ℕ) (x : Name) (done now : List image.Label) (g h j : Gen) → i < length xs → x ≡ get_or xs i x → m ≡ n + 1 → IsNamed (but_end (name_of x)) n done now h j → Kept xs i n done g h → Kept xs (i + 1) m now g j
step xs i n m x done now g h j less is number named kept = by (but_end (name_of x)) refl named
  where
    by : (o : Option Bytes) → but_end (name_of x) ≡ o → IsNamed o n done now h j → Kept xs (i + 1) m now g j
    by None own p = step_none xs i n m x done now g h j less is number own p.0 p.1 kept
    by (Some l) own p = step_own xs i n m p.0 x l done now g h j less is number own p.2 p.3 p.1 kept

pub ends_texts : (xs : List Name) (i n : ℕ) (done : List image.Label) (g h : Gen) → drop i xs ≡ [] → Kept xs i n done g h → h.texts ≡ with_texts (own_texts (owns xs)) g.texts
ends_texts xs i n done g h none (counted, code, texts, all, room) = ap (λ r. with_texts (own_texts (owns r)) h.texts) (sym none) ∙ texts

pub ends_labels : (xs : List Name) (i n : ℕ) (done : List image.Label) (g h : Gen) → drop i xs ≡ [] → Kept xs i n done g h → done ≡ own_entries h.texts 1 (owns xs)
ends_labels xs i n done g h none (counted, code, texts, all, room) = sym (all h.texts ([], sym (append-nil h.texts)) ∙ ap (λ r. done ++ own_entries h.texts n (owns r)) none ∙ append-nil done)

-- by the statements
pub own_texts_are : (ss : List Stmt) → own_texts (map own_label ss) ≡ label_texts ss
own_texts_are [] = refl
own_texts_are (Plain None b g ∷ ss) = own_texts_are ss
own_texts_are (Plain (Some l) b g ∷ ss) = ap (λ ts. l ∷ ts) (own_texts_are ss)
own_texts_are (End e ∷ ss) = own_texts_are ss

pub own_entries_are : (texts : List Bytes) (n : ℕ) (ss : List Stmt) → own_entries texts n (map own_label ss) ≡ layout.label_entries texts n ss
own_entries_are texts n [] = refl
own_entries_are texts n (Plain None b g ∷ ss) = own_entries_are texts (suc n) ss
own_entries_are texts n (Plain (Some l) b g ∷ ss) = ap (λ es. entry_for texts n l ∷ es) (own_entries_are texts (suc n) ss)
own_entries_are texts n (End e ∷ ss) = own_entries_are texts (suc n) ss

-- ---- the image

entry_is : (ss : List Stmt) (o : Option Bytes) → entry_by (labelled_from 1 ss) o ≡ entry_in ss o
entry_is ss None = refl
entry_is ss (Some l) = refl

-- what is ready to be written has these tables and these bytes of code
pub record Drafted (d : Draft) (first : ℕ) (texts : List Bytes) (ls : List image.Label) (os cs es bytes : List ℕ) : Type 0 where
  pub entry : d.entry ≡ first
  pub strings : d.strings ≡ texts
  pub labels : d.labels.items ≡ ls
  pub statements : d.statements.items ≡ os
  pub cards : d.cards ≡ cs
  pub expressions : d.expressions.items ≡ es
  pub patterns : d.patterns ≡ []
  pub code : d.code.items ≡ bytes

pub draft_of : (cards : List ℕ) (ss : List Stmt) (f : Bytes → Option ℕ) (os es : List ℕ) (ls : List image.Label) (entry : ℕ) (g0 g1 g2 g3 : Gen) (d : Draft) → ((l : Bytes) → f l ≡ labelled_from 1 ss l) → g0 ≡ empty
    → Laid (layout.statements f 1 ss) os g0 g1 → g1.taken ≡ g0.taken → ((fuel : ℕ) → weights.total weights.of_expr (left g1) ≤ fuel → Laid (layout.expressions fuel (left g1)) es g1 g2) → Fits ss
    → g3.texts ≡ with_texts (label_texts ss) g2.texts → g3.code ≡ g2.code → ls ≡ layout.label_entries g3.texts 1 ss → entry ≡ entry_by f (entry_label ss)
    → Drafted d entry g3.texts ls os cards es g3.code → IsDraftOf (generated_image cards ss) d
draft_of cards ss f os es ls entry g0 g1 g2 g3 d known begin laid taken work fits named same labels enters drafted =
    let fe : f ≡ labelled_from 1 ss = λ j l. known l j in
    let laid1 : Laid (program_parts ss) os empty g1 = subst (λ g. Laid (program_parts ss) os g g1) begin (subst (λ f. Laid (layout.statements f 1 ss) os g0 g1) fe laid) in
    let left1 : left g1 ≡ (joined_parts (program_parts ss)).later = left_is ss (labelled_from 1 ss) os empty g1 refl laid1 (taken ∙ ap (λ (g : Gen). g.taken) begin) in
    let x : Laid (expressions_of ss) es g1 g2 = subst (λ l. Laid (layout.expressions (weights.total weights.weight ss) l) es g1 g2) left1 (work (weights.total weights.weight ss) (left_weight ss f os g0 g1 begin laid taken fits)) in
    let whole : Emits (code_of ss) (retaken g2.taken empty) g2 = both (still_put (joined_parts (program_parts ss)) g2.taken laid1.parts) x.parts in
    let t : g3.texts ≡ texts_of ss = named ∙ ap (with_texts (label_texts ss)) whole.texts in
    let l2 : Longer g2.texts (texts_of ss) = subst (λ u. Longer g2.texts u) (ap (with_texts (label_texts ss)) whole.texts) (longer_texts (label_texts ss) g2.texts) in
    let l1 : Longer g1.texts (texts_of ss) = longer_trans g1.texts g2.texts (texts_of ss) (subst (λ u. Longer g1.texts u) (sym x.parts.texts) (longer_texts (joined_parts (expressions_of ss)).texts g1.texts)) l2 in
    let statements : Part = joined_parts (program_parts ss) in
    let put : length g1.code ≡ code_size (statements.code (texts_of ss) 0 0) = ap length (laid1.parts.code (texts_of ss) l1) ∙ code_long (statements.code (texts_of ss) 0 0) in
    record {
      level = refl;
      entry = sym (drafted.entry ∙ enters ∙ ap (λ f. entry_by f (entry_label ss)) fe ∙ entry_is ss (entry_label ss));
      strings = sym (drafted.strings ∙ t);
      labels = sym (drafted.labels ∙ labels ∙ ap (λ u. layout.label_entries u 1 ss) t);
      statements = sym (drafted.statements ∙ laid1.offsets (texts_of ss) l1);
      cards = sym drafted.cards;
      expressions = sym (drafted.expressions ∙ x.offsets (texts_of ss) l2 ∙ ap (λ w. layout.offsets (expressions_of ss) (texts_of ss) (length w) (length g1.code)) laid1.parts.waiting
          ∙ ap (λ n. layout.offsets (expressions_of ss) (texts_of ss) (length statements.later) n) put);
      patterns = sym drafted.patterns;
      code = drafted.code ∙ same ∙ whole.code (texts_of ss) l2;
    }
