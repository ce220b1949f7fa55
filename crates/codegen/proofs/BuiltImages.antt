-- Statements that are put one by one.
use Rattle.std.proofs.Common.{◌≡◌, ℕ, suc, ◌+◌, ◌*◌, ◌≤◌, List, [], ◌∷◌, ◌++◌, length, map, refl, sym, ap, ◌∙◌, subst, append_assoc, append-nil, length-append, arith, Option, None}
use Rattle.std.specs.List.{AllByRecursion}
use Rattle.model.specs.declared.image.Label as image
use Rattle.model.specs.Language.Programs.{number_or}
use Rattle.model.specs.Deck.Trees.{Bytes, Stmt}
use Rattle.model.specs.Deck.Weights as weights
use Rattle.expr_codegen.specs.Texts.{with_texts}
use Rattle.expr_codegen.specs.Emitting.{Gen, Emits, Countable, size}
use Rattle.expr_codegen.specs.Views.{gen_of}
use Rattle.codegen.specs.Building.{HasPut, IsDraftOf, own_entries, own_texts}
use Rattle.codegen.specs.Countable.{CountableStmt, Fits}
use Rattle.codegen.specs.Labels.{AreNames, but_end, entry_noted, entry_with, number_in, number_among}
use Rattle.codegen.specs.Laying.{Laid, empty, left}
use Rattle.codegen.specs.Layout as layout
use Rattle.codegen.specs.Layout.{generated_image, label_texts}
use Rattle.codegen.specs.declared.building.Draft.{Draft}
use Rattle.codegen.specs.declared.building.ImageBuilder.{ImageBuilder}
use Rattle.codegen.proofs.Images.{Drafted, draft_of, left_countable, own_entries_are, own_texts_are, size_empty}
use Rattle.codegen.proofs.LabelTables.{entry_first, entry_snoc, numbers_are}
use Rattle.codegen.proofs.Laying.{laid_more, laid_none}

pub begins : (names : List (Option Bytes)) (b : ImageBuilder) → ((l : Bytes) → number_in b.labels l ≡ number_among 1 names l) → gen_of b.generator ≡ empty → b.offsets.items ≡ [] → b.entry ≡ None → HasPut names [] b
begins names b labels none no_offsets no_entry = record {
  labels = labels;
  laid = λ more j ps z.
      subst (λ os. Laid (layout.statements (number_among 1 names) 1 more) (os ++ ps) empty j) (sym no_offsets)
      (subst (λ g. Laid (layout.statements (number_among 1 names) 1 more) ps g j) none z);
  taken = ap (λ (g : Gen). g.taken) none;
  count = ap length no_offsets;
  entry = no_entry;
  countable = tt;
  size = (let s = ap size none ∙ size_empty in omega (arith, s));
}

all_snoc : {A : Type 0} (P : A → Type 0) (xs : List A) (x : A) → AllByRecursion P xs → P x → AllByRecursion P (xs ++ x ∷ [])
all_snoc P [] x h p = (p, tt)
all_snoc P (y ∷ xs) x h p = (h.0, all_snoc P xs x h.1 p)

total_snoc : (ss : List Stmt) (s : Stmt) → weights.total weights.weight (ss ++ s ∷ []) ≡ weights.total weights.weight ss + weights.weight s
total_snoc [] s = omega arith
total_snoc (x ∷ ss) s = let h = total_snoc ss s in omega (arith, h)

pub step : (names : List (Option Bytes)) (ss : List Stmt) (s : Stmt) (n at : ℕ) (b c : ImageBuilder) → HasPut names ss b → CountableStmt s → c.labels ≡ b.labels → n ≡ length b.offsets.items + 1 → at ≡ length (gen_of b.generator).code
    → c.offsets.items ≡ b.offsets.items ++ at ∷ [] → c.entry ≡ entry_with (number_in b.labels) b.entry s → Emits (layout.statement (number_in b.labels) n s) (gen_of b.generator) (gen_of c.generator)
    → size (gen_of c.generator) ≤ size (gen_of b.generator) + (9 * weights.weight s + 6) → HasPut names (ss ++ s ∷ []) c
step names ss s n at b c h countable same number place put enters emits more =
    let f = number_among 1 names in
    let fe : number_in b.labels ≡ f = λ j l. h.labels l j in
    let n1 : n ≡ 1 + length ss = let k = h.count in omega (arith, number, k) in
    let len : length (ss ++ s ∷ []) ≡ length ss + 1 = length-append ss (s ∷ []) in
    let x : Emits (layout.statement f (1 + length ss) s) (gen_of b.generator) (gen_of c.generator) = subst (λ k. Emits (layout.statement f k s) (gen_of b.generator) (gen_of c.generator)) n1 (subst (λ g. Emits (layout.statement g n s) (gen_of b.generator) (gen_of c.generator)) fe emits) in
    record {
      labels = λ l. ap (λ ls. number_in ls l) same ∙ h.labels l;
      laid = λ rest j ps z.
          let next : 1 + length (ss ++ s ∷ []) ≡ suc (1 + length ss) = omega (arith, len) in
          let z1 : Laid (layout.statements f (suc (1 + length ss)) rest) ps (gen_of c.generator) j = subst (λ k. Laid (layout.statements f k rest) ps (gen_of c.generator) j) next z in
          let z2 : Laid (layout.statements f (1 + length ss) (s ∷ rest)) (length (gen_of b.generator).code ∷ ps) (gen_of b.generator) j = laid_more (layout.statement f (1 + length ss) s) (layout.statements f (suc (1 + length ss)) rest) ps x z1 in
          let z3 = h.laid (s ∷ rest) j (length (gen_of b.generator).code ∷ ps) z2 in
          subst (λ l. Laid (layout.statements f 1 l) (c.offsets.items ++ ps) empty j) (sym (append_assoc ss (s ∷ []) rest))
          (subst (λ o. Laid (layout.statements f 1 (ss ++ s ∷ rest)) o empty j) (sym (ap (λ l. l ++ ps) put ∙ append_assoc b.offsets.items (at ∷ []) ps ∙ ap (λ a. b.offsets.items ++ a ∷ ps) place)) z3);
      taken = emits.taken ∙ h.taken;
      count = ap length put ∙ length-append b.offsets.items (at ∷ []) ∙ (let k = h.count in let e : length b.offsets.items + 1 ≡ length (ss ++ s ∷ []) = omega (arith, k, len) in e);
      entry = enters ∙ ap (λ e. entry_with (number_in b.labels) e s) h.entry ∙ ap (λ g. entry_with g (entry_noted f ss) s) fe ∙ sym (entry_snoc f ss s);
      countable = all_snoc CountableStmt ss s h.countable countable;
      size = (let r = h.size in let w = total_snoc ss s in omega (arith, r, more, w, len));
    }

-- ---- the end

pub all_laid : (names : List (Option Bytes)) (ss : List Stmt) (b : ImageBuilder) → HasPut names ss b → Laid (layout.statements (number_among 1 names) 1 ss) b.offsets.items empty (gen_of b.generator)
all_laid names ss b h =
    let z = h.laid [] (gen_of b.generator) [] (laid_none (gen_of b.generator)) in
    subst (λ l. Laid (layout.statements (number_among 1 names) 1 l) b.offsets.items empty (gen_of b.generator)) (append-nil ss)
    (subst (λ o. Laid (layout.statements (number_among 1 names) 1 (ss ++ [])) o empty (gen_of b.generator)) (append-nil b.offsets.items) z)

pub countable_left : (names : List (Option Bytes)) (ss : List Stmt) (b : ImageBuilder) → HasPut names ss b → Fits ss → AllByRecursion Countable (left (gen_of b.generator))
countable_left names ss b h fits = left_countable ss (number_among 1 names) b.offsets.items empty (gen_of b.generator) refl (all_laid names ss b h) h.taken fits

pub room_left : (names : List (Option Bytes)) (ss : List Stmt) (b : ImageBuilder) → HasPut names ss b → Fits ss → size (gen_of b.generator) ≤ 251658240
room_left names ss b h fits = let s = h.size in let t = fits.together in let c = fits.count in omega (arith, s, t, c)

pub finished : (cards : List ℕ) (names : List (Option Bytes)) (ss : List Stmt) (b : ImageBuilder) (es : List ℕ) (ls : List image.Label) (entry : ℕ) (g2 g3 : Gen) (d : Draft) → HasPut names ss b → Fits ss → AreNames names ss
    → ((fuel : ℕ) → weights.total weights.of_expr (left (gen_of b.generator)) ≤ fuel → Laid (layout.expressions fuel (left (gen_of b.generator))) es (gen_of b.generator) g2)
    → g3.texts ≡ with_texts (own_texts (map but_end names)) g2.texts → g3.code ≡ g2.code → ls ≡ own_entries g3.texts 1 (map but_end names) → entry ≡ number_or 1 b.entry
    → Drafted d entry g3.texts ls b.offsets.items cards es g3.code → IsDraftOf (generated_image cards ss) d
finished cards names ss b es ls entry g2 g3 d h fits are work named same labels enters drafted =
    let f = number_among 1 names in
    draft_of cards ss f b.offsets.items es ls entry empty (gen_of b.generator) g2 g3 d
    (λ l. ap (λ ns. number_among 1 ns l) are.all ∙ numbers_are 1 ss l) refl (all_laid names ss b h) h.taken work fits
    (named ∙ ap (λ ns. with_texts (own_texts ns) g2.texts) are.own ∙ ap (λ ts. with_texts ts g2.texts) (own_texts_are ss)) same
    (labels ∙ ap (own_entries g3.texts 1) are.own ∙ own_entries_are g3.texts 1 ss)
    (enters ∙ ap (number_or 1) h.entry ∙ entry_first f ss) drafted
