-- An image is within the limits of the format.
use Rattle.std.proofs.Common.{◌≡◌, ℕ, zero, suc, ◌+◌, ◌*◌, ◌^◌, ◌<◌, ◌≤◌, ◌==◌, List, [], ◌∷◌, ◌++◌, length, refl, ap, ◌∙◌, arith, true, false, not, ◌||◌, Some, None, if◌then◌else◌, slice_get, bytes_eq}
use Rattle.std.specs.Prelude.{nat_lt, option_map}
use Rattle.std.specs.Cmp.Lexicographic.{pointwise}
use Rattle.std.specs.List.{AllByRecursion, list_any}
use Rattle.std.proofs.lemmas.Bool.Decides.{nat_tests}
use Rattle.std.proofs.lemmas.Bool.{and_parts}
use Rattle.model.specs.declared.image.Image.{Image}
use Rattle.model.specs.declared.image.Label.{Label}
use Rattle.model.specs.declared.image.Level.TheVariants as levels
use Rattle.model.specs.declared.instr.Instr.{Instr}
use Rattle.model.specs.declared.instr.Instr.TheVariants as op
use Rattle.model.specs.declared.primitives.PrimId.{PrimId}
use Rattle.model.specs.declared.primitives.PrimId.TheVariants as prim
use Rattle.model.specs.Module.Flow.{Shape, bare}
use Rattle.model.specs.Module.Images.{instr_size, code_size}
use Rattle.model.specs.Language.Names.{most_args}
use Rattle.model.specs.Language.Programs.{labelled_from, entry_in, entry_label}
use Rattle.model.specs.Module.Spelling.{code_bytes, InstrFits, most, most_code, Follow, is_new, newest, rises, statement_of, StringFits, LabelFits, StatementFits, AreCards, IsOf, OffsetFits, IsImage}
use Rattle.model.specs.Deck.Trees.{Bytes, Expr, Stmt, Plain, End}
use Rattle.model.specs.Module.WellFormed.{is_nonnull, is_statement, is_nonnull_string}
use Rattle.model.specs.Deck.Weights as weights
use Rattle.model.specs.Deck.Weights.{of_name, weight}
use Rattle.model.proofs.Module.CodeBytes.{some_bytes, code_long, total_append}
use Rattle.expr_codegen.specs.Texts.{number_of_text, with_text, with_texts}
use Rattle.expr_codegen.specs.Code.{Part, ◌>>◌}
use Rattle.codegen.specs.Layout.{program_parts, expressions_of, joined_parts, offsets, label_entries, label_texts, code_of, generated_image}
use Rattle.model.proofs.Decks.FirstCards.{newest_snoc}
use Rattle.codegen_laws.specs.Fit.{IsFit}
use Rattle.codegen_laws.proofs.Flows.{Fits}
use Rattle.codegen_laws.proofs.Offsets.{HasCode, full_some, offsets_length, statements_full}
use Rattle.codegen_laws.proofs.Placing.{code_is, offsets_count, entry_among}
use Rattle.codegen_laws.proofs.Shapes.{next_shape, shape_from, Targets, Sound}
use Rattle.codegen_laws.proofs.Sizes.{of_texts, of_later, due, sum_join, statements_weigh, labels_weigh, queue_code, queue_texts, queue_length}
use Rattle.codegen_laws.proofs.Sounding.{is_sound}

-- ---- strings

still_new : (front : List Bytes) (t s : Bytes) → is_new front t ≡ true → bytes_eq t s ≡ false → is_new (front ++ s ∷ []) t ≡ true
still_new [] t s n e = rw e refl
still_new (x ∷ xs) t s n e = elim (pointwise ◌==◌ t x) as (λ b. not (b || list_any (pointwise ◌==◌ t) xs) ≡ true → not (b || list_any (pointwise ◌==◌ t) (xs ++ s ∷ [])) ≡ true) [
  | true ↦ λ h. absurd (cc)
  | false ↦ λ h. still_new xs t s h e
] n

-- a short text that is put stands once among short texts
put_follows : (t : Bytes) → length t < 2 ^ 32 → (front ts : List Bytes) → Follow StringFits front ts → is_new front t ≡ true → Follow StringFits front (with_text t ts)
put_follows t short front [] f new = ((short, new), tt)
put_follows t short front (s ∷ ss) f new = elim (bytes_eq t s) as (λ b. (bytes_eq t s ≡ b) → Follow StringFits front (if b then s ∷ ss else s ∷ with_text t ss)) [
  | true ↦ λ e. f
  | false ↦ λ e. (f.0, put_follows t short (front ++ s ∷ []) ss f.1 (still_new front t s new e))
] refl

texts_follow : (ts ss : List Bytes) → of_texts ts < 2 ^ 32 → Follow StringFits [] ss → Follow StringFits [] (with_texts ts ss)
texts_follow [] ss h f = f
texts_follow (t ∷ ts) ss h f = texts_follow ts (with_text t ss) (omega (arith, h)) (put_follows t (omega (arith, h)) [] ss f refl)

one_more : (t : Bytes) (ts : List Bytes) → length (with_text t ts) ≤ suc (length ts)
one_more t [] = omega arith
one_more t (s ∷ ss) = elim (bytes_eq t s) as (λ b. length (if b then s ∷ ss else s ∷ with_text t ss) ≤ suc (suc (length ss))) [
  | true ↦ omega arith
  | false ↦ let h = one_more t ss in omega (arith, h)
]

few_strings : (ts ss : List Bytes) → length (with_texts ts ss) ≤ length ss + of_texts ts
few_strings [] ss = omega arith
few_strings (t ∷ ts) ss = let a = few_strings ts (with_text t ss) in let b = one_more t ss in omega (arith, a, b)

place_within : (t : Bytes) (ts : List Bytes) → number_of_text t ts ≤ length ts
place_within t [] = omega arith
place_within t (s ∷ ss) = elim (bytes_eq t s) as (λ b. (if b then 0 else suc (number_of_text t ss)) ≤ suc (length ss)) [
  | true ↦ omega arith
  | false ↦ let h = place_within t ss in omega (arith, h)
]

-- ---- labels and offsets

labels_follow : (texts : List Bytes) → length texts < 2 ^ 32 → (n : ℕ) (ss : List Stmt) → n + length ss < 2 ^ 32 → (front : List Label)
    → ((m : ℕ) → n ≤ m → rises (option_map statement_of (newest front)) m ≡ true) → Follow LabelFits front (label_entries texts n ss)
labels_follow texts few n [] h front r = tt
labels_follow texts few n (End e ∷ ss) h front r = labels_follow texts few (suc n) ss (omega (arith, h)) front (λ m l. r m (omega (arith, l)))
labels_follow texts few n (Plain None b g ∷ ss) h front r = labels_follow texts few (suc n) ss (omega (arith, h)) front (λ m l. r m (omega (arith, l)))
labels_follow texts few n (Plain (Some l) b g ∷ ss) h front r =
    let here : Label = record { string = number_of_text l texts; statement = n } in
    let p = place_within l texts in (
      (let x : number_of_text l texts < 2 ^ 32 = omega (arith, p, few) in x, let x : n < 2 ^ 32 = omega (arith, h) in x, r n (omega arith)),
      labels_follow texts few (suc n) ss (omega (arith, h)) (front ++ here ∷ [])
          (λ m l. ap (λ e. rises (option_map statement_of e) m) (newest_snoc front here) ∙ (let x : nat_lt n m ≡ true = grind (arith, l) in x)),
    )

labels_count : (texts : List Bytes) (n : ℕ) (ss : List Stmt) → length (label_entries texts n ss) ≤ length ss
labels_count texts n [] = omega arith
labels_count texts n (End e ∷ ss) = let h = labels_count texts (suc n) ss in omega (arith, h)
labels_count texts n (Plain None b g ∷ ss) = let h = labels_count texts (suc n) ss in omega (arith, h)
labels_count texts n (Plain (Some l) b g ∷ ss) = let h = labels_count texts (suc n) ss in omega (arith, h)

statements_follow : (texts : List Bytes) (ps : List Part) → AllByRecursion HasCode ps → (k at : ℕ) (front : List ℕ) → rises (newest front) at ≡ true → at + code_size ((joined_parts ps).code texts k at) < 2 ^ 32
    → Follow StatementFits front (offsets ps texts k at)
unfolding ◌>>◌
statements_follow texts [] f k at front r small = tt
statements_follow texts (p ∷ ps) f k at front r small =
    let xs = p.code texts k at in
    let q : ℕ = at + code_size xs in
    let ys = (joined_parts ps).code texts (k + length p.later) q in
    let t = total_append xs ys in
    let some = full_some xs (f.0 texts k at) in
    let up : nat_lt at q ≡ true = grind (arith, some) in (
      (let h : at < 2 ^ 32 = omega (arith, small) in h, r),
      statements_follow texts ps f.1 (k + length p.later) q (front ++ at ∷ []) (ap (λ e. rises e q) (newest_snoc front at) ∙ up) (let h : q + code_size ys < 2 ^ 32 = omega (arith, small, t) in h),
    )

expressions_follow : (texts : List Bytes) (ps : List Part) (k at : ℕ) (front : List ℕ) → at + code_size ((joined_parts ps).code texts k at) < 2 ^ 32 → Follow OffsetFits front (offsets ps texts k at)
unfolding ◌>>◌
expressions_follow texts [] k at front small = tt
expressions_follow texts (p ∷ ps) k at front small =
    let xs = p.code texts k at in
    let q : ℕ = at + code_size xs in
    let ys = (joined_parts ps).code texts (k + length p.later) q in
    let t = total_append xs ys in
    ((let h : at < 2 ^ 32 = omega (arith, small) in h), expressions_follow texts ps (k + length p.later) q (front ++ at ∷ []) (let h : q + code_size ys < 2 ^ 32 = omega (arith, small, t) in h))

-- ---- instructions

below : (p : ℕ) (s : Shape) (is : List Instr) (at : ℕ) (t : Shape) → shape_from p s is at ≡ Some t → at < p + code_size is
below p s [] at t h = absurd (cc)
below p s (i ∷ is) at t h = elim (p == at) as (λ b. (p == at) ≡ b → (if b then Some s else shape_from (p + instr_size i) (next_shape i s) is at) ≡ Some t → at < p + (instr_size i + code_size is)) [
  | true ↦ λ e f. let same : p ≡ at = grind (arith, e) in let y = some_bytes i in omega (arith, same, y)
  | false ↦ λ e f. let x = below (p + instr_size i) (next_shape i s) is at t f in omega (arith, x)
] refl h

pub few_args : (p : PrimId) → most_args p < 2 ^ 8
few_args prim.Eq = omega arith
few_args prim.Ne = omega arith
few_args prim.Lt = omega arith
few_args prim.Le = omega arith
few_args prim.Gt = omega arith
few_args prim.Ge = omega arith
few_args prim.Lgt = omega arith
few_args prim.Ident = omega arith
few_args prim.Differ = omega arith
few_args prim.Dupl = omega arith
few_args prim.Replace = omega arith
few_args prim.Remdr = omega arith
few_args prim.Array = omega arith
few_args prim.Table = omega arith
few_args prim.Item = omega arith
few_args prim.Convert = omega arith
few_args prim.Define = omega arith
few_args prim.Apply = omega arith
few_args prim.Input = omega arith
few_args prim.Output = omega arith
few_args _ = omega arith

no_more : (m n : ℕ) → not (nat_lt m n) ≡ true → n ≤ m
no_more m n h = elim (nat_lt m n) as (λ b. nat_lt m n ≡ b → not b ≡ true → n ≤ m) [
  | true ↦ λ e f. absurd (cc)
  | false ↦ λ e f. grind (arith, nat_tests, e)
] refl h

less_of : (m n : ℕ) → nat_lt m n ≡ true → m < n
less_of m n h = grind (arith, nat_tests, h)

name_within : (texts : List Bytes) (k : ℕ) → is_nonnull (slice_get texts k) ≡ true → k < length texts
name_within [] k h = absurd (cc)
name_within (t ∷ ts) zero h = omega arith
name_within (t ∷ ts) (suc k) h = let x = name_within ts k h in omega (arith, x)

-- tables that have less than 2^32 entries
record Few (im : Image) : Type 0 where
  statements : length im.statements < 2 ^ 32
  strings : length im.strings < 2 ^ 32
  expressions : length im.expressions < 2 ^ 32
  patterns : length im.patterns < 2 ^ 32

statement_few : (im : Image) → Few im → (k : ℕ) → is_statement im k ≡ true → k < 2 ^ 32
statement_few im few k h = let x = no_more (length im.statements) k ((and_parts (nat_lt 0 k) (not (nat_lt (length im.statements) k)) h).1) in let y = few.statements in omega (arith, x, y)

string_few : (im : Image) → Few im → (k : ℕ) → is_nonnull_string im k ≡ true → k < 2 ^ 32
string_few im few k h = let x = name_within im.strings k h in let y = few.strings in omega (arith, x, y)

instr_fits : (im : Image) → Few im → (os : List ℕ) (i : Instr) (p : ℕ) (s : Shape) (rest : List Instr) → p + (instr_size i + code_size rest) < 2 ^ 32 → Fits im i → Targets os i p s rest → InstrFits i
instr_fits im few os (op.Begin f) p s rest small (a, b) (t, o) = let x = below (p + 5) (next_shape (op.Begin f) s) rest f bare t in omega (arith, x, small)
instr_fits im few os (op.Try f) p s rest small (a, b) t = let x = below (p + 5) (next_shape (op.Try f) s) rest f s t in omega (arith, x, small)
instr_fits im few os (op.Goto k) p s rest small (a, b) t = statement_few im few k a
instr_fits im few os (op.Str k) p s rest small (a, b) t = let x = less_of k (length im.strings) a in let y = few.strings in omega (arith, x, y)
instr_fits im few os (op.Var k) p s rest small (a, b) t = string_few im few k a
instr_fits im few os (op.Int z) p s rest small (a, b) t = b
instr_fits im few os (op.Elem n) p s rest small (a, b) t = b
instr_fits im few os (op.Expr k) p s rest small (a, b) t = let x = less_of k (length im.expressions) a in let y = few.expressions in omega (arith, x, y)
instr_fits im few os (op.CallV k n) p s rest small (a, b) t = (string_few im few k a, b)
instr_fits im few os (op.CallN k n) p s rest small (a, b) t = (string_few im few k a, b)
instr_fits im few os (op.PrimV f n) p s rest small (a, b) t = let x = no_more (most_args f) n a in let y = few_args f in omega (arith, x, y)
instr_fits im few os (op.PrimN f n) p s rest small (a, b) t = let x = no_more (most_args f) n a in let y = few_args f in omega (arith, x, y)
instr_fits im few os (op.Pat k) p s rest small (a, b) t = let x = less_of k (length im.patterns) a in let y = few.patterns in omega (arith, x, y)
instr_fits im few os _ p s rest small f t = tt

code_fits : (im : Image) → Few im → (os : List ℕ) (p : ℕ) (s : Shape) (is : List Instr) → p + code_size is < 2 ^ 32 → Sound (Fits im) os p s is → AllByRecursion InstrFits is
code_fits im few os p s [] small h = tt
code_fits im few os p s (i ∷ is) small (f, a, t, h) = (instr_fits im few os i p s is small f t, code_fits im few os (p + instr_size i) (next_shape i s) is (omega (arith, small)) h)

-- level 2 has each instruction
all_of_two : (is : List Instr) → AllByRecursion (IsOf levels.Two) is
all_of_two [] = tt
all_of_two (i ∷ is) = (refl, all_of_two is)

-- ---- the image

due_is : (es : List Expr) → due es ≡ 9 * of_later es + length es
due_is [] = omega arith
due_is (e ∷ es) = let h = due_is es in omega (arith, h)

module _ (ss : List Stmt) (fit : IsFit ss) where
  abbrev im : Image
  im = generated_image [] ss

  abbrev first : Part
  first = joined_parts (program_parts ss)

  abbrev second : Part
  second = joined_parts (expressions_of ss)

  abbrev code_first : List Instr
  code_first = first.code im.strings 0 0

  abbrev code_second : List Instr
  code_second = second.code im.strings (length first.later) (code_size code_first)

  both_small : code_size code_first + code_size code_second ≤ 251658240
  both_small =
      let a = (statements_weigh (labelled_from 1 ss) 1 ss).code im.strings 0 0 in
      let b = queue_code (weights.total weight ss) first.later im.strings (length first.later) (code_size code_first) in
      let c = fit.count in
      let d = fit.together in
      omega (arith, a, b, c, d)

  pub code_small : code_size im.code ≤ 251658240
  code_small = let a = both_small in let b = total_append code_first code_second in let c : code_size im.code ≡ code_size (code_first ++ code_second) = ap code_size (code_is ss fit.ends fit.statements) in omega (arith, a, b, c)

  texts_small : of_texts (label_texts ss) + of_texts (code_of ss).texts ≤ 16777216
  unfolding ◌>>◌
  texts_small =
      let a = (statements_weigh (labelled_from 1 ss) 1 ss).texts in
      let b = queue_texts (weights.total weight ss) first.later in
      let c = labels_weigh ss in
      let d = fit.together in
      let e = sum_join of_name first.texts second.texts in
      omega (arith, a, b, c, d, e)

  strings_count : length im.strings ≤ 16777216
  strings_count =
      let a = few_strings (label_texts ss) (with_texts (code_of ss).texts []) in
      let b = few_strings (code_of ss).texts [] in
      let c = texts_small in
      omega (arith, a, b, c)

  statements_count : length im.statements ≤ 16777216
  statements_count = let a = offsets_count ss fit.ends fit.statements in let b = fit.count in omega (arith, a, b)

  expressions_count : length im.expressions ≤ 16777216
  expressions_count =
      let a = offsets_length (expressions_of ss) im.strings (length first.later) (code_size code_first) in
      let b = queue_length (weights.total weight ss) first.later in
      let c = fit.together in
      omega (arith, a, b, c)

  few : Few im
  few = record {
    statements = let h = statements_count in omega (arith, h);
    strings = let h = strings_count in omega (arith, h);
    expressions = let h = expressions_count in omega (arith, h);
    patterns = omega arith;
  }

  -- the law
  pub spelt : (cards : List ℕ) → AreCards levels.Two im.statements cards → IsImage (generated_image cards ss)
  spelt cards are = record {
    entry = (let (j, is, less) = entry_among ss fit.ends fit.statements (entry_label ss) in let c = fit.count in let h : entry_in ss (entry_label ss) < 2 ^ 32 = omega (arith, is, less, c) in h);
    strings = record {
      count = (let h = strings_count in let e : length im.strings ≤ most = omega (arith, h) in e);
      entries =
          let h = texts_small in
          texts_follow (label_texts ss) (with_texts (code_of ss).texts []) (omega (arith, h)) (texts_follow (code_of ss).texts [] (omega (arith, h)) tt);
    };
    labels = record {
      count = (let h = labels_count im.strings 1 ss in let c = fit.count in let e : length im.labels ≤ most = omega (arith, h, c) in e);
      entries = labels_follow im.strings (few.strings) 1 ss (let c = fit.count in omega (arith, c)) [] (λ m h. refl);
    };
    statements = record {
      count = (let h = statements_count in let e : length im.statements ≤ most = omega (arith, h) in e);
      entries = statements_follow im.strings (program_parts ss) (statements_full (labelled_from 1 ss) 1 ss) 0 0 [] refl (let h = both_small in omega (arith, h));
    };
    cards = are;
    expressions = record {
      count = (let h = expressions_count in let e : length im.expressions ≤ most = omega (arith, h) in e);
      entries = expressions_follow im.strings (expressions_of ss) (length first.later) (code_size code_first) [] (let h = both_small in omega (arith, h));
    };
    patterns = record { count = omega arith; entries = tt };
    code = code_fits im few im.statements 0 bare im.code (let h = code_small in omega (arith, h)) (is_sound ss fit.ends fit.statements).sound;
    code_length = (let h = code_small in let l = code_long im.code in let e : length (code_bytes im.code) ≤ most_code = omega (arith, h, l) in e);
    level = all_of_two im.code;
  }
