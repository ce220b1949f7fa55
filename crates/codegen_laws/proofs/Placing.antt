-- The code of a program stands in its image.
use Rattle.std.proofs.Common.{◌≡◌, ℕ, zero, suc, ◌+◌, ◌<◌, ◌≤◌, List, [], ◌∷◌, ◌++◌, length, refl, sym, ap, ◌∙◌, subst, arith, true, false, Bool, Some, None, Option, if◌then◌else◌, slice_get, bytes_eq, append_assoc}
use Rattle.std.specs.Prelude.{map}
use Rattle.std.specs.List.{AllByRecursion}
use Rattle.model.specs.declared.instr.Instr.TheVariants as op
use Rattle.model.specs.Machine.Steps.{Module}
use Rattle.model.specs.Module.Images.{code_size, module_of, statement_offset, statement_labelled, end_of}
use Rattle.model.specs.Module.Placed.{CodeV, CodeS, Placed, Is}
use Rattle.model.specs.Language.Programs.{Program, program, statement_in, labelled_from, entry_in, entry_label, number_or, end_label}
use Rattle.model.specs.Deck.Trees.{Bytes, Expr, Body, Goto, Stmt, Plain, End}
use Rattle.model.specs.Deck.Weights as weights
use Rattle.model.specs.Deck.Weights.{weight}
use Rattle.expr_codegen.specs.Texts.{with_texts}
use Rattle.expr_codegen.specs.Code.{Part, ◌>>◌}
use Rattle.codegen.specs.Layout.{statement, statements, program_parts, expression, expressions_of, joined_parts, offsets, label_entries, label_texts, code_of, texts_of, generated_image}
use Rattle.codegen_laws.specs.Fit.{Fit, FitStmt, EndsInEnd}
use Rattle.codegen_laws.proofs.ExpressionsPlaced.{value_placed}
use Rattle.codegen_laws.proofs.Offsets.{numbered, offsets_length, statements_length, statements_full, get_within}
use Rattle.codegen_laws.proofs.Queue.{later_statements, later_expressions}
use Rattle.codegen_laws.proofs.Sizes.{all_written, statements_weigh, rest_weighs}
use Rattle.codegen_laws.proofs.Standing.{Held, AllHeld, all_left, all_right, all_join, Numbered, numbered_left, numbered_right, StandsFrom, stands_left, stands_right, whole_stands, means_one, means_join}
use Rattle.codegen_laws.proofs.StatementsPlaced.{statement_placed, end_placed}
use Rattle.codegen_laws.proofs.TextPlaces.{all_held, all_stay}

pub first_offset : (f : Bytes → Option ℕ) (n : ℕ) (ss : List Stmt) → EndsInEnd ss → (texts : List Bytes) (k at : ℕ) → slice_get (offsets (statements f n ss) texts k at) 0 ≡ Some at
first_offset f n [] ends texts k at = absurd ends
first_offset f n (s ∷ ss) ends texts k at = refl

module _ (prog : Program) (img : Module) (texts : List Bytes) (strings : (k : ℕ) → img.string k ≡ slice_get texts k) (trees_at : ℕ → Option Expr) where
  -- statements from number n on stand where their offsets say
  stand_at : (n : ℕ) (ss : List Stmt) → EndsInEnd ss → AllByRecursion FitStmt ss → (k p : ℕ) → AllHeld texts (joined_parts (statements prog.label n ss)).texts
      → Numbered trees_at k (joined_parts (statements prog.label n ss)).later → StandsFrom img p ((joined_parts (statements prog.label n ss)).code texts k p)
      → ((i : ℕ) → img.stmt (n + i) ≡ slice_get (offsets (statements prog.label n ss) texts k p) i)
      → ((i o : ℕ) → slice_get (offsets (statements prog.label n ss) texts k p) i ≡ Some o → img.number o ≡ n + i)
      → (i o : ℕ) → slice_get (offsets (statements prog.label n ss) texts k p) i ≡ Some o → CodeS prog img trees_at (n + i) (slice_get ss i) o
  unfolding ◌>>◌
  stand_at n [] ends fit k p held num st os ns i o e = absurd ends
  stand_at n (End l ∷ []) ends fit k p held num st os ns zero o e =
      let z : p ≡ o = cc in
      let same : n ≡ n + 0 = omega arith in
      let a = statement prog.label n (End l) in
      let here = (end_placed prog img texts strings trees_at n l).at k p (all_left (Held texts) a.texts _ held) (numbered_left trees_at k a.later _ num) (stands_left img p (a.code texts k p) _ st) in
      subst (λ m. CodeS prog img trees_at m (Some (End l)) o) same (subst (λ x. CodeS prog img trees_at n (Some (End l)) x) z here)
  stand_at n (End l ∷ []) ends fit k p held num st os ns (suc i) o e = absurd (cc)
  stand_at n (End l ∷ s ∷ ss) ends fit k p held num st os ns i o e = absurd ends
  stand_at n (Plain l b g ∷ ss) ends fit k p held num st os ns zero o e =
      let z : p ≡ o = cc in
      let same : n + 0 ≡ n = omega arith in
      let one : n + 1 ≡ suc n = omega arith in
      let a = statement prog.label n (Plain l b g) in
      let q : ℕ = p + code_size (a.code texts k p) in
      let next : img.stmt (suc n) ≡ Some q = subst (λ m. img.stmt m ≡ Some q) one (os 1 ∙ first_offset prog.label (suc n) ss ends texts (k + length a.later) q) in
      let number : img.number p ≡ n = ns 0 p refl ∙ same in
      let here = (statement_placed prog img texts strings trees_at n l b g fit.0).at k p (all_left (Held texts) a.texts _ held) (numbered_left trees_at k a.later _ num) (stands_left img p (a.code texts k p) _ st) next number in
      subst (λ m. CodeS prog img trees_at m (Some (Plain l b g)) o) (sym same) (subst (λ x. CodeS prog img trees_at n (Some (Plain l b g)) x) z here)
  stand_at n (Plain l b g ∷ ss) ends fit k p held num st os ns (suc i) o e =
      let on : (j : ℕ) → suc n + j ≡ n + suc j = λ j. omega arith in
      let a = statement prog.label n (Plain l b g) in
      subst (λ m. CodeS prog img trees_at m (slice_get ss i) o) (on i)
      (stand_at (suc n) ss ends fit.1 (k + length a.later) (p + code_size (a.code texts k p)) (all_right (Held texts) a.texts _ held) (numbered_right trees_at k a.later _ num)
      (stands_right img p (a.code texts k p) _ st) (λ j. ap img.stmt (on j) ∙ os (suc j)) (λ j x h. ns (suc j) x h ∙ sym (on j)) i o e)

  -- each expression stands where its offset says
  expressions_stand : (es : List Expr) → AllByRecursion Fit es → (k p : ℕ) → AllHeld texts (joined_parts (map expression es)).texts → Numbered trees_at k (joined_parts (map expression es)).later
      → StandsFrom img p ((joined_parts (map expression es)).code texts k p) → (i : ℕ) (e : Expr) → slice_get es i ≡ Some e
      → (o q r : ℕ) × (slice_get (offsets (map expression es) texts k p) i ≡ Some o) × CodeV prog img trees_at e o q × Is prog img trees_at q op.Ret r
  unfolding ◌>>◌
  expressions_stand [] fit k p held num st i e h = absurd (cc)
  expressions_stand (x ∷ es) fit k p held num st zero e h =
      let z : x ≡ e = cc in
      let a = expression x in
      let here = (means_join img texts strings trees_at (value_placed prog img texts strings trees_at x fit.0) (means_one img texts strings trees_at op.Ret)).at k p
      (all_left (Held texts) a.texts _ held) (numbered_left trees_at k a.later _ num) (stands_left img p (a.code texts k p) _ st) in
      (p, here.0, p + code_size (a.code texts k p), refl, subst (λ y. CodeV prog img trees_at y p here.0) z here.1, here.2)
  expressions_stand (x ∷ es) fit k p held num st (suc i) e h =
      let a = expression x in
      expressions_stand es fit.1 (k + length a.later) (p + code_size (a.code texts k p)) (all_right (Held texts) a.texts _ held) (numbered_right trees_at k a.later _ num)
      (stands_right img p (a.code texts k p) _ st) i e h

-- ---- labels

labels_are : (texts : List Bytes) (n : ℕ) (ss : List Stmt) → EndsInEnd ss → AllHeld texts (label_texts ss) → (l : Bytes) (m : ℕ) → suc m ≡ n + length ss
    → statement_labelled texts (label_entries texts n ss) l (if bytes_eq end_label l then Some m else None) ≡ labelled_from n ss l
labels_are texts n [] ends held l m e = absurd ends
labels_are texts n (End x ∷ []) ends held l m e = ap (λ y. if bytes_eq end_label l then Some y else None) (let h : m ≡ n = omega (arith, e) in h)
labels_are texts n (End x ∷ s ∷ ss) ends held l m e = absurd ends
labels_are texts n (Plain None b g ∷ ss) ends held l m e = labels_are texts (suc n) ss ends held l m (omega (arith, e))
labels_are texts n (Plain (Some x) b g ∷ ss) ends held l m e =
    let more = labels_are texts (suc n) ss ends held.1 l m (omega (arith, e)) in
    rw held.0 (ap (λ r. if bytes_eq x l then Some n else r) more)

some_label : (b : Bool) (n : ℕ) (rest : Option ℕ) (k : ℕ) → (if b then Some n else rest) ≡ Some k → (P : ℕ → Type 0) → P n → ((rest ≡ Some k) → P k) → P k
some_label true n rest k e P here there = let same : n ≡ k = cc in subst P same here
some_label false n rest k e P here there = there e

abbrev pub Among : ℕ → ℕ → ℕ → Type 0
Among n count k = (j : ℕ) × (k ≡ n + j) × (j < count)

pub labelled_within : (n : ℕ) (ss : List Stmt) (l : Bytes) (k : ℕ) → labelled_from n ss l ≡ Some k → Among n (length ss) k
labelled_within n [] l k e = absurd (cc)
labelled_within n (s ∷ ss) l k e = some_label _ n (labelled_from (suc n) ss l) k e (λ x. Among n (suc (length ss)) x) (0, (let h : n ≡ n + 0 = omega arith in h), omega arith)
    (λ h. let (j, is, less) = labelled_within (suc n) ss l k h in (suc j, (let f : k ≡ n + suc j = omega (arith, is) in f), omega (arith, less)))

pub some_statement : (ss : List Stmt) → EndsInEnd ss → 1 ≤ length ss
some_statement [] ends = absurd ends
some_statement (s ∷ ss) ends = omega arith

not_last : (ss : List Stmt) → EndsInEnd ss → (j : ℕ) (l : Option Bytes) (b : Body) (g : Goto) → slice_get ss j ≡ Some (Plain l b g) → suc j < length ss
not_last [] ends j l b g e = absurd ends
not_last (End x ∷ []) ends zero l b g e = absurd (cc)
not_last (End x ∷ []) ends (suc j) l b g e = absurd (cc)
not_last (End x ∷ s ∷ ss) ends j l b g e = absurd ends
not_last (Plain x y z ∷ ss) ends zero l b g e = let h = some_statement ss ends in omega (arith, h)
not_last (Plain x y z ∷ ss) ends (suc j) l b g e = let h = not_last ss ends j l b g e in omega (arith, h)

-- ---- expressions by number

numbered_behind : (front xs : List Expr) → Numbered (slice_get (front ++ xs)) (length front) xs
numbered_behind front [] = tt
numbered_behind front (x ∷ xs) = (
  get_at front x xs,
  subst (λ n. Numbered (slice_get (front ++ x ∷ xs)) n xs) (snoc_length front x) (subst (λ ys. Numbered (slice_get ys) (length (front ++ x ∷ [])) xs) (append_assoc front (x ∷ []) xs) (numbered_behind (front ++ x ∷ []) xs)),
)
  where
    get_at : (front : List Expr) (x : Expr) (xs : List Expr) → slice_get (front ++ x ∷ xs) (length front) ≡ Some x
    get_at [] x xs = refl
    get_at (y ∷ front) x xs = get_at front x xs

    snoc_length : (front : List Expr) (x : Expr) → length (front ++ x ∷ []) ≡ suc (length front)
    snoc_length [] x = refl
    snoc_length (y ∷ front) x = ap suc (snoc_length front x)

-- ---- the program

module _ (ss : List Stmt) (ends : EndsInEnd ss) (fit : AllByRecursion FitStmt ss) where
  abbrev all : List Bytes
  all = texts_of ss

  abbrev first : Part
  first = joined_parts (program_parts ss)

  abbrev second : Part
  second = joined_parts (expressions_of ss)

  abbrev pub later_of : List Expr
  later_of = (code_of ss).later

  abbrev img : Module
  img = module_of (generated_image [] ss)

  abbrev prog : Program
  prog = program ss

  held : AllHeld all (code_of ss).texts
  held = all_stay (label_texts ss) (with_texts (code_of ss).texts []) (code_of ss).texts (all_held (code_of ss).texts [])

  pub held_first : AllHeld all first.texts
  unfolding ◌>>◌
  held_first = all_left (Held all) first.texts second.texts held

  pub held_second : AllHeld all second.texts
  unfolding ◌>>◌
  held_second = all_right (Held all) first.texts second.texts held

  numbers : Numbered (slice_get later_of) 0 later_of
  numbers = numbered_behind [] later_of

  numbers_first : Numbered (slice_get later_of) 0 first.later
  unfolding ◌>>◌
  numbers_first = numbered_left (slice_get later_of) 0 first.later second.later numbers

  numbers_second : Numbered (slice_get later_of) (length first.later) second.later
  unfolding ◌>>◌
  numbers_second = subst (λ n. Numbered (slice_get later_of) n second.later) (let e : 0 + length first.later ≡ length first.later = omega arith in e) (numbered_right (slice_get later_of) 0 first.later second.later numbers)

  pub code_is : (code_of ss).code all 0 0 ≡ first.code all 0 0 ++ second.code all (length first.later) (code_size (first.code all 0 0))
  unfolding ◌>>◌
  code_is =
      let a : 0 + length first.later ≡ length first.later = omega arith in
      let b : 0 + code_size (first.code all 0 0) ≡ code_size (first.code all 0 0) = omega arith in
      ap (λ n. first.code all 0 0 ++ second.code all n (0 + code_size (first.code all 0 0))) a ∙ ap (λ n. first.code all 0 0 ++ second.code all (length first.later) n) b

  stands : StandsFrom img 0 (first.code all 0 0 ++ second.code all (length first.later) (code_size (first.code all 0 0)))
  stands = subst (λ is. StandsFrom img 0 is) code_is (whole_stands img ((code_of ss).code all 0 0) refl)

  stands_second : StandsFrom img (code_size (first.code all 0 0)) (second.code all (length first.later) (code_size (first.code all 0 0)))
  stands_second = subst (λ n. StandsFrom img n (second.code all (length first.later) (code_size (first.code all 0 0)))) (let e : 0 + code_size (first.code all 0 0) ≡ code_size (first.code all 0 0) = omega arith in e)
      (stands_right img 0 (first.code all 0 0) (second.code all (length first.later) (code_size (first.code all 0 0))) stands)

  -- ---- expressions

  pub later_fits : AllByRecursion Fit later_of
  unfolding ◌>>◌
  later_fits = all_join Fit first.later second.later (later_statements prog.label 1 ss fit) (later_expressions (weights.total weight ss) first.later (later_statements prog.label 1 ss fit))

  pub written : expressions_of ss ≡ map expression later_of
  unfolding ◌>>◌
  written = all_written (weights.total weight ss) first.later (let h = (statements_weigh prog.label 1 ss).later in let r = rest_weighs ss in omega (arith, h, r))

  exprs_placed : (k : ℕ) (e : Expr) → slice_get later_of k ≡ Some e → (p q r : ℕ) × (img.expr k ≡ Some p) × CodeV prog img (slice_get later_of) e p q × Is prog img (slice_get later_of) q op.Ret r
  exprs_placed k e h =
      let n : ℕ = length first.later in
      let at : ℕ = code_size (first.code all 0 0) in
      let (p, q, r, is, c, l) = expressions_stand prog img all (λ j. refl) (slice_get later_of) later_of later_fits n at
      (subst (λ ps. AllHeld all (joined_parts ps).texts) written held_second) (subst (λ ps. Numbered (slice_get later_of) n (joined_parts ps).later) written numbers_second)
      (subst (λ ps. StandsFrom img at ((joined_parts ps).code all n at)) written stands_second) k e h in
      (p, q, r, ap (λ ps. slice_get (offsets ps all n at) k) written ∙ is, c, l)

  -- ---- statements

  abbrev offsets_of : List ℕ
  offsets_of = offsets (program_parts ss) all 0 0

  pub offsets_count : length offsets_of ≡ length ss
  offsets_count = offsets_length (program_parts ss) all 0 0 ∙ statements_length prog.label 1 ss

  pub stmts_placed : (k o : ℕ) → statement_offset offsets_of k ≡ Some o → CodeS prog img (slice_get later_of) k (statement_in ss k) o
  stmts_placed zero o e = absurd (cc)
  stmts_placed (suc k) o e =
      let one : (i : ℕ) → 1 + i ≡ suc i = λ i. omega arith in
      subst (λ n. CodeS prog img (slice_get later_of) n (slice_get ss k) o) (one k)
      (stand_at prog img all (λ j. refl) (slice_get later_of) 1 ss ends fit 0 0 held_first numbers_first (stands_left img 0 (first.code all 0 0) _ stands)
      (λ i. ap (statement_offset offsets_of) (one i)) (λ i x h. numbered all (program_parts ss) (statements_full prog.label 1 ss) 0 0 i x h ∙ sym (one i)) k o e)

  next_placed : (k : ℕ) (l : Option Bytes) (body : Body) (g : Goto) → statement_in ss k ≡ Some (Plain l body g) → (o : ℕ) × (statement_offset offsets_of (suc k) ≡ Some o)
  next_placed zero l body g e = absurd (cc)
  next_placed (suc k) l body g e = get_within offsets_of (suc k) (let h = not_last ss ends k l body g e in let c = offsets_count in omega (arith, h, c))

  labels_placed : (l : Bytes) → statement_labelled all (label_entries all 1 ss) l (end_of offsets_of l) ≡ labelled_from 1 ss l
  labels_placed l =
      ap (λ n. statement_labelled all (label_entries all 1 ss) l (if bytes_eq end_label l then Some n else None)) offsets_count
      ∙ labels_are all 1 ss ends (all_held (label_texts ss) (with_texts (code_of ss).texts [])) l (length ss) (omega arith)

  pub within_offsets : (k : ℕ) → Among 1 (length ss) k → (o : ℕ) × (statement_offset offsets_of k ≡ Some o)
  within_offsets k (j, is, less) =
      let g = get_within offsets_of j (let c = offsets_count in omega (arith, less, c)) in
      (g.0, subst (λ n. statement_offset offsets_of n ≡ Some g.0) (let e : suc j ≡ k = omega (arith, is) in e) g.1)

  pub entry_among : (o : Option Bytes) → Among 1 (length ss) (entry_in ss o)
  entry_among None = (0, refl, some_statement ss ends)
  entry_among (Some l) = number (labelled_from 1 ss l) refl
    where
      number : (o : Option ℕ) → labelled_from 1 ss l ≡ o → Among 1 (length ss) (number_or 1 o)
      number None e = (0, refl, some_statement ss ends)
      number (Some k) e = labelled_within 1 ss l k e

  -- the law
  pub placed : Placed prog img (slice_get later_of)
  placed = record {
    stmts = stmts_placed;
    next = next_placed;
    labels = labels_placed;
    gone_to = λ l k e. within_offsets k (labelled_within 1 ss l k e);
    exprs = exprs_placed;
    entry = refl;
    entry_is = within_offsets (entry_in ss (entry_label ss)) (entry_among (entry_label ss));
  }
