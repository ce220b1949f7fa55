-- The code of an image is sound.
use Rattle.std.proofs.Common.{◌≡◌, ℕ, suc, ◌+◌, ◌<◌, ◌≤◌, ◌==◌, List, [], ◌∷◌, ◌++◌, length, refl, sym, ap, ◌∙◌, subst, arith, true, false, ◌||◌, Some, None, Option, inl, inr, ◌⊎◌, append_assoc, append-nil, length-append}
use Rattle.std.specs.Prelude.{map, nat_lt}
use Rattle.std.specs.List.{AllByRecursion, Contains, list_any}
use Rattle.std.proofs.lemmas.List.{length-map}
use Rattle.model.specs.declared.image.Image.{Image}
use Rattle.model.specs.declared.instr.Instr.{Instr}
use Rattle.model.specs.declared.instr.Instr.TheVariants as op
use Rattle.model.specs.Module.Flow.{Shape, bare, asked, BreaksFlow, IsLeast}
use Rattle.model.specs.Module.Images.{code_size}
use Rattle.model.specs.Language.Programs.{labelled_from}
use Rattle.model.specs.Deck.Trees.{Bytes, Expr, Body, Goto, Stmt, Plain, End}
use Rattle.model.specs.Module.WellFormed.{is_statement}
use Rattle.expr_codegen.specs.Code.{Part, nothing, one, ◌>>◌, handled, value}
use Rattle.codegen.specs.Layout.{body, after_success, after_failure, statement, statements, program_parts, expression, expressions_of, joined_parts, offsets, generated_image}
use Rattle.codegen_laws.specs.Fit.{Fit, FitStmt, EndsInEnd}
use Rattle.codegen_laws.proofs.ExpressionsFlow.{value_flows}
use Rattle.codegen_laws.proofs.Flows.{Fits, shape_past, Flows, flows_nothing, flows_one, flows_join}
use Rattle.codegen_laws.proofs.Offsets.{offsets_length, Full, full_left, statement_full, expression_full}
use Rattle.codegen_laws.proofs.Placing.{held_first, held_second, later_of, code_is, later_fits, written, offsets_count, labelled_within, some_statement}
use Rattle.codegen_laws.proofs.Shapes.{after, shape_from, Sound, after_join, sound_join, ends_well, contains_cons, contains_nil, IsSound, no_break}
use Rattle.codegen_laws.proofs.Standing.{Held, AllHeld, all_left, all_right}
use Rattle.codegen_laws.proofs.StatementsFlow.{begun, inner_flows, failure_flows}

-- where there is code, it begins with what stands there
start : (p : ℕ) (s : Shape) (ys zs : List Instr) → Full zs → shape_from p s (ys ++ zs) p ≡ Some s
start p s [] [] f = absurd f
start p s [] (z ∷ zs) f = let e : (p == p) ≡ true = grind arith in rw e refl
start p s (y ∷ ys) zs f = let e : (p == p) ≡ true = grind arith in rw e refl

-- every number that is one of these is one of those
abbrev pub Inside : List ℕ → List ℕ → Type 0
Inside os all = (x : ℕ) → list_any (λ y. y == x) os ≡ true → list_any (λ y. y == x) all ≡ true

first_inside : (o : ℕ) (os all : List ℕ) → Inside (o ∷ os) all → list_any (λ y. y == o) all ≡ true
first_inside o os all i = i o (let e : (o == o) ≡ true = grind arith in rw e refl)

rest_inside : (o : ℕ) (os all : List ℕ) → Inside (o ∷ os) all → Inside os all
rest_inside o os all i x h = i x (elim (o == x) as (λ b. b || list_any (λ y. y == x) os ≡ true) [ true ↦ refl | false ↦ h ])

contains_above : (texts : List Bytes) (ps : List Part) (k at o : ℕ) → Contains (offsets ps texts k at) o → at ≤ o
contains_above texts [] k at o c = absurd (contains_nil o c)
contains_above texts (p ∷ ps) k at o c = elim (contains_cons at o _ c) [
  | inl e ↦ omega (arith, e)
  | inr h ↦ (let x = contains_above texts ps (k + length p.later) (at + code_size (p.code texts k at)) o h in omega (arith, x))
]

module _ (im : Image) (number_of : Bytes → Option ℕ) (there : (l : Bytes) (n : ℕ) → number_of l ≡ Some n → is_statement im n ≡ true) where
  abbrev inner : ℕ → Body → Goto → Part
  inner n b g = body b >> one op.Body >> after_success number_of n g

  statement_flows : (n : ℕ) (l : Option Bytes) (b : Body) (g : Goto) → FitStmt (Plain l b g) → is_statement im (suc n) ≡ true → (f : ℕ) → Flows im (begun f) bare (inner n b g >> after_failure number_of g)
  statement_flows n l b g (x, y) s f = flows_join im (inner_flows im number_of there n b g x y s f) (failure_flows im number_of there g y)

  -- the numbers of statements from n to the last
  abbrev AreThere : ℕ → ℕ → Type 0
  AreThere n count = (i : ℕ) → n ≤ i → i < n + count → is_statement im i ≡ true

  next_there : (n : ℕ) (ss : List Stmt) → EndsInEnd ss → AreThere n (suc (length ss)) → is_statement im (suc n) ≡ true
  next_there n ss ends t = let h = some_statement ss ends in t (suc n) (omega arith) (omega (arith, h))

  rest_there : (n count : ℕ) → AreThere n (suc count) → AreThere (suc n) count
  rest_there n count t i a b = t i (omega (arith, a)) (omega (arith, b))

  abbrev list_of : ℕ → List Stmt → Part
  list_of n ss = joined_parts (statements number_of n ss)

  list_full : (n : ℕ) (ss : List Stmt) → EndsInEnd ss → (k p : ℕ) → Full ((list_of n ss).code im.strings k p)
  unfolding ◌>>◌
  list_full n [] ends k p = absurd ends
  list_full n (s ∷ ss) ends k p = full_left ((statement number_of n s).code im.strings k p) _ (statement_full number_of n s im.strings k p)

  statement_leaves : (n : ℕ) (l : Option Bytes) (b : Body) (g : Goto) → FitStmt (Plain l b g) → is_statement im (suc n) ≡ true → (k p : ℕ) → after ((statement number_of n (Plain l b g)).code im.strings k p) bare ≡ bare
  unfolding handled
  statement_leaves n l b g fit s k p = (statement_flows n l b g fit s (p + 5 + code_size ((inner n b g).code im.strings k (p + 5)))).leaves k (p + 5)

  list_leaves : (n : ℕ) (ss : List Stmt) → EndsInEnd ss → AllByRecursion FitStmt ss → AreThere n (length ss) → (k p : ℕ) → after ((list_of n ss).code im.strings k p) bare ≡ asked
  unfolding ◌>>◌ one nothing
  list_leaves n [] ends fit t k p = absurd ends
  list_leaves n (End e ∷ []) ends fit t k p = refl
  list_leaves n (End e ∷ s ∷ ss) ends fit t k p = absurd ends
  list_leaves n (Plain l b g ∷ ss) ends fit t k p =
      let a = statement number_of n (Plain l b g) in
      let xs = a.code im.strings k p in
      let q : ℕ = p + code_size xs in
      let ys = (list_of (suc n) ss).code im.strings (k + length a.later) q in
      after_join xs ys bare ∙ ap (after ys) (statement_leaves n l b g fit.0 (next_there n ss ends t) k p) ∙ list_leaves (suc n) ss ends fit.1 (rest_there n (length ss) t) (k + length a.later) q

  -- BEGIN, what stands before and at the place to which it leads, and the statements behind
  begin_sound : (n : ℕ) (l : Option Bytes) (b : Body) (g : Goto) → FitStmt (Plain l b g) → is_statement im (suc n) ≡ true → (k p : ℕ) → AllHeld im.strings (statement number_of n (Plain l b g)).texts
      → k + length (statement number_of n (Plain l b g)).later ≤ length im.expressions → list_any (λ o. o == p) im.statements ≡ true → (zs : List Instr) → Full zs
      → Sound (Fits im) im.statements (p + code_size ((statement number_of n (Plain l b g)).code im.strings k p)) bare zs
      → Sound (Fits im) im.statements p bare ((statement number_of n (Plain l b g)).code im.strings k p ++ zs)
  unfolding ◌>>◌ handled
  begin_sound n l b g fit s k p held room among zs full more =
      let a = inner n b g in
      let xs = a.code im.strings k (p + 5) in
      let f : ℕ = p + 5 + code_size xs in
      let ys = (after_failure number_of g).code im.strings (k + length a.later) f in
      let both = statement_flows n l b g fit s f in
      let target : shape_from (p + 5) (begun f) ((xs ++ ys) ++ zs) f ≡ Some bare =
      ap (λ is. shape_from (p + 5) (begun f) is f) (append_assoc xs ys zs)
      ∙ shape_past (p + 5) (begun f) xs (ys ++ zs) f (omega arith)
      ∙ ap (λ x. shape_from f x (ys ++ zs) f) ((inner_flows im number_of there n b g fit.0 fit.1 s f).leaves k (p + 5))
      ∙ start f bare ys zs full in
      let behind : Sound (Fits im) im.statements (p + 5 + code_size (xs ++ ys)) (after (xs ++ ys) (begun f)) zs =
      subst (λ x. Sound (Fits im) im.statements (p + 5 + code_size (xs ++ ys)) x zs) (sym (both.leaves k (p + 5)))
      (subst (λ m. Sound (Fits im) im.statements m bare zs) (let e : p + (5 + code_size (xs ++ ys)) ≡ p + 5 + code_size (xs ++ ys) = omega arith in e) more) in
      ((refl, tt), refl, (target, among), sound_join (Fits im) im.statements (p + 5) (begun f) (xs ++ ys) zs (both.sound k (p + 5) held room) behind)

  list_sound : (n : ℕ) (ss : List Stmt) → EndsInEnd ss → AllByRecursion FitStmt ss → AreThere n (length ss) → (k p : ℕ) → AllHeld im.strings (list_of n ss).texts
      → k + length (list_of n ss).later ≤ length im.expressions → Inside (offsets (statements number_of n ss) im.strings k p) im.statements → Sound (Fits im) im.statements p bare ((list_of n ss).code im.strings k p)
  unfolding ◌>>◌ one nothing
  list_sound n [] ends fit t k p held room i = absurd ends
  list_sound n (End e ∷ []) ends fit t k p held room i = ((refl, tt), refl, tt, tt)
  list_sound n (End e ∷ s ∷ ss) ends fit t k p held room i = absurd ends
  list_sound n (Plain l b g ∷ ss) ends fit t k p held room i =
      let a = statement number_of n (Plain l b g) in
      let xs = a.code im.strings k p in
      let q : ℕ = p + code_size xs in
      let next = list_of (suc n) ss in
      let j = length-append a.later next.later in
      let os = offsets (statements number_of (suc n) ss) im.strings (k + length a.later) q in
      begin_sound n l b g fit.0 (next_there n ss ends t) k p (all_left (Held im.strings) a.texts next.texts held) (omega (arith, room, j)) (first_inside p os im.statements i)
      (next.code im.strings (k + length a.later) q) (list_full (suc n) ss ends (k + length a.later) q)
      (list_sound (suc n) ss ends fit.1 (rest_there n (length ss) t) (k + length a.later) q (all_right (Held im.strings) a.texts next.texts held) (omega (arith, room, j)) (rest_inside p os im.statements i))

  -- each statement begins in a goto, with nothing
  bare_at : (n : ℕ) (ss : List Stmt) → EndsInEnd ss → AllByRecursion FitStmt ss → AreThere n (length ss) → (k p : ℕ) (tail : List Instr) (o : ℕ) → Contains (offsets (statements number_of n ss) im.strings k p) o
      → shape_from p bare ((list_of n ss).code im.strings k p ++ tail) o ≡ Some bare
  unfolding ◌>>◌ one nothing
  bare_at n [] ends fit t k p tail o c = absurd ends
  bare_at n (End e ∷ []) ends fit t k p tail o c = elim (contains_cons p o [] c) [
    | inl e ↦ (let h : (p == o) ≡ true = grind (arith, e) in rw h refl)
    | inr n ↦ absurd (contains_nil o n)
  ]
  bare_at n (End e ∷ s ∷ ss) ends fit t k p tail o c = absurd ends
  bare_at n (Plain l b g ∷ ss) ends fit t k p tail o c =
      let a = statement number_of n (Plain l b g) in
      let xs = a.code im.strings k p in
      let q : ℕ = p + code_size xs in
      let next = list_of (suc n) ss in
      let ys = next.code im.strings (k + length a.later) q in
      elim (contains_cons p o (offsets (statements number_of (suc n) ss) im.strings (k + length a.later) q) c) [
        | inl e ↦ subst (λ x. shape_from p bare ((xs ++ ys) ++ tail) x ≡ Some bare) e
            (ap (λ is. shape_from p bare is p) (append_assoc xs ys tail) ∙ start p bare xs (ys ++ tail) (full_left ys tail (list_full (suc n) ss ends (k + length a.later) q)))
        | inr h ↦
            (let up = contains_above im.strings (statements number_of (suc n) ss) (k + length a.later) q o h in
            ap (λ is. shape_from p bare is o) (append_assoc xs ys tail) ∙ shape_past p bare xs (ys ++ tail) o up
            ∙ ap (λ x. shape_from q x (ys ++ tail) o) (statement_leaves n l b g fit.0 (next_there n ss ends t) k p)
            ∙ bare_at (suc n) ss ends fit.1 (rest_there n (length ss) t) (k + length a.later) q tail o h)
      ]

  -- ---- expressions

  expression_flows : (e : Expr) → Fit e → Flows im asked asked (expression e)
  expression_flows e f = flows_join im (value_flows im e f asked (omega arith)) (flows_one im op.Ret (refl, tt) refl (λ p. tt))

  pub expressions_flow : (es : List Expr) → AllByRecursion Fit es → Flows im asked asked (joined_parts (map expression es))
  expressions_flow [] f = flows_nothing im
  expressions_flow (e ∷ es) (f, g) = flows_join im (expression_flows e f) (expressions_flow es g)

  pub asked_at : (es : List Expr) → AllByRecursion Fit es → (k p o : ℕ) → Contains (offsets (map expression es) im.strings k p) o → shape_from p asked ((joined_parts (map expression es)).code im.strings k p) o ≡ Some asked
  unfolding ◌>>◌
  asked_at [] f k p o c = absurd (contains_nil o c)
  asked_at (e ∷ es) f k p o c =
      let a = expression e in
      let xs = a.code im.strings k p in
      let q : ℕ = p + code_size xs in
      let ys = (joined_parts (map expression es)).code im.strings (k + length a.later) q in
      elim (contains_cons p o (offsets (map expression es) im.strings (k + length a.later) q) c) [
        | inl h ↦ subst (λ x. shape_from p asked (xs ++ ys) x ≡ Some asked) h (start_full p asked (xs ++ ys) (full_left xs ys (expression_full e im.strings k p)))
        | inr h ↦
            (let up = contains_above im.strings (map expression es) (k + length a.later) q o h in
            shape_past p asked xs ys o up ∙ ap (λ x. shape_from q x ys o) ((expression_flows e f.0).leaves k p) ∙ asked_at es f.1 (k + length a.later) q o h)
      ]
    where
      start_full : (p : ℕ) (s : Shape) (is : List Instr) → Full is → shape_from p s is p ≡ Some s
      start_full p s is f = start p s [] is f

-- ---- the end of the code

ends_join : (xs ys : List Instr) → ends_well ys ≡ true → ends_well (xs ++ ys) ≡ true
ends_join [] ys h = h
ends_join (x ∷ []) [] h = absurd (cc)
ends_join (x ∷ []) (y ∷ ys) h = h
ends_join (x ∷ z ∷ xs) ys h = ends_join (z ∷ xs) ys h

abbrev NoneOrWell : List Instr → Type 0
NoneOrWell is = (is ≡ []) ⊎ (ends_well is ≡ true)

ends_with : (xs ys : List Instr) → ends_well xs ≡ true → NoneOrWell ys → ends_well (xs ++ ys) ≡ true
ends_with xs ys h (inl e) = subst (λ zs. ends_well (xs ++ zs) ≡ true) (sym e) (subst (λ zs. ends_well zs ≡ true) (sym (append-nil xs)) h)
ends_with xs ys h (inr e) = ends_join xs ys e

expressions_end : (texts : List Bytes) (es : List Expr) (k p : ℕ) → NoneOrWell ((joined_parts (map expression es)).code texts k p)
unfolding ◌>>◌ one nothing
expressions_end texts [] k p = inl refl
expressions_end texts (e ∷ es) k p =
    let a = expression e in
    let xs = a.code texts k p in
    inr (ends_with xs _ (ends_join ((value e).code texts k p) (op.Ret ∷ []) refl) (expressions_end texts es (k + length a.later) (p + code_size xs)))

statements_end : (f : Bytes → Option ℕ) (texts : List Bytes) (n : ℕ) (ss : List Stmt) → EndsInEnd ss → (k p : ℕ) → ends_well ((joined_parts (statements f n ss)).code texts k p) ≡ true
unfolding ◌>>◌ one nothing
statements_end f texts n [] ends k p = absurd ends
statements_end f texts n (End e ∷ []) ends k p = refl
statements_end f texts n (End e ∷ s ∷ ss) ends k p = absurd ends
statements_end f texts n (Plain l b g ∷ ss) ends k p =
    let a = statement f n (Plain l b g) in
    let xs = a.code texts k p in
    ends_join xs _ (statements_end f texts (suc n) ss ends (k + length a.later) (p + code_size xs))

-- ---- the image

module _ (ss : List Stmt) (ends : EndsInEnd ss) (fit : AllByRecursion FitStmt ss) where
  abbrev im : Image
  im = generated_image [] ss

  abbrev first : Part
  first = joined_parts (program_parts ss)

  abbrev second : Part
  second = joined_parts (expressions_of ss)

  pub expressions_count : length im.expressions ≡ length (later_of ss ends fit)
  expressions_count = offsets_length (expressions_of ss) im.strings (length first.later) (code_size (first.code im.strings 0 0)) ∙ ap length (written ss ends fit) ∙ length-map (later_of ss ends fit) expression

  pub statement_there : (i : ℕ) → 1 ≤ i → i < 1 + length ss → is_statement im i ≡ true
  statement_there i a b =
      let c = offsets_count ss ends fit in
      let x : nat_lt 0 i ≡ true = grind (arith, a) in
      let y : nat_lt (length im.statements) i ≡ false = grind (arith, b, c) in
      rw (x, y) refl

  label_there : (l : Bytes) (n : ℕ) → labelled_from 1 ss l ≡ Some n → is_statement im n ≡ true
  label_there l n e = let (j, is, less) = labelled_within 1 ss l n e in statement_there n (omega (arith, is)) (omega (arith, is, less))

  room : length first.later + length second.later ≤ length im.expressions
  unfolding ◌>>◌
  room = let c = expressions_count in let j = length-append first.later second.later in omega (arith, c, j)

  abbrev code_first : List Instr
  code_first = first.code im.strings 0 0

  abbrev code_second : List Instr
  code_second = second.code im.strings (length first.later) (code_size code_first)

  whole : im.code ≡ code_first ++ code_second
  whole = code_is ss ends fit

  leaves_first : after code_first bare ≡ asked
  leaves_first = list_leaves im (labelled_from 1 ss) label_there 1 ss ends fit statement_there 0 0

  second_flows : Flows im asked asked second
  second_flows = subst (λ ps. Flows im asked asked (joined_parts ps)) (sym (written ss ends fit)) (expressions_flow im (labelled_from 1 ss) label_there (later_of ss ends fit) (later_fits ss ends fit))

  sound_all : Sound (Fits im) im.statements 0 bare (code_first ++ code_second)
  sound_all = sound_join (Fits im) im.statements 0 bare code_first code_second
      (list_sound im (labelled_from 1 ss) label_there 1 ss ends fit statement_there 0 0 (held_first ss ends fit) (let r = room in omega (arith, r)) (λ x h. h))
      (subst (λ m. Sound (Fits im) im.statements m (after code_first bare) code_second) (let e : code_size code_first ≡ 0 + code_size code_first = omega arith in e)
      (subst (λ x. Sound (Fits im) im.statements (code_size code_first) x code_second) (sym leaves_first) (second_flows.sound (length first.later) (code_size code_first) (held_second ss ends fit) room)))

  asked_second : (o : ℕ) → Contains im.expressions o → shape_from 0 bare (code_first ++ code_second) o ≡ Some asked
  asked_second o c =
      let n : ℕ = length first.later in
      let at : ℕ = code_size code_first in
      let es = later_of ss ends fit in
      let up = contains_above im.strings (expressions_of ss) n at o c in
      let there = asked_at im (labelled_from 1 ss) label_there es (later_fits ss ends fit) n at o (subst (λ ps. Contains (offsets ps im.strings n at) o) (written ss ends fit) c) in
      let back : shape_from at asked code_second o ≡ Some asked = subst (λ ps. shape_from at asked ((joined_parts ps).code im.strings n at) o ≡ Some asked) (sym (written ss ends fit)) there in
      shape_past 0 bare code_first code_second o (omega (arith, up))
      ∙ ap (λ x. shape_from (0 + at) x code_second o) leaves_first
      ∙ ap (λ m. shape_from m asked code_second o) (let e : 0 + at ≡ at = omega arith in e)
      ∙ back

  ends_second : NoneOrWell code_second
  ends_second = subst (λ ps. NoneOrWell ((joined_parts ps).code im.strings (length first.later) (code_size code_first))) (sym (written ss ends fit)) (expressions_end im.strings (later_of ss ends fit) (length first.later) (code_size code_first))

  pub is_sound : IsSound (Fits im) im
  is_sound = record {
    sound = subst (λ is. Sound (Fits im) im.statements 0 bare is) (sym whole) sound_all;
    ends = subst (λ is. ends_well is ≡ true) (sym whole) (ends_with code_first code_second (statements_end (labelled_from 1 ss) im.strings 1 ss ends 0 0) ends_second);
    statements = λ o c. subst (λ is. shape_from 0 bare is o ≡ Some bare) (sym whole) (bare_at im (labelled_from 1 ss) label_there 1 ss ends fit statement_there 0 0 code_second o c);
    expressions = λ o c. subst (λ is. shape_from 0 bare is o ≡ Some asked) (sym whole) (asked_second o c);
  }

  -- the law
  pub flows : IsLeast (BreaksFlow im) None
  flows = no_break (Fits im) im is_sound
