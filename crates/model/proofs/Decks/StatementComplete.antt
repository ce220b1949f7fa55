-- The parser of statements finds the statement that a token list spells.
use Rattle.std.proofs.Common.{◌≡◌, ◌≢◌, refl, sym, ◌∙◌, ap, subst, ℕ, suc, ◌+◌, ◌≤◌, Bool, true, false, List, [], ◌∷◌, ◌++◌, length, length-append, append_assoc, arith}
use Rattle.std.specs.Prelude.{Option, Some, None}
use Rattle.std.specs.Str.{bytes_eq}
use Rattle.std.proofs.lemmas.Slice.Eq.{bytes_eq-Decides}
use Rattle.model.specs.declared.tokens.Mark.{Mark}
use Rattle.model.specs.declared.tokens.Mark.TheVariants as mark
use Rattle.model.specs.Deck.Tokens.{Tok, Blank, Word, Sign}
use Rattle.model.specs.Deck.Trees.{Bytes, Expr, Place, Computed, Goto, Always, Body, Assign, Replace, Stmt, Plain, End}
use Rattle.model.specs.Deck.Grammar.{gap, IsElement, IsExpr}
use Rattle.model.specs.Deck.Statements.{on_success, on_failure, end_word, IsPlace, label, computed, InBrackets, brackets, IsExits, always, success, failure, success_first, failure_first, IsGoto, next, leaves, IsObject, absent, present, IsBody, nothing, evaluate, match, assign, replace, IsLabel, unlabelled, labelled, IsEntry, first, entry, Tree, plain, end, HasNoTree}
use Rattle.model.specs.Deck.Parse.{Parser, Ends, bind, skip, starts, tok_starts, sees_tok, sees, expect, element, whole, at_end}
use Rattle.model.specs.Deck.Parse as parse
use Rattle.model.specs.Deck.ParseStatements as spec
use Rattle.model.specs.Deck.ParseStatements.{sees_word, sees_spaced, starts_spaced, starts_word, word_spaced, from_success, from_failure, stmt}
use Rattle.model.proofs.Decks.ParseSteps.{bind_is}
use Rattle.model.proofs.Decks.ParseComplete.{Begins, Stops, begins_append, skip_mark, skip_head, starts_begins, expr_begins, element_begins, element_full, whole_full}

-- the tokens don't go on with the part that is spelled before them
record Over (rest : List Tok) : Type 0 where
  open_no : sees mark.Open rest ≡ false
  less_no : sees mark.Less rest ≡ false
  ends : parse.next rest ≡ Ends
  element_no : starts_spaced rest ≡ false

over_stops : (rest : List Tok) → Over rest → Stops 7 rest
over_stops rest o = record { open_no = o.open_no; less_no = o.less_no; past = rw o.ends tt }

over_gap : (h : Bool) → Over (gap h)
unfolding sees parse.next starts_spaced starts
over_gap true = record { open_no = refl; less_no = refl; ends = refl; element_no = refl }
over_gap false = record { open_no = refl; less_no = refl; ends = refl; element_no = refl }

over_equal : (ts : List Tok) → Over (Blank ∷ Sign mark.Equal ∷ ts)
unfolding sees parse.next starts_spaced starts
over_equal ts = record { open_no = refl; less_no = refl; ends = refl; element_no = refl }

over_goto : {g : Goto} {ts : List Tok} → IsGoto g ts → (h : Bool) → Over (ts ++ gap h)
unfolding sees parse.next starts_spaced starts
over_goto next h = over_gap h
over_goto (leaves exits ts g i) h = record { open_no = refl; less_no = refl; ends = refl; element_no = refl }

equal_no : {g : Goto} {ts : List Tok} → IsGoto g ts → (h : Bool) → sees_spaced mark.Equal (ts ++ gap h) ≡ false
unfolding sees_spaced sees
equal_no next true = refl
equal_no next false = refl
equal_no (leaves exits ts g i) h = refl

-- ---- what begins an element is no `=`
sign_no : (m : Mark) → parse.role_starts (parse.role m) ≡ true → parse.same mark.Equal m ≡ false
sign_no mark.Equal h = absurd (cc)
sign_no _ h = refl

tok_no : (t : Tok) → tok_starts t ≡ true → sees_tok mark.Equal t ≡ false
tok_no (Sign m) h = sign_no m h
tok_no _ h = refl

begins_equal_no : (ts : List Tok) → Begins ts → sees_spaced mark.Equal (Blank ∷ ts) ≡ false
unfolding sees_spaced sees
begins_equal_no ts b = subst (λ x. sees_spaced mark.Equal (Blank ∷ x) ≡ false) (sym b.is) (tok_no b.head b.start)

begins_spaced : (ts : List Tok) → Begins ts → starts_spaced (Blank ∷ ts) ≡ true
unfolding starts_spaced
begins_spaced ts b = starts_begins ts b

module _ (d : ℕ) where
  -- ---- gotos
  close_stops : (h : Bool) (more : List Tok) → (sees mark.Open (gap h ++ Sign mark.Close ∷ more) ≡ false) × (sees mark.Less (gap h ++ Sign mark.Close ∷ more) ≡ false)
  unfolding sees
  close_stops true more = (refl, refl)
  close_stops false more = (refl, refl)

  place_full : {p : Place} {ts : List Tok} → IsPlace p ts → length ts ≤ d → (h : Bool) (rest : List Tok)
      → spec.place_parser d (ts ++ (gap h ++ Sign mark.Close ∷ rest)) ≡ Some (p, gap h ++ Sign mark.Close ∷ rest)
  unfolding spec.place_parser sees
  place_full (label l) fits h rest = refl
  place_full (computed e ts s) fits h rest =
      let stops = close_stops h rest in
      bind_is (element d (ts ++ (gap h ++ Sign mark.Close ∷ rest))) (λ x end. Some (Computed x, end)) (e, gap h ++ Sign mark.Close ∷ rest)
      (element_full d e ts (omega arith) s (gap h ++ Sign mark.Close ∷ rest) stops.0 stops.1)

  place_skip : {p : Place} {ts : List Tok} → IsPlace p ts → (g : Bool) (rest : List Tok) → skip (gap g ++ (ts ++ rest)) ≡ ts ++ rest
  place_skip (label l) g rest = skip_head g (Word l) rest refl
  place_skip (computed e ts s) g rest = skip_head g (Sign mark.Dollar) (ts ++ rest) refl

  expect_close : {A : Type 0} (a : A) (rest : List Tok) → expect mark.Close a (Sign mark.Close ∷ rest) ≡ Some (a, rest)
  unfolding expect sees
  expect_close a rest = refl

  in_brackets_full : {p : Place} {ts : List Tok} → InBrackets p ts → length ts ≤ d → (rest : List Tok) → spec.in_brackets d (ts ++ rest) ≡ Some (p, rest)
  unfolding spec.in_brackets sees
  in_brackets_full (brackets p ts g h s) fits rest =
      let regroup : (gap g ++ (ts ++ (gap h ++ Sign mark.Close ∷ []))) ++ rest ≡ gap g ++ (ts ++ (gap h ++ Sign mark.Close ∷ rest)) = simp append_assoc in
      let short : length ts ≤ d = omega (arith, length-append (gap g) (ts ++ (gap h ++ Sign mark.Close ∷ [])), length-append ts (gap h ++ Sign mark.Close ∷ [])) in
      rw (regroup, place_skip s g (gap h ++ Sign mark.Close ∷ rest))
      (bind_is (spec.place_parser d (ts ++ (gap h ++ Sign mark.Close ∷ rest))) (λ x end. expect mark.Close x (skip end)) (p, gap h ++ Sign mark.Close ∷ rest) (place_full s short h rest)
      ∙ rw (skip_mark h mark.Close rest) (expect_close p rest))

  -- no word comes next
  gap_no_word : (w : Bytes) (h : Bool) → sees_word w (skip (gap h)) ≡ false
  unfolding sees_word skip
  gap_no_word w true = refl
  gap_no_word w false = refl

  no_second : (word : Bytes) (h : Bool) → spec.second d word (gap h) ≡ Some (None, gap h)
  unfolding spec.second
  no_second word h = rw (gap_no_word word h) refl

  a_second : (word : Bytes) {q : Place} {us : List Tok} → InBrackets q us → length us ≤ d → (g : Bool) (rest : List Tok) → bytes_eq word word ≡ true
      → spec.second d word ((gap g ++ Word word ∷ us) ++ rest) ≡ Some (Some q, rest)
  unfolding spec.second sees_word
  a_second word {q} {us} s fits g rest same =
      let regroup : (gap g ++ Word word ∷ us) ++ rest ≡ gap g ++ (Word word ∷ (us ++ rest)) = append_assoc (gap g) (Word word ∷ us) rest in
      rw (regroup, skip_head g (Word word) (us ++ rest) refl, same)
      (bind_is (spec.in_brackets d (us ++ rest)) (λ x end. Some (Some x, end)) (q, rest) (in_brackets_full s fits rest))

  in_brackets_no_word : (w : Bytes) {p : Place} {ts : List Tok} → InBrackets p ts → (rest : List Tok) → sees_word w (ts ++ rest) ≡ false
  unfolding sees_word
  in_brackets_no_word w (brackets p ts g h s) rest = refl

  -- the place after a word, and the other where there is one
  module _ (other_word : Bytes) (joined : Place → Option Place → Goto) where
    abbrev after_first : Place → Parser Goto
    after_first p rest = bind (spec.second d other_word rest) (λ q end. Some (joined p q, end))

    one_place : {p : Place} {ts : List Tok} → InBrackets p ts → length ts ≤ d → (h : Bool) → bind (spec.in_brackets d (ts ++ gap h)) after_first ≡ Some (joined p None, gap h)
    one_place {p} {ts} s fits h =
        bind_is (spec.in_brackets d (ts ++ gap h)) after_first (p, gap h) (in_brackets_full s fits (gap h))
        ∙ bind_is (spec.second d other_word (gap h)) (λ q end. Some (joined p q, end)) (None, gap h) (no_second other_word h)

    two_places : {p q : Place} {ts us : List Tok} → InBrackets p ts → InBrackets q us → (g h : Bool) → bytes_eq other_word other_word ≡ true
        → length (ts ++ (gap g ++ Word other_word ∷ us)) ≤ d → bind (spec.in_brackets d ((ts ++ (gap g ++ Word other_word ∷ us)) ++ gap h)) after_first ≡ Some (joined p (Some q), gap h)
    two_places {p} {q} {ts} {us} s t g h same fits =
        let more : List Tok = gap g ++ Word other_word ∷ us in
        let long = length-append ts more in
        rw (append_assoc ts more (gap h))
        (bind_is (spec.in_brackets d (ts ++ (more ++ gap h))) after_first (p, more ++ gap h) (in_brackets_full s (omega (arith, long)) (more ++ gap h))
        ∙ bind_is (spec.second d other_word (more ++ gap h)) (λ x end. Some (joined p x, end)) (Some q, gap h)
        (a_second other_word t (omega (arith, long, length-append (gap g) (Word other_word ∷ us))) g (gap h) same))

  exits_full : {g : Goto} {ts : List Tok} → IsExits g ts → length ts ≤ d → (h : Bool) → spec.exits d (ts ++ gap h) ≡ Some (g, gap h)
  unfolding spec.exits sees_word
  exits_full (always p ts s) fits h =
      rw (in_brackets_no_word on_success s (gap h), in_brackets_no_word on_failure s (gap h))
      (bind_is (spec.in_brackets d (ts ++ gap h)) (λ x rest. Some (Always x, rest)) (p, gap h) (in_brackets_full s fits (gap h)))
  exits_full (success p ts s) fits h = one_place on_failure from_success s (omega arith) h
  exits_full (failure p ts s) fits h = one_place on_success from_failure s (omega arith) h
  exits_full (success_first p q ts us g s t) fits h = two_places on_failure from_success s t g h refl (omega arith)
  exits_full (failure_first p q ts us g s t) fits h = two_places on_success from_failure t s g h refl (omega arith)

  exits_skip : {x : Goto} {ts : List Tok} → IsExits x ts → (g : Bool) (rest : List Tok) → skip (gap g ++ (ts ++ rest)) ≡ ts ++ rest
  exits_skip (always p _ (brackets _ ts i j s)) g rest = skip_head g (Sign mark.Open) _ refl
  exits_skip (success p ts s) g rest = skip_head g (Word on_success) (ts ++ rest) refl
  exits_skip (failure p ts s) g rest = skip_head g (Word on_failure) (ts ++ rest) refl
  exits_skip (success_first p q ts us i s t) g rest = skip_head g (Word on_success) _ refl
  exits_skip (failure_first p q ts us i s t) g rest = skip_head g (Word on_failure) _ refl

  colon_no : (h : Bool) → sees_spaced mark.Colon (gap h) ≡ false
  unfolding sees_spaced sees
  colon_no true = refl
  colon_no false = refl

  goto_full : {x : Goto} {ts : List Tok} → IsGoto x ts → length ts ≤ d → (h : Bool) → spec.goto d (ts ++ gap h) ≡ Some (x, gap h)
  unfolding spec.goto sees_spaced sees
  goto_full next fits h = rw (colon_no h) refl
  goto_full (leaves x ts g s) fits h =
      rw (append_assoc (gap g) ts (gap h), exits_skip s g (gap h)) (exits_full s (omega (arith, length-append (gap g) ts)) h)

  -- ---- bodies
  object_full : {o : Option Expr} {ts : List Tok} → IsObject o ts → length ts ≤ d → (rest : List Tok) → Over rest → spec.object_parser d (ts ++ rest) ≡ Some (o, rest)
  unfolding spec.object_parser
  object_full absent fits rest over = rw over.element_no refl
  object_full (present e ts s) fits rest over =
      rw (begins_spaced (ts ++ rest) (begins_append ts rest (expr_begins e ts s)))
      (bind_is (whole d (ts ++ rest)) (λ x end. Some (Some x, end)) (e, rest) (whole_full d e ts (omega arith) s rest (over_stops rest over)))

  -- the tokens after a body
  record After (rest : List Tok) : Type 0 where
    over : Over rest
    no_equal : sees_spaced mark.Equal rest ≡ false

  equal_seen : (ts : List Tok) → sees_spaced mark.Equal (Blank ∷ Sign mark.Equal ∷ ts) ≡ true
  unfolding sees_spaced sees
  equal_seen ts = refl

  subject_full : (x : Expr) (ts : List Tok) → IsElement x ts → length ts ≤ d → (rest : List Tok) → sees mark.Open rest ≡ false → sees mark.Less rest ≡ false
      → spec.body_parser d (Blank ∷ (ts ++ rest)) ≡ spec.after_subject d x rest
  unfolding spec.body_parser
  subject_full x ts s fits rest no_open no_less =
      rw (begins_spaced (ts ++ rest) (begins_append ts rest (element_begins x ts s)))
      (bind_is (element d (ts ++ rest)) (spec.after_subject d) (x, rest) (element_full d x ts fits s rest no_open no_less))

  pattern_full : (x p : Expr) (us : List Tok) → IsExpr p us → length us ≤ d → (rest : List Tok) → Over rest → spec.after_subject d x (Blank ∷ (us ++ rest)) ≡ spec.after_pattern d x p rest
  unfolding spec.after_subject
  pattern_full x p us s fits rest over =
      let begins = begins_append us rest (expr_begins p us s) in
      rw (begins_equal_no (us ++ rest) begins, begins_spaced (us ++ rest) begins)
      (bind_is (whole d (us ++ rest)) (spec.after_pattern d x) (p, rest) (whole_full d p us fits s rest (over_stops rest over)))

  blank_no : (ts : List Tok) → (sees mark.Open (Blank ∷ ts) ≡ false) × (sees mark.Less (Blank ∷ ts) ≡ false)
  unfolding sees
  blank_no ts = (refl, refl)

  body_full : {b : Body} {ts : List Tok} → IsBody b ts → length ts ≤ d → (rest : List Tok) → After rest → spec.body_parser d (ts ++ rest) ≡ Some (b, rest)
  unfolding spec.body_parser spec.after_subject spec.after_pattern
  body_full nothing fits rest after = rw after.over.element_no refl
  body_full (evaluate x ts s) fits rest after =
      subject_full x ts s (omega arith) rest after.over.open_no after.over.less_no ∙ rw (after.no_equal, after.over.element_no) refl
  body_full (match x p ts us s t) fits rest after =
      let none = blank_no (us ++ rest) in
      rw (append_assoc ts (Blank ∷ us) rest) (subject_full x ts s (omega (arith, length-append ts (Blank ∷ us))) (Blank ∷ (us ++ rest)) none.0 none.1
      ∙ pattern_full x p us t (omega (arith, length-append ts (Blank ∷ us))) rest after.over ∙ rw after.no_equal refl)
  body_full (assign x o ts us s t) fits rest after =
      let none = blank_no (Sign mark.Equal ∷ (us ++ rest)) in
      rw (append_assoc ts (Blank ∷ Sign mark.Equal ∷ us) rest) (subject_full x ts s (omega (arith, length-append ts (Blank ∷ Sign mark.Equal ∷ us))) (Blank ∷ Sign mark.Equal ∷ (us ++ rest)) none.0 none.1
      ∙ rw (equal_seen (us ++ rest)) (bind_is (spec.object_parser d (us ++ rest)) (λ y end. Some (Assign x y, end)) (o, rest) (object_full t (omega (arith, length-append ts (Blank ∷ Sign mark.Equal ∷ us))) rest after.over)))
  body_full (replace x p o ts us vs s t u) fits rest after =
      let tail_of : List Tok = us ++ (Blank ∷ Sign mark.Equal ∷ vs) in
      let none = blank_no (us ++ (Blank ∷ Sign mark.Equal ∷ (vs ++ rest))) in
      let regroup : (ts ++ (Blank ∷ tail_of)) ++ rest ≡ ts ++ (Blank ∷ (us ++ (Blank ∷ Sign mark.Equal ∷ (vs ++ rest)))) = simp append_assoc in
      let long : length ts + suc (length us + suc (suc (length vs))) ≤ d = omega (arith, length-append ts (Blank ∷ tail_of), length-append us (Blank ∷ Sign mark.Equal ∷ vs)) in
      rw regroup (subject_full x ts s (omega arith) (Blank ∷ (us ++ (Blank ∷ Sign mark.Equal ∷ (vs ++ rest)))) none.0 none.1
      ∙ pattern_full x p us t (omega arith) (Blank ∷ Sign mark.Equal ∷ (vs ++ rest)) (over_equal (vs ++ rest))
      ∙ rw (equal_seen (vs ++ rest)) (bind_is (spec.object_parser d (vs ++ rest)) (λ y end. Some (Replace x p y, end)) (o, rest) (object_full u (omega arith) rest after.over)))

  -- ---- statements
  no_label : {b : Body} {us : List Tok} → IsBody b us → {g : Goto} {vs : List Tok} → IsGoto g vs → (h : Bool)
      → spec.statement_parser d (us ++ (vs ++ gap h)) ≡ spec.after_label d None (us ++ (vs ++ gap h))
  unfolding spec.statement_parser sees_word bind
  no_label nothing next true = refl
  no_label nothing next false = refl
  no_label nothing (leaves x ts g s) h = refl
  no_label (evaluate x ts s) i h = refl
  no_label (match x p ts us s t) i h = refl
  no_label (assign x o ts us s t) i h = refl
  no_label (replace x p o ts us vs s t u) i h = refl

  skip_nothing : (h : Bool) → skip (gap h) ≡ []
  unfolding skip
  skip_nothing true = refl
  skip_nothing false = refl

  plain_full : (l : Option Bytes) {b : Body} {us : List Tok} → IsBody b us → {g : Goto} {vs : List Tok} → IsGoto g vs → (h : Bool) → length us ≤ d → length vs ≤ d
      → spec.after_label d l (us ++ (vs ++ gap h)) ≡ Some (Plain l b g, [])
  unfolding spec.after_label
  plain_full l {b} {us} s {g} {vs} t h body_fits goto_fits =
      bind_is (spec.body_parser d (us ++ (vs ++ gap h))) (λ x rest. bind (spec.goto d rest) (λ y end. Some (Plain l x y, skip end))) (b, vs ++ gap h)
      (body_full s body_fits (vs ++ gap h) (record { over = over_goto t h; no_equal = equal_no t h }))
      ∙ bind_is (spec.goto d (vs ++ gap h)) (λ y end. Some (Plain l b y, skip end)) (g, gap h) (goto_full t goto_fits h)
      ∙ ap (λ rest. Some (Plain l b g, rest)) (skip_nothing h)

  differs : (l : Bytes) → l ≢ end_word → bytes_eq l end_word ≡ false
  differs l n = known (bytes_eq l end_word) refl
    where
      known : (b : Bool) → bytes_eq l end_word ≡ b → bytes_eq l end_word ≡ false
      known true h = absurd (n ((bytes_eq-Decides l end_word).0 h))
      known false h = h

  with_label : {l : Option Bytes} {ls : List Tok} → IsLabel l ls → {b : Body} {us : List Tok} → IsBody b us → {g : Goto} {vs : List Tok} → IsGoto g vs → (h : Bool)
      → spec.statement_parser d (ls ++ (us ++ (vs ++ gap h))) ≡ spec.after_label d l (us ++ (vs ++ gap h))
  unfolding spec.statement_parser sees_word bind
  with_label unlabelled s t h = no_label s t h
  with_label (labelled l n) s t h = rw (differs l n) refl

  end_full : {l : Option Bytes} {ts : List Tok} → IsEntry l ts → (h : Bool) → spec.statement_parser d (Word end_word ∷ (ts ++ gap h)) ≡ Some (End l, [])
  unfolding spec.statement_parser spec.after_end sees_word word_spaced starts_word bind
  end_full first true = ap (λ rest. Some (End None, rest)) (skip_nothing true)
  end_full first false = ap (λ rest. Some (End None, rest)) (skip_nothing false)
  end_full (entry l) h = ap (λ rest. Some (End (Some l), rest)) (skip_nothing h)

  statement_full : {s : Stmt} {ts : List Tok} → Tree s ts → length ts ≤ d → spec.statement_parser d ts ≡ Some (s, [])
  statement_full (plain l b g ts us vs h i s t) fits =
      let long : length us + length vs ≤ d = omega (arith, length-append ts (us ++ (vs ++ gap h)), length-append us (vs ++ gap h), length-append vs (gap h)) in
      with_label i s t h ∙ plain_full l s t h (omega arith) (omega arith)
  statement_full (end l ts h i) fits = end_full i h

pub stmt_full : (ts : List Tok) (s : Stmt) → Tree s ts → stmt ts ≡ Some s
unfolding stmt
stmt_full ts s t = ap at_end (statement_full (length ts) t (omega arith))

pub no_tree : (ts : List Tok) → stmt ts ≡ None → HasNoTree ts
no_tree ts none s t = let some = stmt_full ts s t in absurd (cc)
