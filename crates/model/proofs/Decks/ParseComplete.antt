-- What is spelled is found, whatever stands after it that doesn't go on with it.
use Rattle.std.proofs.Common.{◌≡◌, refl, sym, ◌∙◌, ap, subst, ℕ, zero, suc, ◌<◌, ◌≤◌, ◌==◌, Bool, true, false, List, [], ◌∷◌, ◌++◌, length, length-append, append_assoc, append-nil, arith}
use Rattle.std.specs.Prelude.{pos, Some, None, if◌then◌else◌}
use Rattle.model.specs.declared.tokens.Mark.{Mark}
use Rattle.model.specs.declared.tokens.Mark.TheVariants as mark
use Rattle.model.specs.declared.trees.Unary.{Unary}
use Rattle.model.specs.declared.trees.Unary.TheVariants as unary
use Rattle.model.specs.declared.trees.Binary.{Binary}
use Rattle.model.specs.declared.trees.Binary.TheVariants as binary
use Rattle.model.specs.Deck.Tokens.{Tok, Blank, Word, Digits, Quoted, Sign}
use Rattle.model.specs.Deck.Trees.{Expr, Name, Integer, Literal, Keyword, Call, Reference, Apply, Combine, Arg, Absent, Given, Args, Nil, More}
use Rattle.model.specs.Deck.Grammar.{sign_of, grade, left, right, link, gap, shown, given, Phrase, Element, Grade, One, Several, Spells, name, integer, literal, keyword, applied, brackets, call, reference, plain, looser, combined, absent, present, single, comma}
use Rattle.model.specs.Deck.Parse.{Parser, bind, Onward, Ends, Sees, next, on, binary_or_unary, skip, starts, tok_starts, expect, sees, tail, one_argument, several, subscripts, after_name, bracketed, prefixed, element_step, element, lefts, rights, graded, whole, at_end, expr}
use Rattle.model.proofs.Decks.ParseSteps.{bind_is}

-- an operator that comes next binds less tightly than this
abbrev pub Past : ℕ → Onward → Type 0
Past k Ends = Unit {0}
Past k (Sees op ts) = k < grade op

-- the tokens don't go on with an expression of this grade
pub record Stops (k : ℕ) (rest : List Tok) : Type 0 where
  pub open_no : sees mark.Open rest ≡ false
  pub less_no : sees mark.Less rest ≡ false
  pub past : Past k (next rest)

past_less : (j k : ℕ) (x : Onward) → j ≤ k → Past k x → Past j x
past_less j k Ends h p = tt
past_less j k (Sees op ts) h p = omega arith

stops_less : (j k : ℕ) (rest : List Tok) → j ≤ k → Stops k rest → Stops j rest
stops_less j k rest h s = record { open_no = s.open_no; less_no = s.less_no; past = past_less j k (next rest) h s.past }

pub record Begins (ts : List Tok) : Type 0 where
  pub head : Tok
  pub rest : List Tok
  pub is : ts ≡ head ∷ rest
  pub start : tok_starts head ≡ true
  pub cat : (more : List Tok) → next (Blank ∷ (ts ++ more)) ≡ Sees binary.Concatenate (ts ++ more)

begins_long : (ts : List Tok) → Begins ts → 0 < length ts
begins_long ts b = subst (λ x. 0 < length x) (sym b.is) (omega arith)

pub begins_append : (ts us : List Tok) → Begins ts → Begins (ts ++ us)
begins_append ts us b = record {
  head = b.head;
  rest = b.rest ++ us;
  is = ap (λ x. x ++ us) b.is;
  start = b.start;
  cat = λ more. rw (append_assoc ts us more) (b.cat (us ++ more));
}

either_cat : (op : Binary) (m : Mark) (t : Tok) (ts : List Tok) → tok_starts t ≡ true → binary_or_unary op m (t ∷ ts) ≡ Sees binary.Concatenate (Sign m ∷ t ∷ ts)
either_cat op m Blank ts h = absurd (cc)
either_cat op m (Word s) ts h = refl
either_cat op m (Digits s) ts h = refl
either_cat op m (Quoted s) ts h = refl
either_cat op m (Sign s) ts h = refl

sign_cat : (u : Unary) (t : Tok) (ts : List Tok) → tok_starts t ≡ true → next (Blank ∷ Sign (sign_of u) ∷ t ∷ ts) ≡ Sees binary.Concatenate (Sign (sign_of u) ∷ t ∷ ts)
unfolding next
sign_cat unary.NameOf t ts h = either_cat binary.Conditional mark.Dot t ts h
sign_cat unary.Indirect t ts h = either_cat binary.Immediate mark.Dollar t ts h
sign_cat unary.Unevaluated t ts h = either_cat binary.Multiply mark.Star t ts h
sign_cat unary.Cursor t ts h = refl
sign_cat unary.Plus t ts h = either_cat binary.Add mark.Plus t ts h
sign_cat unary.Minus t ts h = either_cat binary.Subtract mark.Minus t ts h
sign_cat unary.Interrogate t ts h = refl
sign_cat unary.Negate t ts h = refl

sign_starts : (u : Unary) → tok_starts (Sign (sign_of u)) ≡ true
sign_starts unary.NameOf = refl
sign_starts unary.Indirect = refl
sign_starts unary.Unevaluated = refl
sign_starts unary.Cursor = refl
sign_starts unary.Plus = refl
sign_starts unary.Minus = refl
sign_starts unary.Interrogate = refl
sign_starts unary.Negate = refl

begins_sign : (u : Unary) (ts : List Tok) → Begins ts → Begins (Sign (sign_of u) ∷ ts)
begins_sign u ts b = record {
  head = Sign (sign_of u);
  rest = ts;
  is = refl;
  start = sign_starts u;
  cat = λ more. subst (λ x. next (Blank ∷ Sign (sign_of u) ∷ (x ++ more)) ≡ Sees binary.Concatenate (Sign (sign_of u) ∷ (x ++ more))) (sym b.is) (sign_cat u b.head (b.rest ++ more) b.start);
}

-- an operator's link is seen before an operand
link_next : (op : Binary) (ts : List Tok) (b : Begins ts) (more : List Tok) → next (link op ++ (ts ++ more)) ≡ Sees op (ts ++ more)
unfolding next
link_next binary.Conditional ts b more = refl
link_next binary.Immediate ts b more = refl
link_next binary.Power ts b more = refl
link_next binary.Multiply ts b more = refl
link_next binary.Divide ts b more = refl
link_next binary.Add ts b more = refl
link_next binary.Subtract ts b more = refl
link_next binary.Concatenate ts b more = b.cat more
link_next binary.Alternate ts b more = refl

link_sees : (op : Binary) (m : Mark) (ts : List Tok) → sees m (link op ++ ts) ≡ false
unfolding sees
link_sees binary.Conditional m ts = refl
link_sees binary.Immediate m ts = refl
link_sees binary.Power m ts = refl
link_sees binary.Multiply m ts = refl
link_sees binary.Divide m ts = refl
link_sees binary.Add m ts = refl
link_sees binary.Subtract m ts = refl
link_sees binary.Concatenate m ts = refl
link_sees binary.Alternate m ts = refl

link_stops : (k : ℕ) (op : Binary) (ts : List Tok) (b : Begins ts) (more : List Tok) → k < grade op → Stops k (link op ++ (ts ++ more))
link_stops k op ts b more h = record {
  open_no = link_sees op mark.Open (ts ++ more);
  less_no = link_sees op mark.Less (ts ++ more);
  past = subst (Past k) (sym (link_next op ts b more)) h;
}

link_long : (op : Binary) (ts : List Tok) → length ts < length (link op ++ ts)
link_long binary.Conditional ts = omega arith
link_long binary.Immediate ts = omega arith
link_long binary.Power ts = omega arith
link_long binary.Multiply ts = omega arith
link_long binary.Divide ts = omega arith
link_long binary.Add ts = omega arith
link_long binary.Subtract ts = omega arith
link_long binary.Concatenate ts = omega arith
link_long binary.Alternate ts = omega arith

-- how a step of a loop goes
pub on_go : {A : Type 0} (x : Onward) (k : ℕ) (stop : A) (go : Binary → List Tok → A) (op : Binary) (ts : List Tok) → x ≡ Sees op ts → grade op ≡ k → on x k stop go ≡ go op ts
unfolding on
on_go x k stop go op ts e g = let hit : (grade op == k) ≡ true = grind arith in rw (e, on, hit) refl

on_stop : {A : Type 0} (x : Onward) (k : ℕ) (stop : A) (go : Binary → List Tok → A) → Past k x → on x k stop go ≡ stop
unfolding on
on_stop Ends k stop go p = refl
on_stop (Sees op ts) k stop go p = let miss : (grade op == k) ≡ false = grind arith in rw miss refl

abbrev pub Finds : Parser Expr → ℕ → Expr → List Tok → Type 0
Finds parser k e ts = (rest : List Tok) → Stops k rest → parser (ts ++ rest) ≡ Some (e, rest)

-- ---- operators of one grade that group to the left
module _ (operand : Parser Expr) (k : ℕ) where
  pub data Goes_on : Expr → Expr → List Tok → Type 0 where
    stop : (e : Expr) → Goes_on e e []
    go : (op : Binary) (e f whole : Expr) (ts us : List Tok) → grade op ≡ suc k → Begins ts → Finds operand k f ts → Goes_on (Combine op e f) whole us
        → Goes_on e whole (link op ++ (ts ++ us))

  goes_stops : {e f : Expr} {ts : List Tok} → Goes_on e f ts → (rest : List Tok) → Stops (suc k) rest → Stops k (ts ++ rest)
  goes_stops (stop e) rest s = stops_less k (suc k) rest (omega arith) s
  goes_stops (go op e f w ts us g b found more) rest s =
      rw (append_assoc (link op) (ts ++ us) rest, append_assoc ts us rest) (link_stops k op ts b (us ++ rest) (omega arith))

  goes_snoc : {e f : Expr} {ts : List Tok} → Goes_on e f ts → (op : Binary) (x : Expr) (us : List Tok) → grade op ≡ suc k → Begins us → Finds operand k x us
      → Goes_on e (Combine op f x) (ts ++ (link op ++ us))
  goes_snoc (stop e) op x us g b found = subst (λ ys. Goes_on e (Combine op e x) (link op ++ ys)) (append-nil us) (go op e x (Combine op e x) us [] g b found (stop (Combine op e x)))
  goes_snoc (go op' e f w ts vs g' b' found' m) op x us g b found =
      rw (append_assoc (link op') (ts ++ vs) (link op ++ us), append_assoc ts vs (link op ++ us)) (go op' e f (Combine op w x) ts (vs ++ (link op ++ us)) g' b' found' (goes_snoc m op x us g b found))

  lefts_full : {e f : Expr} {ts : List Tok} → Goes_on e f ts → (n : ℕ) (rest : List Tok) → length ts ≤ n → Stops (suc k) rest → lefts operand (suc k) n e (ts ++ rest) ≡ Some (f, rest)
  unfolding lefts
  lefts_full (stop e) zero rest h s = refl
  lefts_full (stop e) (suc n) rest h s = on_stop (next rest) (suc k) (Some (e, rest)) (λ op after. bind (operand after) (λ f end. lefts operand (suc k) n (Combine op e f) end)) s.past
  lefts_full (go op e f w ts us g b found m) zero rest h s = absurd (omega (arith, link_long op (ts ++ us)))
  lefts_full (go op e f w ts us g b found m) (suc n) rest h s =
      let regroup : (link op ++ (ts ++ us)) ++ rest ≡ link op ++ (ts ++ (us ++ rest)) = append_assoc (link op) (ts ++ us) rest ∙ ap (λ x. link op ++ x) (append_assoc ts us rest) in
      let shorter : length us ≤ n = omega (arith, link_long op (ts ++ us), length-append ts us) in
      rw regroup (on_go (next (link op ++ (ts ++ (us ++ rest)))) (suc k) (Some (e, link op ++ (ts ++ (us ++ rest)))) (λ o after. bind (operand after) (λ x end. lefts operand (suc k) n (Combine o e x) end)) op (ts ++ (us ++ rest)) (link_next op ts b (us ++ rest)) g
      ∙ bind_is (operand (ts ++ (us ++ rest))) (λ x end. lefts operand (suc k) n (Combine op e x) end) (f, us ++ rest) (found (us ++ rest) (goes_stops m rest s))
      ∙ lefts_full m n rest shorter s)

-- ---- what each phrase comes to
pub data Closes : Mark → Type 0 where
  at_close : Closes mark.Close
  at_greater : Closes mark.Greater
  at_comma : Closes mark.Comma

pub data Bounds : Mark → Type 0 where
  by_close : Bounds mark.Close
  by_greater : Bounds mark.Greater

closes : (m : Mark) → Bounds m → Closes m
closes _ by_close = at_close
closes _ by_greater = at_greater

mark_stops : (h : Bool) (m : Mark) (more : List Tok) → Closes m → Stops 7 (gap h ++ Sign m ∷ more)
unfolding sees next
mark_stops true _ more at_close = record { open_no = refl; less_no = refl; past = tt }
mark_stops false _ more at_close = record { open_no = refl; less_no = refl; past = tt }
mark_stops true _ more at_greater = record { open_no = refl; less_no = refl; past = tt }
mark_stops false _ more at_greater = record { open_no = refl; less_no = refl; past = tt }
mark_stops true _ more at_comma = record { open_no = refl; less_no = refl; past = tt }
mark_stops false _ more at_comma = record { open_no = refl; less_no = refl; past = tt }

mark_starts : (m : Mark) (more : List Tok) → Closes m → starts (Sign m ∷ more) ≡ false
unfolding starts
mark_starts _ more at_close = refl
mark_starts _ more at_greater = refl
mark_starts _ more at_comma = refl

bounds_comma : (m : Mark) (more : List Tok) → Bounds m → sees mark.Comma (Sign m ∷ more) ≡ false
unfolding sees
bounds_comma _ more by_close = refl
bounds_comma _ more by_greater = refl

pub skip_mark : (g : Bool) (m : Mark) (more : List Tok) → skip (gap g ++ Sign m ∷ more) ≡ Sign m ∷ more
unfolding skip
skip_mark true m more = refl
skip_mark false m more = refl

pub skip_head : (g : Bool) (t : Tok) (ts : List Tok) → tok_starts t ≡ true → skip (gap g ++ (t ∷ ts)) ≡ t ∷ ts
unfolding skip
skip_head true t ts h = refl
skip_head false Blank ts h = absurd (cc)
skip_head false (Word s) ts h = refl
skip_head false (Digits s) ts h = refl
skip_head false (Quoted s) ts h = refl
skip_head false (Sign s) ts h = refl

pub skip_begins : (g : Bool) (ts : List Tok) → Begins ts → skip (gap g ++ ts) ≡ ts
skip_begins g ts b = subst (λ x. skip (gap g ++ x) ≡ x) (sym b.is) (skip_head g b.head b.rest b.start)

pub starts_begins : (ts : List Tok) → Begins ts → starts ts ≡ true
unfolding starts
starts_begins ts b = subst (λ x. starts x ≡ true) (sym b.is) b.start

abbrev pub FindsElement : Parser Expr → Expr → List Tok → Type 0
FindsElement parser e ts = (rest : List Tok) → sees mark.Open rest ≡ false → sees mark.Less rest ≡ false → parser (ts ++ rest) ≡ Some (e, rest)

-- grades above an element
module _ (atom : Parser Expr) where
  pub record Chain (k : ℕ) (e : Expr) (ts : List Tok) : Type 0 where
    pub first : Expr
    pub front : List Tok
    pub more : List Tok
    pub is : ts ≡ front ++ more
    pub begins : Begins front
    pub found : Finds (graded atom k) k first front
    pub rest : Goes_on (graded atom k) k first e more

  abbrev Powers : Expr → List Tok → Type 0
  Powers e ts = (n : ℕ) (rest : List Tok) → length ts ≤ n → Stops 2 rest → rights (graded atom 1) 2 n (ts ++ rest) ≡ Some (e, rest)

  pub record FullGrade (k : ℕ) (e : Expr) (ts : List Tok) : Type 0 where
    pub begins : Begins ts
    pub found : Finds (graded atom k) k e ts
    pub chain : (j : ℕ) → k ≡ suc j → (j == 1) ≡ false → Chain j e ts
    pub powers : k ≡ 2 → Powers e ts

  chain_found : (k : ℕ) (e : Expr) (ts : List Tok) → (k == 1) ≡ false → Chain k e ts → Finds (graded atom (suc k)) (suc k) e ts
  unfolding graded
  chain_found k e ts h c rest s =
      let regroup : ts ++ rest ≡ c.front ++ (c.more ++ rest) = ap (λ x. x ++ rest) c.is ∙ append_assoc c.front c.more rest in
      let long : length c.more ≤ length (c.more ++ rest) = omega (arith, length-append c.more rest) in
      rw (regroup, h) (bind_is (graded atom k (c.front ++ (c.more ++ rest))) (λ x end. lefts (graded atom k) (suc k) (length end) x end) (c.first, c.more ++ rest)
      (c.found (c.more ++ rest) (goes_stops (graded atom k) k c.rest rest s))
      ∙ lefts_full (graded atom k) k c.rest (length (c.more ++ rest)) rest long s)

  powers_found : (e : Expr) (ts : List Tok) → Powers e ts → Finds (graded atom 2) 2 e ts
  unfolding graded
  powers_found e ts p rest s = p (length (ts ++ rest)) rest (omega (arith, length-append ts rest)) s

  of_chain : (k : ℕ) (e : Expr) (ts : List Tok) → Begins ts → (k == 1) ≡ false → Chain k e ts → FullGrade (suc k) e ts
  of_chain k e ts b h c = record {
    begins = b;
    found = chain_found k e ts h c;
    chain = λ j i n. subst (λ x. Chain x e ts) (let same : k ≡ j = omega arith in same) c;
    powers = λ i. absurd (let one : k ≡ 1 = omega arith in grind arith);
  }

  of_powers : (e : Expr) (ts : List Tok) → Begins ts → Powers e ts → FullGrade 2 e ts
  of_powers e ts b p = record { begins = b; found = powers_found e ts p; chain = λ j i n. absurd (let one : j ≡ 1 = omega arith in grind arith); powers = λ _. p }

  full_plain : (e : Expr) (ts : List Tok) → Begins ts → FindsElement atom e ts → FullGrade 0 e ts
  unfolding graded
  full_plain e ts b found = record { begins = b; found = λ rest s. found rest s.open_no s.less_no; chain = λ j i n. absurd (omega arith); powers = λ i. absurd (omega arith) }

  one_power : (e : Expr) (ts : List Tok) → Begins ts → Finds (graded atom 1) 1 e ts → Powers e ts
  unfolding rights
  one_power e ts b found zero rest h s = absurd (omega (arith, begins_long ts b))
  one_power e ts b found (suc n) rest h s =
      bind_is (graded atom 1 (ts ++ rest)) (λ x end. on (next end) 2 (Some (x, end)) (λ op after. bind (rights (graded atom 1) 2 n after) (λ f last. Some (Combine op x f, last)))) (e, rest) (found rest (stops_less 1 2 rest (omega arith) s))
      ∙ on_stop (next rest) 2 (Some (e, rest)) (λ op after. bind (rights (graded atom 1) 2 n after) (λ f last. Some (Combine op e f, last))) s.past

  full_looser : (k : ℕ) (e : Expr) (ts : List Tok) → FullGrade k e ts → (is_one : Bool) → (k == 1) ≡ is_one → FullGrade (suc k) e ts
  full_looser k e ts f false h = of_chain k e ts f.begins h (record { first = e; front = ts; more = []; is = sym (append-nil ts); begins = f.begins; found = f.found; rest = stop e })
  full_looser k e ts f true h =
      let one : k ≡ 1 = grind arith in
      let at_one = subst (λ x. FullGrade x e ts) one f in
      subst (λ x. FullGrade (suc x) e ts) (sym one) (of_powers e ts f.begins (one_power e ts f.begins at_one.found))

  full_left : (k : ℕ) (op : Binary) (a b : Expr) (ts us : List Tok) → grade op ≡ suc k → (k == 1) ≡ false → FullGrade (suc k) a ts → FullGrade k b us → FullGrade (suc k) (Combine op a b) (ts ++ (link op ++ us))
  full_left k op a b ts us g h fa fb =
      let c = fa.chain k refl h in
      of_chain k (Combine op a b) (ts ++ (link op ++ us)) (begins_append ts (link op ++ us) fa.begins) h
      (record {
        first = c.first;
        front = c.front;
        more = c.more ++ (link op ++ us);
        is = ap (λ x. x ++ (link op ++ us)) c.is ∙ append_assoc c.front c.more (link op ++ us);
        begins = c.begins;
        found = c.found;
        rest = goes_snoc (graded atom k) k c.rest op b us g fb.begins fb.found;
      })

  more_power : (a b : Expr) (ts us : List Tok) → Finds (graded atom 1) 1 a ts → Begins us → Powers b us → Powers (Combine binary.Power a b) (ts ++ (link binary.Power ++ us))
  unfolding rights
  more_power a b ts us found begins p zero rest h s = absurd (omega (arith, length-append ts (link binary.Power ++ us)))
  more_power a b ts us found begins p (suc n) rest h s =
      let regroup : (ts ++ (link binary.Power ++ us)) ++ rest ≡ ts ++ (link binary.Power ++ (us ++ rest)) = append_assoc ts (link binary.Power ++ us) rest in
      let shorter : length us ≤ n = omega (arith, length-append ts (link binary.Power ++ us)) in
      rw regroup (bind_is (graded atom 1 (ts ++ (link binary.Power ++ (us ++ rest)))) (λ x end. on (next end) 2 (Some (x, end)) (λ op after. bind (rights (graded atom 1) 2 n after) (λ f last. Some (Combine op x f, last)))) (a, link binary.Power ++ (us ++ rest))
      (found (link binary.Power ++ (us ++ rest)) (link_stops 1 binary.Power us begins rest (omega arith)))
      ∙ on_go (next (link binary.Power ++ (us ++ rest))) 2 (Some (a, link binary.Power ++ (us ++ rest))) (λ op after. bind (rights (graded atom 1) 2 n after) (λ f last. Some (Combine op a f, last))) binary.Power (us ++ rest) (link_next binary.Power us begins rest) refl
      ∙ bind_is (rights (graded atom 1) 2 n (us ++ rest)) (λ f last. Some (Combine binary.Power a f, last)) (b, rest) (p n rest shorter s))

  full_combined : (op : Binary) (a b : Expr) (ts us : List Tok) → FullGrade (left op) a ts → FullGrade (right op) b us → FullGrade (grade op) (Combine op a b) (ts ++ (link op ++ us))
  full_combined binary.Conditional a b ts us fa fb = full_left 0 binary.Conditional a b ts us refl refl fa fb
  full_combined binary.Immediate a b ts us fa fb = full_left 0 binary.Immediate a b ts us refl refl fa fb
  full_combined binary.Power a b ts us fa fb = of_powers (Combine binary.Power a b) (ts ++ (link binary.Power ++ us)) (begins_append ts (link binary.Power ++ us) fa.begins) (more_power a b ts us fa.found fb.begins (fb.powers refl))
  full_combined binary.Multiply a b ts us fa fb = full_left 2 binary.Multiply a b ts us refl refl fa fb
  full_combined binary.Divide a b ts us fa fb = full_left 3 binary.Divide a b ts us refl refl fa fb
  full_combined binary.Add a b ts us fa fb = full_left 4 binary.Add a b ts us refl refl fa fb
  full_combined binary.Subtract a b ts us fa fb = full_left 4 binary.Subtract a b ts us refl refl fa fb
  full_combined binary.Concatenate a b ts us fa fb = full_left 5 binary.Concatenate a b ts us refl refl fa fb
  full_combined binary.Alternate a b ts us fa fb = full_left 6 binary.Alternate a b ts us refl refl fa fb

-- ---- over an inner parser that finds each shorter expression
module _ (inner : Parser Expr) (bound : ℕ) (inner_full : (e : Expr) (ts : List Tok) → length ts < bound → Spells (Grade 7 e) ts → Finds inner 7 e ts)
    (again : Parser Expr) (again_full : (e : Expr) (ts : List Tok) → length ts < bound → Spells (Element e) ts → FindsElement again e ts) where
  abbrev atom : Parser Expr
  atom = element_step inner again

  pub record FullElement (e : Expr) (ts : List Tok) : Type 0 where
    pub begins : Begins ts
    pub found : FindsElement atom e ts

  -- what the phrase comes to, where it is short enough
  abbrev Full : Phrase → List Tok → Type 0
  Full (Element e) ts = length ts ≤ bound → FullElement e ts
  Full (Grade k e) ts = length ts ≤ bound → FullGrade atom k e ts
  Full (One arg) ts = length ts < bound → (m : Mark) (rest : List Tok) → Closes m → one_argument inner (ts ++ Sign m ∷ rest) ≡ Some (arg, Sign m ∷ rest)
  Full (Several args) ts = length ts < bound → (n : ℕ) (m : Mark) (rest : List Tok) → length ts ≤ n → Bounds m → several inner (suc n) (ts ++ Sign m ∷ rest) ≡ Some (args, Sign m ∷ rest)

  begins_grade : {k : ℕ} {e : Expr} {ts : List Tok} → (length ts ≤ bound → FullGrade atom k e ts) → length ts ≤ bound → Begins ts
  begins_grade f h = (f h).begins

  full_name : (s : List ℕ) → FindsElement atom (Name s) (Word s ∷ [])
  unfolding element_step after_name
  full_name s rest ho hl = rw (ho, hl) refl

  full_integer : (n : ℕ) → FindsElement atom (Integer (pos n)) (Digits n ∷ [])
  unfolding element_step
  full_integer n rest ho hl = refl

  full_literal : (s : List ℕ) → FindsElement atom (Literal s) (Quoted s ∷ [])
  unfolding element_step
  full_literal s rest ho hl = refl

  full_keyword : (s : List ℕ) → FindsElement atom (Keyword s) (Sign mark.Ampersand ∷ Word s ∷ [])
  unfolding element_step
  full_keyword s rest ho hl = refl

  -- a mark before an element
  by_sign : (u : Unary) (ts : List Tok) → atom (Sign (sign_of u) ∷ ts) ≡ prefixed inner u (again ts)
  unfolding element_step
  by_sign unary.NameOf ts = refl
  by_sign unary.Indirect ts = refl
  by_sign unary.Unevaluated ts = refl
  by_sign unary.Cursor ts = refl
  by_sign unary.Plus ts = refl
  by_sign unary.Minus ts = refl
  by_sign unary.Interrogate ts = refl
  by_sign unary.Negate ts = refl

  full_applied : (u : Unary) (e : Expr) (ts : List Tok) → FindsElement again e ts → FindsElement atom (Apply u e) (Sign (sign_of u) ∷ ts)
  full_applied u e ts found rest ho hl =
      by_sign u (ts ++ rest) ∙ bind_is (again (ts ++ rest)) (λ x end. Some (Apply u x, end)) (e, rest) (found rest ho hl)

  expect_mark : {A : Type 0} (m : Mark) (a : A) (rest : List Tok) → sees m (Sign m ∷ rest) ≡ true → expect m a (Sign m ∷ rest) ≡ Some (a, rest)
  unfolding expect
  expect_mark m a rest h = rw h refl

  sees_same : (m : Mark) (rest : List Tok) → Closes m → sees m (Sign m ∷ rest) ≡ true
  unfolding sees
  sees_same _ rest at_close = refl
  sees_same _ rest at_greater = refl
  sees_same _ rest at_comma = refl

  full_brackets : (e : Expr) (ts : List Tok) (g h : Bool) → Spells (Grade 7 e) ts → length ts < bound → Begins ts → FindsElement atom e (Sign mark.Open ∷ (gap g ++ (ts ++ (gap h ++ Sign mark.Close ∷ []))))
  unfolding element_step bracketed
  full_brackets e ts g h s short begins rest ho hl =
      let regroup : (gap g ++ (ts ++ (gap h ++ Sign mark.Close ∷ []))) ++ rest ≡ gap g ++ (ts ++ (gap h ++ Sign mark.Close ∷ rest)) = simp append_assoc in
      rw (regroup, skip_begins g (ts ++ (gap h ++ Sign mark.Close ∷ rest)) (begins_append ts (gap h ++ Sign mark.Close ∷ rest) begins))
      (bind_is (inner (ts ++ (gap h ++ Sign mark.Close ∷ rest))) (λ x end. expect mark.Close x (skip end)) (e, gap h ++ Sign mark.Close ∷ rest) (inner_full e ts short s (gap h ++ Sign mark.Close ∷ rest) (mark_stops h mark.Close rest at_close))
      ∙ rw (skip_mark h mark.Close rest) (expect_mark mark.Close e rest (sees_same mark.Close rest at_close)))

  call_found : (f : List ℕ) (args : Args) (ts : List Tok) → Full (Several args) ts → length ts < bound → FindsElement atom (Call f (shown args)) (Word f ∷ Sign mark.Open ∷ (ts ++ Sign mark.Close ∷ []))
  unfolding element_step after_name sees
  call_found f args ts full short rest ho hl =
      let regroup : (ts ++ Sign mark.Close ∷ []) ++ rest ≡ ts ++ Sign mark.Close ∷ rest = append_assoc ts (Sign mark.Close ∷ []) rest in
      let long : length ts ≤ length (ts ++ Sign mark.Close ∷ rest) = omega (arith, length-append ts (Sign mark.Close ∷ rest)) in
      rw regroup (bind_is (several inner (suc (length (ts ++ Sign mark.Close ∷ rest))) (ts ++ Sign mark.Close ∷ rest)) (λ x end. expect mark.Close (Call f (shown x)) end) (args, Sign mark.Close ∷ rest)
      (full short (length (ts ++ Sign mark.Close ∷ rest)) mark.Close rest long by_close)
      ∙ expect_mark mark.Close (Call f (shown args)) rest (sees_same mark.Close rest at_close))

  reference_found : (f : List ℕ) (args : Args) (ts : List Tok) → Full (Several args) ts → given args ≡ true → length ts < bound → FindsElement atom (Reference f args) (Word f ∷ Sign mark.Less ∷ (ts ++ Sign mark.Greater ∷ []))
  unfolding element_step after_name sees
  reference_found f args ts full all short rest ho hl =
      let regroup : (ts ++ Sign mark.Greater ∷ []) ++ rest ≡ ts ++ Sign mark.Greater ∷ rest = append_assoc ts (Sign mark.Greater ∷ []) rest in
      let long : length ts ≤ length (ts ++ Sign mark.Greater ∷ rest) = omega (arith, length-append ts (Sign mark.Greater ∷ rest)) in
      rw regroup (bind_is (several inner (suc (length (ts ++ Sign mark.Greater ∷ rest))) (ts ++ Sign mark.Greater ∷ rest)) (subscripts inner f) (args, Sign mark.Greater ∷ rest)
      (full short (length (ts ++ Sign mark.Greater ∷ rest)) mark.Greater rest long by_greater)
      ∙ rw all (expect_mark mark.Greater (Reference f args) rest (sees_same mark.Greater rest at_greater)))

  absent_found : (g : Bool) (m : Mark) (rest : List Tok) → Closes m → one_argument inner (gap g ++ Sign m ∷ rest) ≡ Some (Absent, Sign m ∷ rest)
  unfolding one_argument
  absent_found g m rest c = rw (skip_mark g m rest, mark_starts m rest c) refl

  present_found : (e : Expr) (ts : List Tok) (g h : Bool) → Spells (Grade 7 e) ts → length ts < bound → Begins ts → (m : Mark) (rest : List Tok) → Closes m
      → one_argument inner ((gap g ++ (ts ++ gap h)) ++ Sign m ∷ rest) ≡ Some (Given e, Sign m ∷ rest)
  unfolding one_argument
  present_found e ts g h s short begins m rest c =
      let regroup : (gap g ++ (ts ++ gap h)) ++ Sign m ∷ rest ≡ gap g ++ (ts ++ (gap h ++ Sign m ∷ rest)) = simp append_assoc in
      let longer = begins_append ts (gap h ++ Sign m ∷ rest) begins in
      rw (regroup, skip_begins g (ts ++ (gap h ++ Sign m ∷ rest)) longer, starts_begins (ts ++ (gap h ++ Sign m ∷ rest)) longer)
      (bind_is (inner (ts ++ (gap h ++ Sign m ∷ rest))) (λ x end. Some (Given x, skip end)) (e, gap h ++ Sign m ∷ rest) (inner_full e ts short s (gap h ++ Sign m ∷ rest) (mark_stops h m rest c))
      ∙ rw (skip_mark h m rest) refl)

  abbrev after_one : ℕ → Arg → Parser Args
  after_one n arg rest = if sees mark.Comma rest then bind (several inner n (tail rest)) (λ args end. Some (More arg args, end)) else Some (More arg Nil, rest)

  single_found : (arg : Arg) (ts : List Tok) → Full (One arg) ts → Full (Several (More arg Nil)) ts
  unfolding several
  single_found arg ts full short n m rest h b =
      bind_is (one_argument inner (ts ++ Sign m ∷ rest)) (after_one n) (arg, Sign m ∷ rest) (full short m rest (closes m b))
      ∙ rw (bounds_comma m rest b) refl

  comma_found : (arg : Arg) (args : Args) (ts us : List Tok) → Full (One arg) ts → Full (Several args) us → Full (Several (More arg args)) (ts ++ (Sign mark.Comma ∷ us))
  unfolding several sees
  comma_found arg args ts us fo fs short zero m rest h b = absurd (omega (arith, length-append ts (Sign mark.Comma ∷ us)))
  comma_found arg args ts us fo fs short (suc n) m rest h b =
      let regroup : (ts ++ (Sign mark.Comma ∷ us)) ++ Sign m ∷ rest ≡ ts ++ (Sign mark.Comma ∷ (us ++ Sign m ∷ rest)) = append_assoc ts (Sign mark.Comma ∷ us) (Sign m ∷ rest) in
      let one_short : length ts < bound = omega (arith, length-append ts (Sign mark.Comma ∷ us)) in
      let rest_short : length us < bound = omega (arith, length-append ts (Sign mark.Comma ∷ us)) in
      let turns : length us ≤ n = omega (arith, length-append ts (Sign mark.Comma ∷ us)) in
      rw regroup (bind_is (one_argument inner (ts ++ (Sign mark.Comma ∷ (us ++ Sign m ∷ rest)))) (after_one (suc n)) (arg, Sign mark.Comma ∷ (us ++ Sign m ∷ rest)) (fo one_short mark.Comma (us ++ Sign m ∷ rest) at_comma)
      ∙ bind_is (several inner (suc n) (us ++ Sign m ∷ rest)) (λ x end. Some (More arg x, end)) (args, Sign m ∷ rest) (fs rest_short n m rest turns b))

  flat : (t : Tok) (ts : List Tok) → tok_starts t ≡ true → ((us : List Tok) → next (Blank ∷ t ∷ us) ≡ Sees binary.Concatenate (t ∷ us)) → Begins (t ∷ ts)
  flat t ts s c = record { head = t; rest = ts; is = refl; start = s; cat = λ us. c (ts ++ us) }

  begins_word : (s : List ℕ) (ts : List Tok) → Begins (Word s ∷ ts)
  unfolding next
  begins_word s ts = flat (Word s) ts refl (λ us. refl)

  begins_integer : (n : ℕ) → Begins (Digits n ∷ [])
  unfolding next
  begins_integer s = flat (Digits s) [] refl (λ us. refl)

  begins_literal : (s : List ℕ) → Begins (Quoted s ∷ [])
  unfolding next
  begins_literal s = flat (Quoted s) [] refl (λ us. refl)

  begins_keyword : (s : List ℕ) → Begins (Sign mark.Ampersand ∷ Word s ∷ [])
  unfolding next
  begins_keyword s = flat (Sign mark.Ampersand) (Word s ∷ []) refl (λ us. refl)

  begins_open : (ts : List Tok) → Begins (Sign mark.Open ∷ ts)
  unfolding next
  begins_open ts = flat (Sign mark.Open) ts refl (λ us. refl)

  abbrev two_more : (a b : Tok) (g h : Bool) (ts : List Tok) → length (a ∷ (gap g ++ (ts ++ (gap h ++ b ∷ [])))) ≤ bound → length ts < bound
  two_more a b g h ts l = omega (arith, length-append (gap g) (ts ++ (gap h ++ b ∷ [])), length-append ts (gap h ++ b ∷ []), length-append (gap h) (b ∷ []))

  full : {p : Phrase} {ts : List Tok} → Spells p ts → Full p ts
  full (name s) = λ h. record { begins = begins_word s []; found = full_name s }
  full (integer n) = λ h. record { begins = begins_integer n; found = full_integer n }
  full (literal s) = λ h. record { begins = begins_literal s; found = full_literal s }
  full (keyword s) = λ h. record { begins = begins_keyword s; found = full_keyword s }
  full (applied u e ts s) = λ h. record { begins = begins_sign u ts (full s (omega arith)).begins; found = full_applied u e ts (again_full e ts (omega arith) s) }
  full (brackets e ts g h s) = λ l.
      let short = two_more (Sign mark.Open) (Sign mark.Close) g h ts l in
      record { begins = begins_open _; found = full_brackets e ts g h s short (full s (omega arith)).begins }
  full (call f args ts s) = λ l. record { begins = begins_word f _; found = call_found f args ts (full s) (omega (arith, length-append ts (Sign mark.Close ∷ []))) }
  full (reference f args ts s all) = λ l. record { begins = begins_word f _; found = reference_found f args ts (full s) all (omega (arith, length-append ts (Sign mark.Greater ∷ []))) }
  full (plain e ts s) = λ h. let f = full s h in full_plain atom e ts f.begins f.found
  full (looser k e ts s) = λ h. full_looser atom k e ts (full s h) (k == 1) refl
  full (combined op a b ts us s t) = λ h.
      full_combined atom op a b ts us (full s (omega (arith, length-append ts (link op ++ us)))) (full t (omega (arith, length-append ts (link op ++ us), link_long op us)))
  full (absent g) = λ h m rest c. absent_found g m rest c
  full (present e ts g h s) = λ l m rest c.
      let short : length ts < bound = omega (arith, length-append (gap g) (ts ++ gap h), length-append ts (gap h)) in
      present_found e ts g h s short (full s (omega arith)).begins m rest c
  full (single arg ts s) = single_found arg ts (full s)
  full (comma arg args ts us s t) = comma_found arg args ts us (full s) (full t)

never : (ts : List Tok) → length ts < zero → ⊥
never ts h = omega arith

-- no phrase but an argument is empty
long : {p : Phrase} {ts : List Tok} → Spells p ts → Full (λ ts. None) 0 (λ e ts h s. absurd (never ts h)) (λ ts. None) (λ e ts h s. absurd (never ts h)) p ts
long s = full (λ ts. None) 0 (λ e ts h s. absurd (never ts h)) (λ ts. None) (λ e ts h s. absurd (never ts h)) s

abbrev Elements : ℕ → Type 0
Elements d = (e : Expr) (ts : List Tok) → length ts ≤ d → Spells (Element e) ts → FindsElement (element d) e ts

abbrev Wholes : ℕ → Type 0
Wholes d = (e : Expr) (ts : List Tok) → length ts ≤ d → Spells (Grade 7 e) ts → Finds (graded (element d) 7) 7 e ts

elements_full : (d : ℕ) → Elements d × Wholes d
unfolding element
elements_full zero = ((λ e ts h s. absurd (let b = (long s h).begins in omega (arith, begins_long ts b))), (λ e ts h s. absurd (let b = (long s h).begins in omega (arith, begins_long ts b))))
elements_full (suc d) =
    let below = elements_full d in
    let inner : (e : Expr) (ts : List Tok) → length ts < suc d → Spells (Grade 7 e) ts → Finds (graded (element d) 7) 7 e ts = λ e ts h s. below.1 e ts (omega arith) s in
    let again : (e : Expr) (ts : List Tok) → length ts < suc d → Spells (Element e) ts → FindsElement (element d) e ts = λ e ts h s. below.0 e ts (omega arith) s in (
      (λ e ts h s. (full (graded (element d) 7) (suc d) inner (element d) again s h).found),
      (λ e ts h s. (full (graded (element d) 7) (suc d) inner (element d) again s h).found),
    )

-- an expression and an element are read where the bound on nesting is large enough
pub whole_full : (d : ℕ) (e : Expr) (ts : List Tok) → length ts ≤ d → Spells (Grade 7 e) ts → Finds (whole d) 7 e ts
whole_full d e ts h s = (elements_full d).1 e ts h s

pub element_full : (d : ℕ) (e : Expr) (ts : List Tok) → length ts ≤ d → Spells (Element e) ts → FindsElement (element d) e ts
element_full d e ts h s = (elements_full d).0 e ts h s

-- and they begin with a token that begins elements
module _ (d : ℕ) where
  full_within : {p : Phrase} {ts : List Tok} → Spells p ts
      → Full (whole d) (suc d) (λ e ts h s. whole_full d e ts (omega arith) s) (element d) (λ e ts h s. element_full d e ts (omega arith) s) p ts
  full_within s = full (whole d) (suc d) (λ e ts h s. whole_full d e ts (omega arith) s) (element d) (λ e ts h s. element_full d e ts (omega arith) s) s

pub expr_begins : (e : Expr) (ts : List Tok) → Spells (Grade 7 e) ts → Begins ts
expr_begins e ts s = (full_within (length ts) s (omega arith)).begins

pub element_begins : (e : Expr) (ts : List Tok) → Spells (Element e) ts → Begins ts
element_begins e ts s = (full_within (length ts) s (omega arith)).begins

nothing_stops : Stops 7 []
unfolding sees next
nothing_stops = record { open_no = refl; less_no = refl; past = tt }

pub expr_full : (e : Expr) (ts : List Tok) → Spells (Grade 7 e) ts → expr ts ≡ Some e
unfolding expr
expr_full e ts s =
    let found : whole (length ts) ts ≡ Some (e, []) = subst (λ x. whole (length ts) x ≡ Some (e, [])) (append-nil ts) (whole_full (length ts) e ts (omega arith) s [] nothing_stops) in
    ap at_end found
