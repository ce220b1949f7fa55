-- Turns of the loops.
use Rattle.std.proofs.Common.{◌≡◌, refl, sym, ◌∙◌, ap, subst, ℕ, zero, suc, ◌+◌, ◌-◌, ◌<◌, ◌≤◌, ◌==◌, true, false, List, [], ◌∷◌, ◌++◌, length, arith}
use Rattle.std.specs.Prelude.{Option, Some, None, is_some, if◌then◌else◌}
use Rattle.model.specs.declared.tokens.Mark.TheVariants as mark
use Rattle.model.specs.declared.trees.Argument.{Argument}
use Rattle.model.specs.declared.trees.Binary.{Binary}
use Rattle.model.specs.declared.trees.Binary.TheVariants as binary
use Rattle.model.specs.declared.trees.Unary.{Unary}
use Rattle.model.specs.Deck.Grammar.{grade}
use Rattle.model.specs.Deck.Parse.{Parser, bind, Onward, Ends, Sees, next, on, lefts, rights, graded, element, element_step, by_mark, prefixed, Role, Opens, Refers, Prefix, Either, Infix, Neither, role, one_argument, several, sees, tail}
use Rattle.model.specs.Deck.Tokens.{Tok, Blank, Word, Digits, Quoted, Sign}
use Rattle.model.specs.Deck.Trees.{Expr, Apply, Combine, Arg, Args, Nil, More}
use Rattle.model.specs.Deck.TreeViews.{arg_of, args_of}
use Rattle.model.proofs.Decks.ParseComplete.{on_go}
use Rattle.model.proofs.Decks.ParseSound.{pow_only}
use Rattle.stmt_parser.specs.Powers.{marks_before, powers}
use Rattle.stmt_parser.specs.Views.{Misses, Operated, grade_ahead, powered, prefix_of, prefix_of_role, tight}
use Rattle.stmt_parser.proofs.Powers.{marks_last, powers_last}

pub one_more : {X : Type 0} {x : X} (f : ℕ → X) (n at : ℕ) → at < n → x ≡ f (n - at) → x ≡ f (suc (n - (at + 1)))
one_more f n at below e = let turn : n - at ≡ suc (n - (at + 1)) = omega arith in e ∙ ap f turn

pub no_more : {X : Type 0} {x : X} (f : ℕ → X) (n at : ℕ) → n ≤ at → x ≡ f (n - at) → x ≡ f 0
no_more f n at done e = let none : n - at ≡ 0 = omega arith in e ∙ ap f none

on_miss : {A : Type 0} (x : Onward) (k : ℕ) (stop : A) (go : Binary → List Tok → A) → Misses k x → on x k stop go ≡ stop
unfolding on
on_miss Ends k stop go p = refl
on_miss (Sees op ts) k stop go p = let miss : (grade op == k) ≡ false = grind (arith, p) in rw miss refl

-- whether an operator was taken
pub stopped : (k : ℕ) (ts rest : List Tok) (o : Option Binary) → Operated k ts o rest → is_some o ≡ false → Misses k (next ts) × (rest ≡ ts)
stopped k ts rest None h i = h
stopped k ts rest (Some op) h i = absurd (cc)

pub went_on : (k : ℕ) (ts rest : List Tok) (o : Option Binary) → Operated k ts o rest → is_some o ≡ true → (op : Binary) × (next ts ≡ Sees op rest) × (grade op ≡ k)
went_on k ts rest None h i = absurd (cc)
went_on k ts rest (Some op) h i = (op, h.0, h.1)

some_is : {A : Type 0} (x y : A) → Some x ≡ Some y → x ≡ y
some_is x y h = cc

-- ---- operators that group to the left
module _ (operand : Parser Expr) (k n : ℕ) (e : Expr) (ts : List Tok) where
  abbrev go_on : Binary → List Tok → Option (Expr × List Tok)
  go_on op after = bind (operand after) (λ f rest. lefts operand k n (Combine op e f) rest)

  pub lefts_stop : Misses k (next ts) → lefts operand k (suc n) e ts ≡ Some (e, ts)
  unfolding lefts
  lefts_stop m = on_miss (next ts) k (Some (e, ts)) go_on m

  pub lefts_none : (op : Binary) (after : List Tok) → next ts ≡ Sees op after → grade op ≡ k → operand after ≡ None → lefts operand k (suc n) e ts ≡ None
  unfolding lefts bind
  lefts_none op after s g h = on_go (next ts) k (Some (e, ts)) go_on op after s g ∙ ap (λ r. bind r (λ f rest. lefts operand k n (Combine op e f) rest)) h

  pub lefts_go : (op : Binary) (after : List Tok) (f : Expr) (rest : List Tok) → next ts ≡ Sees op after → grade op ≡ k → operand after ≡ Some (f, rest)
      → lefts operand k (suc n) e ts ≡ lefts operand k n (Combine op e f) rest
  unfolding lefts bind
  lefts_go op after f rest s g h = on_go (next ts) k (Some (e, ts)) go_on op after s g ∙ ap (λ r. bind r (λ x end. lefts operand k n (Combine op e x) end)) h

  pub lefts_end : lefts operand k zero e ts ≡ Some (e, ts)
  unfolding lefts
  lefts_end = refl

-- where no operator of the grade comes next
pub lefts_miss : (operand : Parser Expr) (k n : ℕ) (e : Expr) (ts : List Tok) → Misses k (next ts) → lefts operand k n e ts ≡ Some (e, ts)
lefts_miss operand k zero e ts m = lefts_end operand k zero e ts
lefts_miss operand k (suc n) e ts m = lefts_stop operand k n e ts m

pub ahead_misses : (k : ℕ) (x : Onward) → (grade_ahead x ≡ k → ⊥) → Misses k x
ahead_misses k Ends h = tt
ahead_misses k (Sees op ts) h = h

pub graded_left : (atom : Parser Expr) (k j : ℕ) → k ≡ suc j → (j == 1) ≡ false → (ts : List Tok) (e : Expr) (rest : List Tok) → graded atom j ts ≡ Some (e, rest)
    → graded atom k ts ≡ lefts (graded atom j) k (length rest) e rest
unfolding graded bind
graded_left atom k j h miss ts e rest found =
    subst (λ n. graded atom n ts ≡ lefts (graded atom j) n (length rest) e rest) (sym h) (rw miss (ap (λ r. bind r (λ x end. lefts (graded atom j) (suc j) (length end) x end)) found))

-- ---- `**`, which groups to the right
abbrev pub onto : List Expr → Option (Expr × List Tok) → Option (Expr × List Tok)
onto xs None = None
onto xs (Some p) = Some (powers xs p.0, p.1)

onto_nil : (o : Option (Expr × List Tok)) → o ≡ onto [] o
onto_nil None = refl
onto_nil (Some p) = refl

module _ (operand : Parser Expr) (n : ℕ) (ts : List Tok) (xs : List Expr) where
  abbrev go_right : Expr → Binary → Parser Expr
  go_right e op after = bind (rights operand 2 n after) (λ f end. Some (Combine op e f, end))

  abbrev after_operand : Expr → Parser Expr
  after_operand e rest = on (next rest) 2 (Some (e, rest)) (go_right e)

  pub rights_none : operand ts ≡ None → onto xs (rights operand 2 (suc n) ts) ≡ None
  unfolding rights bind
  rights_none h = ap (λ r. onto xs (bind r after_operand)) h

  pub rights_stop : (e : Expr) (rest : List Tok) → operand ts ≡ Some (e, rest) → Misses 2 (next rest) → onto xs (rights operand 2 (suc n) ts) ≡ Some (powers xs e, rest)
  unfolding rights bind
  rights_stop e rest h m = ap (λ r. onto xs (bind r after_operand)) h ∙ ap (onto xs) (on_miss (next rest) 2 (Some (e, rest)) (go_right e) m)

  pub rights_go : (e : Expr) (rest : List Tok) (op : Binary) (after : List Tok) → operand ts ≡ Some (e, rest) → next rest ≡ Sees op after → grade op ≡ 2
      → onto xs (rights operand 2 (suc n) ts) ≡ onto (xs ++ e ∷ []) (rights operand 2 n after)
  unfolding rights bind
  rights_go e rest op after h s g =
      ap (λ r. onto xs (bind r after_operand)) h
      ∙ ap (onto xs) (on_go (next rest) 2 (Some (e, rest)) (go_right e) op after s g)
      ∙ into (rights operand 2 n after) (pow_only op (grind (arith, g)))
    where
      into : (o : Option (Expr × List Tok)) → op ≡ binary.Power → onto xs (bind o (λ f end. Some (Combine op e f, end))) ≡ onto (xs ++ e ∷ []) o
      into None i = refl
      into (Some p) i = rw i (ap (λ y. Some (y, p.1)) (sym (powers_last xs e p.0)))

pub rights_start : (operand : Parser Expr) (n m : ℕ) (ts : List Tok) → n ≡ m → rights operand 2 n ts ≡ onto [] (rights operand 2 m ts)
rights_start operand n m ts h = ap (λ k. rights operand 2 k ts) h ∙ onto_nil (rights operand 2 m ts)

pub rights_end : (operand : Parser Expr) (ts : List Tok) (xs : List Expr) → onto xs (rights operand 2 zero ts) ≡ None
unfolding rights
rights_end operand ts xs = refl

-- ---- marks of unary operators
abbrev pub before : List Unary → Option (Expr × List Tok) → Option (Expr × List Tok)
before us None = None
before us (Some p) = Some (marks_before us p.0, p.1)

before_nil : (o : Option (Expr × List Tok)) → o ≡ before [] o
before_nil None = refl
before_nil (Some p) = refl

before_last : (us : List Unary) (u : Unary) (o : Option (Expr × List Tok)) → before us (bind o (λ e rest. Some (Apply u e, rest))) ≡ before (us ++ u ∷ []) o
unfolding bind
before_last us u None = refl
before_last us u (Some p) = ap (λ e. Some (e, p.1)) (sym (marks_last us u p.0))

pub marks_start : (d n : ℕ) (us : List Unary) (ts : List Tok) → us ≡ [] → d ≡ n → element d ts ≡ before us (element n ts)
marks_start d n us ts e h = ap (λ k. element k ts) h ∙ before_nil (element n ts) ∙ ap (λ xs. before xs (element n ts)) (sym e)

by_prefix : (inner : Parser Expr) (r : Role) (ts : List Tok) (found : Option (Expr × List Tok)) (u : Unary) → prefix_of_role r ≡ Some u → by_mark inner r ts found ≡ prefixed inner u found
by_prefix inner Opens ts found u h = absurd (cc)
by_prefix inner Refers ts found u h = absurd (cc)
by_prefix inner (Prefix v) ts found u h = ap (λ w. prefixed inner w found) (some_is v u h)
by_prefix inner (Either v op) ts found u h = ap (λ w. prefixed inner w found) (some_is v u h)
by_prefix inner (Infix op) ts found u h = absurd (cc)
by_prefix inner Neither ts found u h = absurd (cc)

marked_element : (d : ℕ) (t : Tok) (ts : List Tok) (u : Unary) → prefix_of t ≡ Some u → element (suc d) (t ∷ ts) ≡ bind (element d ts) (λ e rest. Some (Apply u e, rest))
unfolding element element_step
marked_element d Blank ts u h = absurd (cc)
marked_element d (Word s) ts u h = absurd (cc)
marked_element d (Digits n) ts u h = absurd (cc)
marked_element d (Quoted s) ts u h = absurd (cc)
marked_element d (Sign m) ts u h = by_prefix (graded (element d) 7) (role m) ts (element d ts) u h

pub marks_go : (d : ℕ) (us : List Unary) (u : Unary) (ts rest : List Tok) (t : Tok) → ts ≡ t ∷ rest → prefix_of t ≡ Some u → before us (element (suc d) ts) ≡ before (us ++ u ∷ []) (element d rest)
marks_go d us u ts rest t at h = ap (λ x. before us (element (suc d) x)) at ∙ ap (before us) (marked_element d t rest u h) ∙ before_last us u (element d rest)

pub marks_end : (us : List Unary) (ts : List Tok) → before us (element zero ts) ≡ None
unfolding element
marks_end us ts = refl

no_mark : (inner : Parser Expr) (r : Role) (ts : List Tok) (found : Option (Expr × List Tok)) → prefix_of_role r ≡ None → (r ≡ Opens → ⊥) → (r ≡ Refers → ⊥) → by_mark inner r ts found ≡ None
no_mark inner Opens ts found h o f = absurd (o refl)
no_mark inner Refers ts found h o f = absurd (f refl)
no_mark inner (Prefix u) ts found h o f = absurd (cc)
no_mark inner (Either u op) ts found h o f = absurd (cc)
no_mark inner (Infix op) ts found h o f = refl
no_mark inner Neither ts found h o f = refl

-- ---- grades one above the other
pub graded_none : (atom : Parser Expr) (ts : List Tok) → graded atom 0 ts ≡ atom ts
unfolding graded
graded_none atom ts = refl

pub graded_fails : (atom : Parser Expr) (k j : ℕ) → k ≡ suc j → (j == 1) ≡ false → (ts : List Tok) → graded atom j ts ≡ None → graded atom k ts ≡ None
unfolding graded bind
graded_fails atom k j h miss ts none =
    subst (λ n. graded atom n ts ≡ None) (sym h) (rw miss (ap (λ r. bind r (λ x end. lefts (graded atom j) (suc j) (length end) x end)) none))

-- where none of a grade is there, none of a greater grade is
pub climb_fails : (atom : Parser Expr) (n k : ℕ) (ts : List Tok) → 2 ≤ k → graded atom k ts ≡ None → graded atom (k + n) ts ≡ None
climb_fails atom zero k ts h none = subst (λ m. graded atom m ts ≡ None) (omega arith) none
climb_fails atom (suc n) k ts h none = graded_fails atom (k + suc n) (k + n) (omega arith) (grind (arith, h)) ts (climb_fails atom n k ts h none)

pub climb_start : (atom : Parser Expr) (ts : List Tok) → graded atom 2 ts ≡ rights (graded atom 1) 2 (length ts) ts
unfolding graded
climb_start atom ts = refl

-- ---- an element, and operators of the grades 1 and 2
module _ (operand : Parser Expr) (n : ℕ) (e : Expr) (ts : List Tok) where
  abbrev power_on : Binary → List Tok → Option (Expr × List Tok)
  power_on op after = bind (rights operand 2 n after) (λ f end. Some (Combine op e f, end))

  pub powered_stop : Misses 2 (next ts) → powered operand n e ts ≡ Some (e, ts)
  powered_stop m = on_miss (next ts) 2 (Some (e, ts)) power_on m

  pub powered_goes : (op : Binary) (after : List Tok) (f : Expr) (rest : List Tok) → next ts ≡ Sees op after → grade op ≡ 2 → rights operand 2 n after ≡ Some (f, rest)
      → powered operand n e ts ≡ Some (Combine op e f, rest)
  unfolding bind
  powered_goes op after f rest s g h = on_go (next ts) 2 (Some (e, ts)) power_on op after s g ∙ ap (λ r. bind r (λ x end. Some (Combine op e x, end))) h

  pub powered_none : (op : Binary) (after : List Tok) → next ts ≡ Sees op after → grade op ≡ 2 → rights operand 2 n after ≡ None → powered operand n e ts ≡ None
  unfolding bind
  powered_none op after s g h = on_go (next ts) 2 (Some (e, ts)) power_on op after s g ∙ ap (λ r. bind r (λ x end. Some (Combine op e x, end))) h

operand_of : (atom : Parser Expr) (ts : List Tok) (e : Expr) (rest : List Tok) → atom ts ≡ Some (e, rest) → graded atom 1 ts ≡ lefts (graded atom 0) 1 (length rest) e rest
operand_of atom ts e rest found = graded_left atom 1 0 refl refl ts e rest (graded_none atom ts ∙ found)

pub tight_none : (atom : Parser Expr) (ts : List Tok) → atom ts ≡ None → graded atom 2 ts ≡ None
unfolding rights bind
tight_none atom ts none = climb_start atom ts ∙ none_of (length ts)
  where
    one : graded atom 1 ts ≡ None
    one = graded_fails atom 1 0 refl refl ts (graded_none atom ts ∙ none)

    none_of : (n : ℕ) → rights (graded atom 1) 2 n ts ≡ None
    none_of zero = refl
    none_of (suc n) = rw one refl

with_operand : (atom : Parser Expr) (n : ℕ) (ts : List Tok) (e : Expr) (rest : List Tok) → atom ts ≡ Some (e, rest) → rights (graded atom 1) 2 (suc n) ts ≡ tight atom n e rest
unfolding rights
with_operand atom n ts e rest found = ap (λ r. bind r (λ x end. powered (graded atom 1) n x end)) (operand_of atom ts e rest found)

pub tight_goes : (d : ℕ) (ts : List Tok) (e : Expr) (rest : List Tok) (turns : ℕ) → turns ≡ length ts → element d ts ≡ Some (e, rest) → graded (element d) 2 ts ≡ tight (element d) (turns - 1) e rest
unfolding element element_step
tight_goes zero ts e rest turns h found = absurd (cc)
tight_goes (suc d) [] e rest turns h found = absurd (cc)
tight_goes (suc d) (t ∷ ts) e rest turns h found = climb_start (element (suc d)) (t ∷ ts) ∙ with_operand (element (suc d)) (length ts) (t ∷ ts) e rest found ∙ ap (λ n. tight (element (suc d)) n e rest) (omega (arith, h))

pub tight_misses : (d : ℕ) (ts : List Tok) (e : Expr) (rest : List Tok) → element d ts ≡ Some (e, rest) → Misses 1 (next rest) → Misses 2 (next rest) → graded (element d) 2 ts ≡ Some (e, rest)
unfolding bind
tight_misses d ts e rest found one two =
    tight_goes d ts e rest (length ts) refl found
    ∙ ap (λ r. bind r (λ x end. powered (graded (element d) 1) (length ts - 1) x end)) (lefts_miss (graded (element d) 0) 1 (length rest) e rest one)
    ∙ on_miss (next rest) 2 (Some (e, rest)) (λ op after. bind (rights (graded (element d) 1) 2 (length ts - 1) after) (λ f end. Some (Combine op e f, end))) two

-- ---- arguments
abbrev pub join : Args → Args → Args
join Nil bs = bs
join (More a args) bs = More a (join args bs)

join_assoc : (a b c : Args) → join (join a b) c ≡ join a (join b c)
join_assoc Nil b c = refl
join_assoc (More x a) b c = ap (λ y. More x y) (join_assoc a b c)

abbrev pub prepend : Args → Option (Args × List Tok) → Option (Args × List Tok)
prepend a None = None
prepend a (Some p) = Some (join a p.0, p.1)

args_last : (xs : List Argument) (x : Argument) → args_of (xs ++ x ∷ []) ≡ join (args_of xs) (More (arg_of x) Nil)
unfolding args_of
args_last [] x = refl
args_last (y ∷ xs) x = ap (λ a. More (arg_of y) a) (args_last xs x)

module _ (inner : Parser Expr) (n : ℕ) (ts rest : List Tok) (found : List Argument) (x : Argument) where
  abbrev after_one : Arg → Parser Args
  after_one arg end = if sees mark.Comma end then bind (several inner n (tail end)) (λ args last. Some (More arg args, last)) else Some (More arg Nil, end)

  pub several_go : one_argument inner ts ≡ Some (arg_of x, rest) → sees mark.Comma rest ≡ true → prepend (args_of found) (several inner (suc n) ts) ≡ prepend (args_of (found ++ x ∷ [])) (several inner n (tail rest))
  unfolding several bind
  several_go o s = ap (λ r. prepend (args_of found) (bind r after_one)) o ∙ rw s (into (several inner n (tail rest)))
    where
      into : (o : Option (Args × List Tok)) → prepend (args_of found) (bind o (λ args last. Some (More (arg_of x) args, last))) ≡ prepend (args_of (found ++ x ∷ [])) o
      into None = refl
      into (Some p) = rw (args_last found x) (ap (λ y. Some (y, p.1)) (sym (join_assoc (args_of found) (More (arg_of x) Nil) p.0)))

  pub several_end : one_argument inner ts ≡ Some (arg_of x, rest) → sees mark.Comma rest ≡ false → prepend (args_of found) (several inner (suc n) ts) ≡ Some (args_of (found ++ x ∷ []), rest)
  unfolding several bind
  several_end o s = ap (λ r. prepend (args_of found) (bind r after_one)) o ∙ rw (s, args_last found x) refl

prepend_nil : (o : Option (Args × List Tok)) → o ≡ prepend Nil o
prepend_nil None = refl
prepend_nil (Some p) = refl

pub several_start : (inner : Parser Expr) (n m : ℕ) (ts : List Tok) (found : List Argument) → found ≡ [] → n ≡ m → several inner n ts ≡ prepend (args_of found) (several inner m ts)
unfolding args_of
several_start inner n m ts found e h = rw (e, h) (prepend_nil (several inner m ts))
