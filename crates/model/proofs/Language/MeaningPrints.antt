-- Each rule goes on from the world that it is given: nothing printed is taken back.
use Rattle.std.proofs.Common.{◌≡◌, ℕ, suc, arith, List, [], Option, Some, None, Bool, true, false, if◌then◌else◌, refl, sym, ap, ◌∙◌, subst}
use Rattle.model.specs.declared.instr.ReturnKind.{ReturnKind}
use Rattle.model.specs.declared.keys.KeyId.{KeyId}
use Rattle.model.specs.declared.primitives.PrimId.{PrimId}
use Rattle.model.specs.declared.run.Ending.TheVariants as ending
use Rattle.model.specs.declared.trees.Unary.TheVariants as u
use Rattle.model.specs.declared.trees.Binary.TheVariants as b
use Rattle.model.specs.declared.instr.ArithOp.TheVariants as a
use Rattle.model.specs.declared.instr.SignOp.TheVariants as sign
use Rattle.model.specs.Deck.Trees.{Bytes, Expr, Name, Integer, Literal, Keyword, Call, Reference, Apply, Combine, Args, Nil, More, Absent, Given, Place, Label, Computed, Nothing, Evaluate, Match, Assign, Replace, Stmt, Plain, End}
use Rattle.model.specs.Language.Names.{key_named, prim_named}
use Rattle.model.specs.Deck.Target as target
use Rattle.model.specs.Language.Programs.{Program}
use Rattle.model.specs.Language.Values.{Str, Pattern, pattern_trees, Function, Defined, Constructor, Field, enter_stmt, count_failure}
use Rattle.model.specs.Language.Conversions.{Op, Conv, Got, Bad, to_label, answer_of}
use Rattle.model.specs.Language.Operators.{told_value}
use Rattle.model.specs.Language.Calls.{Kept, return_of, kept_of, enter_call}
use Rattle.model.specs.Language.Primitives.{Outcome, Returns, Calls}
use Rattle.model.specs.Pattern.Patterns.{Answer, IsSaid, IsFailed, Running, Failed, Asks, Matched, AskFor, SayThat}
use Rattle.model.specs.Pattern.Search.{Script, scan}
use Rattle.model.specs.Language.Meaning.{Val, W, Back, Query, QVal, QName, QArgs, QBody, QExec, QMatch, Rule, Ret, Fail, Stop, Ask, Seek, SearchEvent, doing, told_at, again, answering, match_rule, two_values, value_and_name, key_rule, function_op, object_rule, set_key_rule, key_target, assign_rule, onward_of, other_of, over_limit, to_known, to_return, to_text_label, go_on, exec_rule, entered, call_rule, after_primitive, function_rule, rule}
use Rattle.model.proofs.Pattern.Laws.{scan_stays}
use Rattle.model.proofs.Language.MeaningGrows.{Before, before_refl, before_trans, Goes_on}
use Rattle.model.proofs.Language.OperationsPrint.{OpOn, gon, ron, fon, same_printed, arith_on, sign_on, cat_on, alt_on, cond_on, imm_on, indir_on, fetch_on, assign_on, assign_all_on, splice_on, keyset_on, match_on, element_on, prim_on, enter_on, leave_on, as_value_on, as_name_on, construct_on, select_on}

-- an operation at the end
last : {A : Type 0} {v : W} {o : Op W A} → OpOn v o → Goes_on v (doing o Ret)
last (gon h) = h
last (ron h) = h
last (fon h) = h

-- an operation, and what follows it
then_goes : {A B : Type 0} {v : W} {o : Op W A} (k : A → W → Rule B) → OpOn v o → ((a : A) (w : W) → Before v w → Goes_on v (k a w)) → Goes_on v (doing o k)
then_goes k (gon h) f = f _ _ h
then_goes k (ron h) f = h
then_goes k (fon h) f = h

goes_trans : {A : Type 0} (v w : W) (p : Rule A) → Before v w → Goes_on w p → Goes_on v p
goes_trans v w (Ret a x) h g = before_trans v w x h g
goes_trans v w (Fail x) h g = before_trans v w x h g
goes_trans v w (Stop e x) h g = before_trans v w x h g
goes_trans v w (Ask q x k f) h g = (before_trans v w x h g.0, g.1, g.2)
goes_trans v w (Seek s x k) h g = (before_trans v w x h g.0, g.1, g.2)

-- the same, where what follows goes on from its own world
then_from : {A B : Type 0} {v : W} {o : Op W A} (k : A → W → Rule B) → OpOn v o → ((a : A) (w : W) → Goes_on w (k a w)) → Goes_on v (doing o k)
then_from {v = v} k h f = then_goes k h (λ a w c. goes_trans v w (k a w) c (f a w))

-- asking first, at the same world
abbrev first : (w : W) → Before w w
first w = before_refl w

-- ---- expressions

two_on : (x y : Expr) (w : W) (op : Val → Val → W → Op W Val) → ((a c : Val) (v : W) → OpOn v (op a c v)) → Goes_on w (two_values x y w op)
two_on x y w op h = (first w, (λ a v i. (first v, (λ c z j. last (h a c z)), (λ z j. first z))), (λ v i. first v))

with_name_on : (x y : Expr) (w : W) (op : Val → target.Name → W → Op W Val) → ((a : Val) (n : target.Name) (v : W) → OpOn v (op a n v)) → Goes_on w (value_and_name x y w op)
with_name_on x y w op h = (first w, (λ a v i. (first v, (λ n z j. last (h a n z)), (λ z j. first z))), (λ v i. first v))

key_on : (o : Option KeyId) (w : W) → Goes_on w (key_rule o w)
key_on None w = first w
key_on (Some k) w = first w

function_on : (o : Option PrimId) (f : Bytes) (vs : List Val) (w : W) → OpOn w (function_op o f vs w)
function_on None f vs w = gon (first w)
function_on (Some p) f vs w = prim_on pattern_trees p vs w

-- ---- statements

object_on : (o : Option Expr) (w : W) (k : Val → W → Rule (record {})) → ((v : Val) (x : W) → Goes_on x (k v x)) → Goes_on w (object_rule o w k)
object_on None w k h = h (Str []) w
object_on (Some e) w k h = (first w, (λ v x i. h v x), (λ x i. first x))

set_key_on : (k : Option KeyId) (o : Option Expr) (w : W) → Goes_on w (set_key_rule k o w)
set_key_on None o w = first w
set_key_on (Some k) o w = object_on o w _ (λ v x. last (keyset_on k v x))

assign_rule_on : (t : Option Bytes) (x : Expr) (o : Option Expr) (w : W) → Goes_on w (assign_rule t x o w)
assign_rule_on None x o w = (first w, (λ n v i. object_on o v _ (λ a z. last (assign_on n a z))), (λ v i. first v))
assign_rule_on (Some s) x o w = set_key_on (key_named s) o w

-- ---- matches

again_on : (s : Bytes) (p : Pattern) (left : ℕ) (t : Script) (y : Answer Pattern) (v w : W) → Before v w → Goes_on v (again s p left t y w)
again_on s p left t y v w h = (h, (λ a x i. first x), (λ x i. first x))

answering_on : (s : Bytes) (p : Pattern) (left : ℕ) (t : Script) (c : Conv (Answer Pattern)) (w : W) → Goes_on w (answering s p left t c w)
answering_on s p left t (Got y) w = again_on s p left t y w w (first w)
answering_on s p left t (Bad e) w = first w

match_rule_on : (s : Bytes) (p : Pattern) (left : ℕ) (t : Script) (w : W) (e : SearchEvent) → Goes_on w (match_rule s p left t w e)
match_rule_on s p left t w Running = first w
match_rule_on s p left t w Failed = first w
match_rule_on s p left t w (Matched b e a) = then_goes _ (assign_all_on a w) (λ _ x h. h)
match_rule_on s p left t w (Asks (SayThat n v)) = then_goes _ (assign_on n (told_value v) w) (λ _ x h. again_on s p left t IsSaid w x h)
match_rule_on s p left t w (Asks (AskFor e k)) = (first w, (λ v x h. answering_on s p left t (answer_of pattern_trees k v) x), (λ x h. again_on s p left t IsFailed x x (first x)))

pub told_some : (x : SearchEvent) (e : SearchEvent) → told_at x ≡ Some e → (x ≡ Running → ⊥)
told_some x e h r = is_none (sym h ∙ ap told_at r)
  where
    IsSome : Option SearchEvent → Type 0
    IsSome None = ⊥
    IsSome (Some e) = Unit {0}

    is_none : Some e ≡ None → ⊥
    is_none q = subst IsSome q tt

match_stays : (s : Bytes) (p : Pattern) (left : ℕ) (t : Script) (n : ℕ) (e : SearchEvent) → told_at (scan s n p left 0 t) ≡ Some e → told_at (scan s (suc n) p left 0 t) ≡ Some e
match_stays s p left t n e h = ap told_at (scan_stays s n (suc n) (omega arith) p left 0 t (told_some (scan s n p left 0 t) e h)) ∙ h

module _ (prog : Program) where
  known_on : (o : Option ℕ) (w : W) → Goes_on w (to_known prog o w)
  known_on (Some k) w = (first w, (λ a x i. first x), (λ x i. first x))
  known_on None w = first w

  return_on : (l : Bytes) (o : Option ReturnKind) (w : W) → Goes_on w (to_return prog l o w)
  return_on l (Some k) w = first w
  return_on l None w = known_on (prog.label l) w

  text_on : (c : Conv Bytes) (w : W) → Goes_on w (to_text_label prog c w)
  text_on (Got l) w = return_on l (return_of l) w
  text_on (Bad e) w = first w

  go_on_on : (k : ℕ) (p : Option Place) (w : W) → Goes_on w (go_on prog k p w)
  go_on_on k None w = (first w, (λ a x i. first x), (λ x i. first x))
  go_on_on k (Some (Label l)) w = return_on l (return_of l) w
  go_on_on k (Some (Computed e)) w = (first w, (λ v x i. text_on (to_label v) x), (λ x i. first x))

  exec_on : (k : ℕ) (s : Option Stmt) (w : W) → Goes_on w (exec_rule prog k s w)
  exec_on k None w = first w
  exec_on k (Some (End e)) w = first w
  exec_on k (Some (Plain l body g)) w = go (over_limit w)
    where
      go : (c : Bool) → Goes_on w (if c then Stop (ending.StLimit k) w else Ask (QBody body) (enter_stmt k w) (λ _ w1. go_on prog k (onward_of g) w1) (λ w1. go_on prog k (other_of g) (count_failure w1)))
      go true = first w
      go false = (same_printed w _ refl, (λ _ x h. go_on_on k (onward_of g) x), (λ x h. goes_trans x (count_failure x) (go_on prog k (other_of g) (count_failure x)) (same_printed x _ refl) (go_on_on k (other_of g) (count_failure x))))

  entered_on : {A : Type 0} (c : Kept Pattern Expr) (r : Option ReturnKind) (o : Option ℕ) (w : W) (k : Back → W → Rule A) → ((g : Back) (x : W) → Goes_on x (k g x)) → Goes_on w (entered prog c r o w k)
  entered_on c (Some r) o w k h = then_from k (leave_on r c w) h
  entered_on c None None w k h = first w
  entered_on c None (Some n) w k h = (first w, (λ r x i. then_from k (leave_on r c x) h), (λ x i. first x))

  call_on : {A : Type 0} (f : Bytes) (vs : List Val) (o : Option Function) (w : W) (k : Back → W → Rule A) → ((g : Back) (x : W) → Goes_on x (k g x)) → Goes_on w (call_rule prog f vs o w k)
  call_on f vs None w k h = first w
  call_on f vs (Some (Defined entry xs ys)) w k h = goes_trans w (enter_call f xs ys vs w) _ (enter_on f xs ys vs w) (entered_on (kept_of f xs ys w) (return_of entry) (prog.label entry) (enter_call f xs ys vs w) k h)
  call_on f vs (Some (Constructor fields)) w k h = then_from k (construct_on f fields vs w) h
  call_on f vs (Some Field) w k h = then_from k (select_on f vs w) h

  finish_on : {A : Type 0} (r : Outcome Pattern Expr) (w : W) (k : Back → W → Rule A) → ((g : Back) (x : W) → Goes_on x (k g x)) → Goes_on w (after_primitive prog r w k)
  finish_on (Returns g) w k h = h g w
  finish_on (Calls f vs) w k h = call_on f vs (w.plain.functions f) w k h

  function_rule_on : {A : Type 0} (f : Bytes) (args : Args) (w : W) (k : Back → W → Rule A) → ((g : Back) (x : W) → Goes_on x (k g x)) → Goes_on w (function_rule prog f args w k)
  function_rule_on f args w k h = (first w, (λ vs x i. then_from _ (function_on (prim_named f) f vs x) (λ r z. finish_on r z k h)), (λ x i. first x))

  -- ---- all rules

  pub on : (q : Query) (w : W) → Goes_on w (rule prog q w)
  on (QVal (Name x)) w = last (fetch_on (target.Variable x) w)
  on (QVal (Integer z)) w = first w
  on (QVal (Literal s)) w = first w
  on (QVal (Keyword s)) w = key_on (key_named s) w
  on (QVal (Call f args)) w = function_rule_on f args w _ (λ g x. last (as_value_on g x))
  on (QVal (Reference s args)) w =
      then_from _ (fetch_on (target.Variable s) w) (λ a x. (first x, (λ vs y i. then_from _ (element_on a vs y) (λ n z. last (fetch_on n z))), (λ y i. first y)))
  on (QVal (Apply u.NameOf e)) w = (first w, (λ n x i. first x), (λ x i. first x))
  on (QVal (Apply u.Indirect e)) w = (first w, (λ v x i. then_from _ (indir_on v x) (λ n y. last (fetch_on n y))), (λ x i. first x))
  on (QVal (Apply u.Unevaluated e)) w = first w
  on (QVal (Apply u.Cursor e)) w = (first w, (λ n x i. first x), (λ x i. first x))
  on (QVal (Apply u.Plus e)) w = (first w, (λ v x i. last (sign_on sign.Plus v x)), (λ x i. first x))
  on (QVal (Apply u.Minus e)) w = (first w, (λ v x i. last (sign_on sign.Minus v x)), (λ x i. first x))
  on (QVal (Apply u.Interrogate e)) w = (first w, (λ v x i. first x), (λ x i. first x))
  on (QVal (Apply u.Negate e)) w = (first w, (λ v x i. first x), (λ x i. first x))
  on (QVal (Combine b.Conditional x y)) w = with_name_on x y w _ (cond_on pattern_trees)
  on (QVal (Combine b.Immediate x y)) w = with_name_on x y w _ (imm_on pattern_trees)
  on (QVal (Combine b.Power x y)) w = two_on x y w _ (arith_on a.Power)
  on (QVal (Combine b.Multiply x y)) w = two_on x y w _ (arith_on a.Multiply)
  on (QVal (Combine b.Divide x y)) w = two_on x y w _ (arith_on a.Divide)
  on (QVal (Combine b.Add x y)) w = two_on x y w _ (arith_on a.Add)
  on (QVal (Combine b.Subtract x y)) w = two_on x y w _ (arith_on a.Subtract)
  on (QVal (Combine b.Concatenate x y)) w = two_on x y w _ (cat_on pattern_trees)
  on (QVal (Combine b.Alternate x y)) w = two_on x y w _ (alt_on pattern_trees)
  on (QName (Name x)) w = first w
  on (QName (Apply u.Indirect e)) w = (first w, (λ v x i. last (indir_on v x)), (λ x i. first x))
  on (QName (Reference s args)) w = then_from _ (fetch_on (target.Variable s) w) (λ a x. (first x, (λ vs y i. last (element_on a vs y)), (λ y i. first y)))
  on (QName (Call f args)) w = function_rule_on f args w _ (λ g x. last (as_name_on g x))
  on (QName _) w = first w
  on (QArgs Nil) w = first w
  on (QArgs (More Absent args)) w = (first w, (λ vs x i. first x), (λ x i. first x))
  on (QArgs (More (Given e) args)) w = (first w, (λ v x i. (first x, (λ vs y j. first y), (λ y j. first y))), (λ x i. first x))
  on (QBody Nothing) w = first w
  on (QBody (Evaluate e)) w = (first w, (λ v x i. first x), (λ x i. first x))
  on (QBody (Assign x o)) w = assign_rule_on (key_target x) x o w
  on (QBody (Match s p)) w =
      (first w, (λ c x h. (first x, (λ d v i. then_goes _ (match_on pattern_trees c d v) (λ g z j. (j, (λ r q k. first q), (λ q k. first q)))), (λ v i. first v))), (λ x h. first x))
  on (QBody (Replace s p o)) w =
      (first w, (λ n x h. then_from _ (fetch_on n x) (λ c x1. (first x1, (λ d v i. then_goes _ (match_on pattern_trees c d v) (λ g z j. (j, (λ r q k. object_on o q _ (λ t y. last (splice_on n g.subject r.start r.end t y))), (λ q k. first q)))), (λ v i. first v)))), (λ x h. first x))
  on (QExec k) w = exec_on k (prog.at k) w
  on (QMatch s p left t) w = (first w, match_stays s p left t, (λ e. match_rule_on s p left t w e))
