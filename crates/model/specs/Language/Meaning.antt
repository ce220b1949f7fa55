-- What a program does.
use Rattle.std.specs.Prelude.{ℕ, zero, suc, List, [], ◌∷◌, ◌++◌, pos, int_le, Option, None, Some, Bool, ◌&&◌, if◌then◌else◌}
use Rattle.model.specs.declared.instr.ArithOp.TheVariants as arith
use Rattle.model.specs.declared.instr.SignOp.TheVariants as sign
use Rattle.model.specs.declared.instr.ReturnKind.{ReturnKind}
use Rattle.model.specs.declared.keys.KeyId.{KeyId}
use Rattle.model.specs.declared.primitives.PrimId.{PrimId}
use Rattle.model.specs.declared.run.ErrorCode.{ErrorCode}
use Rattle.model.specs.declared.run.ErrorCode.TheVariants as error
use Rattle.model.specs.declared.run.Ending.{Ending}
use Rattle.model.specs.declared.run.Ending.TheVariants as ending
use Rattle.model.specs.declared.trees.Unary.TheVariants as u
use Rattle.model.specs.declared.trees.Binary.TheVariants as b
use Rattle.model.specs.Deck.Trees.{Bytes, Expr, Name, Integer, Literal, Keyword, Call, Reference, Apply, Combine, Args, Nil, More, Absent, Given, Place, Label, Computed, Goto, Always, OnSuccess, OnFailure, Both, Body, Nothing, Evaluate, Match, Assign, Replace, Stmt, Plain, End}
use Rattle.model.specs.Language.Names.{key_named, prim_named}
use Rattle.model.specs.Deck.Target as target
use Rattle.model.specs.Deck.Target.{Variable}
use Rattle.model.specs.Language.Programs.{Program}
use Rattle.model.specs.Language.Values.{Value, Str, Int, Pat, Nam, Exp, Pattern, pattern_trees, World, Function, Defined, Constructor, Field, keys_of, enter_stmt, count_failure}
use Rattle.model.specs.Language.Conversions.{Conv, Got, Bad, Op, Gives, Refuses, Faults, to_label, answer_of}
use Rattle.model.specs.Language.Operators.{arith_op, sign_op, cat_op, alt_op, cond_op, imm_op, indir_op, fetch_op, assign_op, assign_all, splice_op, told_value, keyget_op, keyset_op, match_op}
use Rattle.model.specs.Language.Aggregates.{element_op}
use Rattle.model.specs.Language.Calls as calls
use Rattle.model.specs.Language.Calls.{return_of, kept_of, enter_call, leave_op, as_value, as_name, construct_op, select_op}
use Rattle.model.specs.Language.Primitives.{Outcome, Returns, Calls, prim_op}
use Rattle.model.specs.Pattern.Patterns as p
use Rattle.model.specs.Pattern.Patterns.{Answer, IsFailed, IsSaid, Running, Failed, Asks, Matched, AskFor, SayThat}
use Rattle.model.specs.Pattern.Search.{Script, scan}

abbrev pub Val : Type 0
Val = Value Pattern Expr

abbrev pub W : Type 0
W = World Pattern Expr

abbrev pub Back : Type 0
Back = calls.Returned Pattern Expr

-- what comes of it: a result, failure, an ending of the run, or nothing yet, each with the world then
pub data Res (A : Type 0) : Type 0 where
  Done : A → W → Res A
  Fails : W → Res A
  Ends : Ending → W → Res A
  Open : W → Res A

-- more than nothing yet
abbrev pub Settled : {A : Type 0} → Res A → Type 0
Settled (Done a w) = Unit {0}
Settled (Fails w) = Unit {0}
Settled (Ends e w) = Unit {0}
Settled (Open w) = ⊥

-- what can be asked for
pub data Query : Type 0 where
  QVal QName : Expr → Query
  QArgs : Args → Query
  QBody : Body → Query
  QExec : ℕ → Query
  QMatch : (subject : Bytes) → Pattern → (left : ℕ) → Script → Query

-- what a match found
pub record Span : Type 0 where
  pub start : ℕ
  pub end : ℕ

-- and what answers it
abbrev pub Ans : Query → Type 0
Ans (QVal e) = Val
Ans (QName e) = target.Name
Ans (QArgs args) = List Val
Ans (QBody b) = record {}
Ans (QExec k) = ReturnKind
Ans (QMatch s p left t) = Span

-- what a search comes to
abbrev pub SearchEvent : Type 0
SearchEvent = p.Event Expr

-- a rule: a result, or something to ask first, with what follows its answer and what follows its failure, or a search, which comes to an event at some depth
pub data Rule (A : Type 0) : Type 0 where
  Ret : A → W → Rule A
  Fail : W → Rule A
  Stop : Ending → W → Rule A
  Ask : (q : Query) → W → (Ans q → W → Rule A) → (W → Rule A) → Rule A
  Seek : (ℕ → Option SearchEvent) → W → (SearchEvent → Rule A) → Rule A

-- the usual form: failure fails
abbrev pub ask : {A : Type 0} → (q : Query) → W → (Ans q → W → Rule A) → Rule A
ask q w k = Ask q w k Fail

abbrev pub error_rule : {A : Type 0} → ErrorCode → W → Rule A
error_rule e w = Stop (ending.Error e (keys_of w).stno) w

-- an operation, and what follows it
abbrev pub doing : {A B : Type 0} → Op W A → (A → W → Rule B) → Rule B
doing (Gives a w) k = k a w
doing (Refuses w) k = Fail w
doing (Faults e w) k = error_rule e w

-- ---- matches

-- an event other than Running
abbrev pub told_at : SearchEvent → Option SearchEvent
told_at Running = None
told_at event = Some event

-- a match once more, with one more answer
abbrev pub again : Bytes → Pattern → ℕ → Script → Answer Pattern → W → Rule Span
again s p left t y w = Ask (QMatch s p left (t ++ y ∷ [])) w Ret Fail

abbrev pub answering : Bytes → Pattern → ℕ → Script → Conv (Answer Pattern) → W → Rule Span
answering s p left t (Got y) w = again s p left t y w
answering s p left t (Bad e) w = error_rule e w

abbrev pub match_rule : Bytes → Pattern → ℕ → Script → W → SearchEvent → Rule Span
match_rule s p left t w Running = Fail w
match_rule s p left t w Failed = Fail w
match_rule s p left t w (Matched b e a) = doing (assign_all a w) (λ _ w1. Ret (record { start = b; end = e }) w1)
match_rule s p left t w (Asks (SayThat x v)) = doing (assign_op x (told_value v) w) (λ _ w1. again s p left t IsSaid w1)
match_rule s p left t w (Asks (AskFor e k)) = Ask (QVal e) w (λ v w1. answering s p left t (answer_of pattern_trees k v) w1) (λ w1. again s p left t IsFailed w1)

-- ---- expressions

abbrev pub two_values : Expr → Expr → W → (Val → Val → W → Op W Val) → Rule Val
two_values x y w op = ask (QVal x) w (λ a w1. ask (QVal y) w1 (λ b w2. doing (op a b w2) Ret))

abbrev pub value_and_name : Expr → Expr → W → (Val → target.Name → W → Op W Val) → Rule Val
value_and_name x y w op = ask (QVal x) w (λ a w1. ask (QName y) w1 (λ n w2. doing (op a n w2) Ret))

-- a keyword that isn't there is no value
abbrev pub key_rule : Option KeyId → W → Rule Val
key_rule None w = error_rule error.WrongType w
key_rule (Some k) w = doing (keyget_op k w) Ret

-- a primitive, or a function of the program's own
abbrev pub function_op : Option PrimId → Bytes → List Val → W → Op W (Outcome Pattern Expr)
function_op None f vs w = Gives (Calls f vs) w
function_op (Some p) f vs w = prim_op pattern_trees p vs w

-- ---- statements

abbrev pub object_rule : Option Expr → W → (Val → W → Rule (record {})) → Rule (record {})
object_rule None w k = k (Str []) w
object_rule (Some e) w k = ask (QVal e) w k

abbrev pub set_key_rule : Option KeyId → Option Expr → W → Rule (record {})
set_key_rule None o w = error_rule error.WrongType w
set_key_rule (Some k) o w = object_rule o w (λ v w1. doing (keyset_op k v w1) Ret)

-- the name of the keyword that is assigned, if one is
abbrev pub key_target : Expr → Option Bytes
key_target (Keyword s) = Some s
key_target _ = None

abbrev pub assign_rule : Option Bytes → Expr → Option Expr → W → Rule (record {})
assign_rule None x o w = ask (QName x) w (λ n w1. object_rule o w1 (λ v w2. doing (assign_op n v w2) Ret))
assign_rule (Some s) x o w = set_key_rule (key_named s) o w

-- where a statement goes on after success, and after failure
abbrev pub onward_of : Goto → Option Place
onward_of (Always x) = Some x
onward_of (OnSuccess x) = Some x
onward_of (Both x y) = Some x
onward_of _ = None

abbrev pub other_of : Goto → Option Place
other_of (Always x) = Some x
other_of (OnFailure y) = Some y
other_of (Both x y) = Some y
other_of _ = None

abbrev pub over_limit : {P E : Type 0} → World P E → Bool
over_limit w = int_le (pos 0) (keys_of w).stlimit && int_le (keys_of w).stlimit (keys_of w).stcount

module _ (prog : Program) where
  -- to a label
  abbrev pub to_known : Option ℕ → W → Rule ReturnKind
  to_known (Some k) w = Ask (QExec k) w Ret Fail
  to_known None w = error_rule error.UndefinedLabel w

  abbrev pub to_return : Bytes → Option ReturnKind → W → Rule ReturnKind
  to_return l (Some k) w = Ret k w
  to_return l None w = to_known (prog.label l) w

  abbrev pub to_text_label : Conv Bytes → W → Rule ReturnKind
  to_text_label (Got l) w = to_return l (return_of l) w
  to_text_label (Bad e) w = error_rule e w

  -- the goto after statement k
  abbrev pub go_on : ℕ → Option Place → W → Rule ReturnKind
  go_on k None w = Ask (QExec (suc k)) w Ret Fail
  go_on k (Some (Label l)) w = to_return l (return_of l) w
  go_on k (Some (Computed e)) w = Ask (QVal e) w (λ v w1. to_text_label (to_label v) w1) (λ w1. error_rule error.FailureInGoto w1)

  abbrev pub exec_rule : ℕ → Option Stmt → W → Rule ReturnKind
  exec_rule k None w = Stop ending.Normal w
  exec_rule k (Some (End e)) w = Stop ending.Normal w
  exec_rule k (Some (Plain l b g)) w =
      if over_limit w then Stop (ending.StLimit k) w
      else Ask (QBody b) (enter_stmt k w) (λ _ w1. go_on k (onward_of g) w1) (λ w1. go_on k (other_of g) (count_failure w1))

  -- a function from its entry label on, where c is kept for its end and k follows it
  abbrev pub entered : {A : Type 0} → calls.Kept Pattern Expr → Option ReturnKind → Option ℕ → W → (Back → W → Rule A) → Rule A
  entered c (Some r) o w k = doing (leave_op r c w) k
  entered c None None w k = error_rule error.UndefinedLabel w
  entered c None (Some n) w k = Ask (QExec n) w (λ r w1. doing (leave_op r c w1) k) Fail

  -- a call of a function that isn't primitive, and what follows it
  abbrev pub call_rule : {A : Type 0} → Bytes → List Val → Option Function → W → (Back → W → Rule A) → Rule A
  call_rule f vs None w k = error_rule error.UndefinedFunction w
  call_rule f vs (Some (Defined entry xs ys)) w k = entered (kept_of f xs ys w) (return_of entry) (prog.label entry) (enter_call f xs ys vs w) k
  call_rule f vs (Some (Constructor fields)) w k = doing (construct_op f fields vs w) k
  call_rule f vs (Some Field) w k = doing (select_op f vs w) k

  -- what a primitive came to, and what follows it
  abbrev pub after_primitive : {A : Type 0} → Outcome Pattern Expr → W → (Back → W → Rule A) → Rule A
  after_primitive (Returns g) w k = k g w
  after_primitive (Calls f vs) w k = call_rule f vs (w.plain.functions f) w k

  abbrev pub function_rule : {A : Type 0} → Bytes → Args → W → (Back → W → Rule A) → Rule A
  function_rule f args w k = ask (QArgs args) w (λ vs w1. doing (function_op (prim_named f) f vs w1) (λ r w2. after_primitive r w2 k))

  abbrev pub rule : (q : Query) → W → Rule (Ans q)
  rule (QVal (Name x)) w = doing (fetch_op (Variable x) w) Ret
  rule (QVal (Integer z)) w = Ret (Int z) w
  rule (QVal (Literal s)) w = Ret (Str s) w
  rule (QVal (Keyword s)) w = key_rule (key_named s) w
  rule (QVal (Call f args)) w = function_rule f args w (λ g w1. doing (as_value g w1) Ret)
  rule (QVal (Reference x args)) w = doing (fetch_op (Variable x) w) (λ a w1. ask (QArgs args) w1 (λ vs w2. doing (element_op a vs w2) (λ n w3. doing (fetch_op n w3) Ret)))
  rule (QVal (Apply u.NameOf e)) w = ask (QName e) w (λ n w1. Ret (Nam n) w1)
  rule (QVal (Apply u.Indirect e)) w = ask (QVal e) w (λ v w1. doing (indir_op v w1) (λ n w2. doing (fetch_op n w2) Ret))
  rule (QVal (Apply u.Unevaluated e)) w = Ret (Exp e) w
  rule (QVal (Apply u.Cursor e)) w = ask (QName e) w (λ n w1. Ret (Pat (pattern_trees.cursor n)) w1)
  rule (QVal (Apply u.Plus e)) w = ask (QVal e) w (λ v w1. doing (sign_op sign.Plus v w1) Ret)
  rule (QVal (Apply u.Minus e)) w = ask (QVal e) w (λ v w1. doing (sign_op sign.Minus v w1) Ret)
  rule (QVal (Apply u.Interrogate e)) w = ask (QVal e) w (λ v w1. Ret (Str []) w1)
  rule (QVal (Apply u.Negate e)) w = Ask (QVal e) w (λ v w1. Fail w1) (λ w1. Ret (Str []) w1)
  rule (QVal (Combine b.Conditional x y)) w = value_and_name x y w (cond_op pattern_trees)
  rule (QVal (Combine b.Immediate x y)) w = value_and_name x y w (imm_op pattern_trees)
  rule (QVal (Combine b.Power x y)) w = two_values x y w (arith_op arith.Power)
  rule (QVal (Combine b.Multiply x y)) w = two_values x y w (arith_op arith.Multiply)
  rule (QVal (Combine b.Divide x y)) w = two_values x y w (arith_op arith.Divide)
  rule (QVal (Combine b.Add x y)) w = two_values x y w (arith_op arith.Add)
  rule (QVal (Combine b.Subtract x y)) w = two_values x y w (arith_op arith.Subtract)
  rule (QVal (Combine b.Concatenate x y)) w = two_values x y w (cat_op pattern_trees)
  rule (QVal (Combine b.Alternate x y)) w = two_values x y w (alt_op pattern_trees)
  rule (QName (Name x)) w = Ret (Variable x) w
  rule (QName (Apply u.Indirect e)) w = ask (QVal e) w (λ v w1. doing (indir_op v w1) Ret)
  rule (QName (Reference x args)) w = doing (fetch_op (Variable x) w) (λ a w1. ask (QArgs args) w1 (λ vs w2. doing (element_op a vs w2) Ret))
  rule (QName (Call f args)) w = function_rule f args w (λ g w1. doing (as_name g w1) Ret)
  rule (QName e) w = error_rule error.NotAName w
  rule (QArgs Nil) w = Ret [] w
  rule (QArgs (More Absent args)) w = ask (QArgs args) w (λ vs w1. Ret (Str [] ∷ vs) w1)
  rule (QArgs (More (Given e) args)) w = ask (QVal e) w (λ v w1. ask (QArgs args) w1 (λ vs w2. Ret (v ∷ vs) w2))
  rule (QBody Nothing) w = Ret (record {}) w
  rule (QBody (Evaluate e)) w = ask (QVal e) w (λ v w1. Ret (record {}) w1)
  rule (QBody (Assign x o)) w = assign_rule (key_target x) x o w
  rule (QBody (Match s p)) w =
      ask (QVal s) w (λ u w1. ask (QVal p) w1 (λ v w2. doing (match_op pattern_trees u v w2) (λ g w3. ask (QMatch g.subject g.pattern g.left []) w3 (λ r w4. Ret (record {}) w4))))
  rule (QBody (Replace x p o)) w =
      ask (QName x) w (λ n w1. doing (fetch_op n w1) (λ u w2. ask (QVal p) w2 (λ v w3. doing (match_op pattern_trees u v w3) (λ g w4.
      ask (QMatch g.subject g.pattern g.left []) w4 (λ r w5. object_rule o w5 (λ a w6. doing (splice_op n g.subject r.start r.end a w6) Ret))))))
  rule (QExec k) w = exec_rule k (prog.at k) w
  rule (QMatch s p left t) w = Seek (λ n. told_at (scan s n p left 0 t)) w (match_rule s p left t w)

-- ---- meaning

-- going on from what came of it
abbrev pub after : {A B : Type 0} → Res A → (A → W → Res B) → (W → Res B) → Res B
after (Done a w) k f = k a w
after (Fails w) k f = f w
after (Ends e w) k f = Ends e w
after (Open w) k f = Open w

abbrev pub sought : {A : Type 0} → Option SearchEvent → W → (SearchEvent → Res A) → Res A
sought None w k = Open w
sought (Some e) w k = k e

-- a rule at the depth n, where what it asks has this meaning
abbrev pub follow : {A : Type 0} → ℕ → ((q : Query) → W → Res (Ans q)) → Rule A → Res A
follow n m (Ret a w) = Done a w
follow n m (Fail w) = Fails w
follow n m (Stop e w) = Ends e w
follow n m (Ask q w k f) = after (m q w) (λ a w1. follow n m (k a w1)) (λ w1. follow n m (f w1))
follow n m (Seek g w k) = sought (g n) w (λ e. follow n m (k e))

-- the meaning of all that can be asked, to the depth n
unfoldable pub meaning : Program → ℕ → (q : Query) → W → Res (Ans q)
meaning prog zero q w = Open w
meaning prog (suc n) q w = follow (suc n) (λ r v. meaning prog n r v) (rule prog q w)

-- a run from the entry statement; a return there is an error
abbrev pub run_rule : Program → W → Rule (record {})
run_rule prog w = Ask (QExec prog.entry) w (λ l w1. error_rule error.ReturnAtLevelZero w1) (λ w1. error_rule error.FailureInGoto w1)

abbrev pub run : Program → ℕ → W → Res (record {})
run prog n w = follow (suc n) (meaning prog n) (run_rule prog w)
