-- Each step of the machine keeps expressions in range.
use Rattle.std.proofs.Common.{◌≡◌, ◌<◌, ◌-◌, ℕ, zero, suc, List, [], ◌∷◌, length, Option, Some, None, Bool, true, false, if◌then◌else◌, refl}
use Rattle.model.specs.declared.instr.Instr.{Instr}
use Rattle.model.specs.declared.instr.Instr.TheVariants as op
use Rattle.model.specs.declared.instr.ReturnKind.{ReturnKind}
use Rattle.model.specs.declared.run.Ending.TheVariants as ending
use Rattle.model.specs.Deck.Trees.{Bytes}
use Rattle.model.specs.Deck.Target.{Name}
use Rattle.model.specs.Language.Values.{Function, Defined, Constructor, Field, enter_stmt}
use Rattle.model.specs.Language.Conversions.{Op, Conv, Got, Bad, to_label, answer_of}
use Rattle.model.specs.Language.Operators.{told_value}
use Rattle.model.specs.Language.Calls.{return_of, kept_of, enter_call}
use Rattle.model.specs.Language.Primitives.{Outcome, Returns, Calls}
use Rattle.model.specs.Pattern.Patterns as p
use Rattle.model.specs.Pattern.Patterns.{Running, Failed, Asks, Matched, AskFor, SayThat, Want}
use Rattle.model.specs.Pattern.Steps as s
use Rattle.model.specs.Language.Meaning.{over_limit}
use Rattle.model.specs.Machine.Steps.{PCode, MVal, MW, MBack, codes_of, Fetched, Nowhere, At, Module, Operand, OV, ON, OR, Matching, Frame, InCall, InEval, Handler, OnBegin, OnTry, Caller, State, Run, InMatch, Over, Stuck, fail_to, after_op, resume_as, return_to, pop, pop_name, pop_span, pop_many, untry, unbegin, load, found_as, supplied, ret, match_from, to_stmt, go_to_known, go_to_return, go_to_text, call_function, finish_primitive, on_event, put, put_name, put_none, calls, primitive, act, step_at, begun, step, steps}
use Rattle.model.specs.Machine.InRange.{CodeIn, ValueIn, ValuesIn, WorldIn, ReturnedIn, OutcomeIn, AnswerIn, SearchIn, OperandIn, OperandsIn, MatchingIn, FramesIn, StateIn, ModuleIn}
use Rattle.model.proofs.Machine.Lists.{drop_in}
use Rattle.model.proofs.Machine.OperationsIn.{Any, IfGot, OpIn, gives, refuses, faults, arith_in, sign_in, cat_in, alt_in, cond_in, imm_in, indir_in, fetch_in, assign_in, assign_all_in, splice_in, keyget_in, keyset_in, answer_in, BegunIn, match_in, told_in}
use Rattle.model.proofs.Machine.PrimitivesIn.{element_op_in, prim_in, kept_in, enter_in, leave_in, as_value_in, as_name_in, construct_in, select_in}
use Rattle.model.proofs.Machine.SearchIn.{search_in, supplied_in, asked_in}

module _ (n : ℕ) where
  -- ---- failure, and going on after an operation

  fail_in : (hs : List Handler) (ops : List Operand) (fs : List Frame) (w : MW) → OperandsIn n ops → FramesIn n fs → WorldIn n w → StateIn n (fail_to hs ops fs w)
  fail_in [] ops [] w o f i = i
  fail_in [] ops (InCall k c ∷ fs) w o f i = i
  fail_in [] ops (InEval g want st ∷ fs) w o f i = (f.0.0, supplied_in n p.IsFailed st tt f.0.1, f.1, i)
  fail_in (OnBegin t ∷ hs) ops fs w o f i = (tt, f, i)
  fail_in (OnTry t d ∷ hs) ops fs w o f i = (drop_in (OperandIn n) (length ops - d) ops o, f, i)

  after_in : {A : Type 0} (R : A → Type 0) {x : Op MW A} (hs : List Handler) (ops : List Operand) (fs : List Frame) (k : A → MW → State) → OpIn n R x → OperandsIn n ops → FramesIn n fs → ((a : A) (w : MW) → R a → WorldIn n w → StateIn n (k a w)) → StateIn n (after_op x hs ops fs k)
  after_in R hs ops fs k (gives g i) o f h = h _ _ g i
  after_in R hs ops fs k (refuses i) o f h = fail_in hs ops fs _ o f i
  after_in R hs ops fs k (faults i) o f h = i

  resume_in : (want : Bool) (c : Caller) (fs : List Frame) (b : MBack) (w : MW) → OperandsIn n c.ops → FramesIn n fs → ReturnedIn n b → WorldIn n w → StateIn n (resume_as want c fs b w)
  resume_in true c fs b w o f r i = after_in Any c.hs c.ops fs _ (as_name_in n b w i) o f (λ x v _ j. ((tt, o), f, j))
  resume_in false c fs b w o f r i = after_in (ValueIn n) c.hs c.ops fs _ (as_value_in n b w r i) o f (λ x v k j. ((k, o), f, j))

  return_in : (r : ReturnKind) (fs : List Frame) (w : MW) → FramesIn n fs → WorldIn n w → StateIn n (return_to r fs w)
  return_in r [] w f i = i
  return_in r (InEval g want st ∷ fs) w f i = i
  return_in r (InCall k c ∷ fs) w f i = after_in (ReturnedIn n) c.hs c.ops fs _ (leave_in n r k w f.0.0 i) f.0.1 f.1 (λ b v h j. resume_in c.want_name c fs b v f.0.1 f.1 h j)

  -- ---- operands

  load_in : {A : Type 0} (o : Option A) (w : MW) (k : A → State) → WorldIn n w → ((a : A) → o ≡ Some a → StateIn n (k a)) → StateIn n (load o w k)
  load_in None w k i h = i
  load_in (Some a) w k i h = h a refl

  pop_in : (ops : List Operand) (w : MW) (k : MVal → List Operand → State) → OperandsIn n ops → WorldIn n w → ((v : MVal) (r : List Operand) → ValueIn n v → OperandsIn n r → StateIn n (k v r)) → StateIn n (pop ops w k)
  pop_in [] w k o i h = i
  pop_in (ON x ∷ ops) w k o i h = i
  pop_in (OR s b e ∷ ops) w k o i h = i
  pop_in (OV v ∷ ops) w k o i h = h v ops o.0 o.1

  pop_name_in : (ops : List Operand) (w : MW) (k : Name → List Operand → State) → OperandsIn n ops → WorldIn n w → ((x : Name) (r : List Operand) → OperandsIn n r → StateIn n (k x r)) → StateIn n (pop_name ops w k)
  pop_name_in [] w k o i h = i
  pop_name_in (OV v ∷ ops) w k o i h = i
  pop_name_in (OR s b e ∷ ops) w k o i h = i
  pop_name_in (ON x ∷ ops) w k o i h = h x ops o.1

  pop_span_in : (ops : List Operand) (w : MW) (k : Bytes → (b e : ℕ) → List Operand → State) → OperandsIn n ops → WorldIn n w → ((s : Bytes) (b e : ℕ) (r : List Operand) → OperandsIn n r → StateIn n (k s b e r)) → StateIn n (pop_span ops w k)
  pop_span_in [] w k o i h = i
  pop_span_in (OV v ∷ ops) w k o i h = i
  pop_span_in (ON x ∷ ops) w k o i h = i
  pop_span_in (OR s b e ∷ ops) w k o i h = h s b e ops o.1

  pop_many_in : (m : ℕ) (ops : List Operand) (vs : List MVal) (w : MW) (k : List MVal → List Operand → State) → OperandsIn n ops → ValuesIn n vs → WorldIn n w
      → ((us : List MVal) (r : List Operand) → ValuesIn n us → OperandsIn n r → StateIn n (k us r)) → StateIn n (pop_many m ops vs w k)
  pop_many_in zero ops vs w k o v i h = h vs ops v o
  pop_many_in (suc m) [] vs w k o v i h = i
  pop_many_in (suc m) (ON x ∷ ops) vs w k o v i h = i
  pop_many_in (suc m) (OR s b e ∷ ops) vs w k o v i h = i
  pop_many_in (suc m) (OV u ∷ ops) vs w k o v i h = pop_many_in m ops (u ∷ vs) w k o.1 (o.0, v) i h

  untry_in : (hs : List Handler) (w : MW) (k : List Handler → State) → WorldIn n w → ((r : List Handler) → StateIn n (k r)) → StateIn n (untry hs w k)
  untry_in (OnTry t d ∷ hs) w k i h = h hs
  untry_in _ w k i h = i

  unbegin_in : (hs : List Handler) (w : MW) (k : List Handler → State) → WorldIn n w → ((r : List Handler) → StateIn n (k r)) → StateIn n (unbegin hs w k)
  unbegin_in (OnBegin t ∷ hs) w k i h = h hs
  unbegin_in _ w k i h = i

  begin_in : (b : Bool) (w : MW) (m q t : ℕ) (ops : List Operand) (hs : List Handler) (fs : List Frame) → OperandsIn n ops → FramesIn n fs → WorldIn n w → StateIn n (if b then Over (ending.StLimit m) w else Run q ops (OnBegin t ∷ hs) fs (enter_stmt m w))
  begin_in true w m q t ops hs fs o f i = i
  begin_in false w m q t ops hs fs o f i = (o, f, i)

  -- ---- matches and evaluations

  match_from_in : (keep : Bool) (u v : MVal) (q : ℕ) (ops : List Operand) (hs : List Handler) (fs : List Frame) (w : MW) → ValueIn n v → OperandsIn n ops → FramesIn n fs → WorldIn n w → StateIn n (match_from keep u v q ops hs fs w)
  match_from_in keep u v q ops hs fs w h o f i = after_in (BegunIn n) hs ops fs _ (match_in n u v w h i) o f (λ g x k j. ((k, o), tt, f, j))

  found_in : (keep : Bool) (t : Bytes) (b e : ℕ) (ops : List Operand) → OperandsIn n ops → OperandsIn n (found_as keep t b e ops)
  found_in true t b e ops o = (tt, o)
  found_in false t b e ops o = o

  supply_in : (c : Conv (p.Answer PCode)) (g : Matching) (st : s.MatchState) (fs : List Frame) (w : MW) → IfGot (AnswerIn n) c → MatchingIn n g → SearchIn n st → FramesIn n fs → WorldIn n w → StateIn n (supplied c g st fs w)
  supply_in (Got y) g st fs w a m k f i = (m, supplied_in n y st a k, f, i)
  supply_in (Bad e) g st fs w a m k f i = i

  ret_in : (v : MVal) (fs : List Frame) (w : MW) → ValueIn n v → FramesIn n fs → WorldIn n w → StateIn n (ret v fs w)
  ret_in v [] w h f i = i
  ret_in v (InCall k c ∷ fs) w h f i = i
  ret_in v (InEval g want st ∷ fs) w h f i = supply_in (answer_of codes_of want v) g st fs w (answer_in n want v h) f.0.0 f.0.1 f.1 i

  module _ (im : Module) where
    stmt_in : (o : Option ℕ) (fs : List Frame) (w : MW) → FramesIn n fs → WorldIn n w → StateIn n (to_stmt im o fs w)
    stmt_in None fs w f i = i
    stmt_in (Some at) fs w f i = (tt, f, i)

    pub begun_in : (w : MW) → WorldIn n w → StateIn n (begun im w)
    begun_in w i = stmt_in (im.stmt im.entry) [] w tt i

    known_in : (o : Option ℕ) (fs : List Frame) (w : MW) → FramesIn n fs → WorldIn n w → StateIn n (go_to_known im o fs w)
    known_in None fs w f i = i
    known_in (Some k) fs w f i = stmt_in (im.stmt k) fs w f i

    label_in : (l : Bytes) (o : Option ReturnKind) (fs : List Frame) (w : MW) → FramesIn n fs → WorldIn n w → StateIn n (go_to_return im l o fs w)
    label_in l (Some r) fs w f i = return_in r fs w f i
    label_in l None fs w f i = known_in (im.label l) fs w f i

    text_label_in : (c : Conv Bytes) (fs : List Frame) (w : MW) → FramesIn n fs → WorldIn n w → StateIn n (go_to_text im c fs w)
    text_label_in (Got l) fs w f i = label_in l (return_of l) fs w f i
    text_label_in (Bad e) fs w f i = i

    -- ---- calls

    call_in : (g : Bytes) (vs : List MVal) (o : Option Function) (c : Caller) (fs : List Frame) (w : MW) → ValuesIn n vs → OperandsIn n c.ops → FramesIn n fs → WorldIn n w → StateIn n (call_function im g vs o c fs w)
    call_in g vs None c fs w h o f i = i
    call_in g vs (Some (Defined entry xs ys)) c fs w h o f i = label_in entry (return_of entry) (InCall (kept_of g xs ys w) c ∷ fs) (enter_call g xs ys vs w) ((kept_in n g xs ys w i, o), f) (enter_in n g xs ys vs w h i)
    call_in g vs (Some (Constructor fields)) c fs w h o f i = after_in (ReturnedIn n) c.hs c.ops fs _ (construct_in n g fields vs w h i) o f (λ b v r j. resume_in c.want_name c fs b v o f r j)
    call_in g vs (Some Field) c fs w h o f i = after_in (ReturnedIn n) c.hs c.ops fs _ (select_in n g vs w i) o f (λ b v r j. resume_in c.want_name c fs b v o f r j)

    finish_in : (r : Outcome PCode ℕ) (c : Caller) (fs : List Frame) (w : MW) → OutcomeIn n r → OperandsIn n c.ops → FramesIn n fs → WorldIn n w → StateIn n (finish_primitive im r c fs w)
    finish_in (Returns b) c fs w h o f i = resume_in c.want_name c fs b w o f h i
    finish_in (Calls g vs) c fs w h o f i = call_in g vs (w.plain.functions g) c fs w h o f i

    -- ---- events of a match

    on_event_in : (e : p.Event ℕ) (g : Matching) (st : s.MatchState) (fs : List Frame) (w : MW) → MatchingIn n g → SearchIn n st → FramesIn n fs → WorldIn n w → StateIn n (on_event im e g st fs w)
    on_event_in Running g st fs w m k f i = (m, k, f, i)
    on_event_in Failed g st fs w m k f i = fail_in g.hs g.ops fs w m.1 f i
    on_event_in (Matched b e a) g st fs w m k f i = after_in Any g.hs g.ops fs _ (assign_all_in n a w i) m.1 f (λ _ v _ j. (found_in g.keep g.subject b e g.ops m.1, f, j))
    on_event_in (Asks (SayThat x v)) g st fs w m k f i = after_in Any g.hs g.ops fs _ (assign_in n x (told_value v) w (told_in n v) i) m.1 f (λ _ u _ j. (m, supplied_in n p.IsSaid st tt k, f, j))
    on_event_in (Asks (AskFor e want)) g st fs w m k f i = stmt_in (im.expr e) (InEval g want st ∷ fs) w ((m, k), f) i

    -- ---- instructions

    put_in : {x : Op MW MVal} (q : ℕ) (ops : List Operand) (hs : List Handler) (fs : List Frame) → OpIn n (ValueIn n) x → OperandsIn n ops → FramesIn n fs → StateIn n (put im x q ops hs fs)
    put_in q ops hs fs h o f = after_in (ValueIn n) hs ops fs _ h o f (λ v w k i. ((k, o), f, i))

    put_name_in : {x : Op MW Name} (q : ℕ) (ops : List Operand) (hs : List Handler) (fs : List Frame) → OpIn n Any x → OperandsIn n ops → FramesIn n fs → StateIn n (put_name im x q ops hs fs)
    put_name_in q ops hs fs h o f = after_in Any hs ops fs _ h o f (λ v w _ i. ((tt, o), f, i))

    put_none_in : {x : Op MW (record {})} (q : ℕ) (ops : List Operand) (hs : List Handler) (fs : List Frame) → OpIn n Any x → OperandsIn n ops → FramesIn n fs → StateIn n (put_none im x q ops hs fs)
    put_none_in q ops hs fs h o f = after_in Any hs ops fs _ h o f (λ v w _ i. (o, f, i))

    calls_in : (want : Bool) (g : Bytes) (m q : ℕ) (ops : List Operand) (hs : List Handler) (fs : List Frame) (w : MW) → OperandsIn n ops → FramesIn n fs → WorldIn n w → StateIn n (calls im want g m q ops hs fs w)
    calls_in want g m q ops hs fs w o f i = pop_many_in m ops [] w _ o tt i (λ vs r h s. call_in g vs (w.plain.functions g) _ fs w h s f i)

    primitive_in : (want : Bool) {x : Op MW (Outcome PCode ℕ)} (q : ℕ) (ops : List Operand) (hs : List Handler) (fs : List Frame) → OpIn n (OutcomeIn n) x → OperandsIn n ops → FramesIn n fs → StateIn n (primitive im want x q ops hs fs)
    primitive_in want q ops hs fs h o f = after_in (OutcomeIn n) hs ops fs _ h o f (λ r w k i. finish_in r _ fs w k o f i)

    -- what an instruction takes from the module is in range
    abbrev pub InstructionIn : Instr → Type 0
    InstructionIn (op.Expr k) = k < n
    InstructionIn (op.Pat k) = (c : PCode) → im.pattern k ≡ Some c → CodeIn n c
    InstructionIn _ = Unit {0}

    pub act_in : (x : Instr) (q pc : ℕ) (ops : List Operand) (hs : List Handler) (fs : List Frame) (w : MW) → InstructionIn x → OperandsIn n ops → FramesIn n fs → WorldIn n w → StateIn n (act im x q pc ops hs fs w)
    act_in op.End q pc ops hs fs w h o f i = i
    act_in (op.Begin t) q pc ops hs fs w h o f i = begin_in (over_limit w) w (im.number pc) q t ops hs fs o f i
    act_in op.Body q pc ops hs fs w h o f i = unbegin_in hs w _ i (λ r. (o, f, i))
    act_in (op.Goto k) q pc ops hs fs w h o f i = stmt_in (im.stmt k) fs w f i
    act_in (op.Return r) q pc ops hs fs w h o f i = return_in r fs w f i
    act_in op.GotoV q pc ops hs fs w h o f i = pop_in ops w _ o i (λ v r a s. text_label_in (to_label v) fs w f i)
    act_in op.NoLabel q pc ops hs fs w h o f i = i
    act_in (op.Str k) q pc ops hs fs w h o f i = load_in (im.string k) w _ i (λ t e. ((tt, o), f, i))
    act_in (op.Int z) q pc ops hs fs w h o f i = ((tt, o), f, i)
    act_in op.Null q pc ops hs fs w h o f i = ((tt, o), f, i)
    act_in (op.Var k) q pc ops hs fs w h o f i = load_in (im.string k) w _ i (λ t e. ((tt, o), f, i))
    act_in op.Fetch q pc ops hs fs w h o f i = pop_name_in ops w _ o i (λ x r s. put_in q r hs fs (fetch_in n x w i) s f)
    act_in (op.KeyGet k) q pc ops hs fs w h o f i = put_in q ops hs fs (keyget_in n k w i) o f
    act_in (op.KeySet k) q pc ops hs fs w h o f i = pop_in ops w _ o i (λ v r a s. put_none_in q r hs fs (keyset_in n k v w i) s f)
    act_in op.Indir q pc ops hs fs w h o f i = pop_in ops w _ o i (λ v r a s. put_name_in q r hs fs (indir_in n v w i) s f)
    act_in (op.Elem m) q pc ops hs fs w h o f i = pop_many_in m ops [] w _ o tt i (λ vs r b s. pop_in r w _ s i (λ v r a s. put_name_in q r hs fs (element_op_in n v vs w i) s f))
    act_in op.Assign q pc ops hs fs w h o f i = pop_in ops w _ o i (λ v r a s. pop_name_in r w _ s i (λ x r s. put_none_in q r hs fs (assign_in n x v w a i) s f))
    act_in op.NameV q pc ops hs fs w h o f i = pop_name_in ops w _ o i (λ x r s. ((tt, s), f, i))
    act_in (op.Expr k) q pc ops hs fs w h o f i = ((h, o), f, i)
    act_in (op.CallV k m) q pc ops hs fs w h o f i = load_in (im.string k) w _ i (λ g e. calls_in false g m q ops hs fs w o f i)
    act_in (op.CallN k m) q pc ops hs fs w h o f i = load_in (im.string k) w _ i (λ g e. calls_in true g m q ops hs fs w o f i)
    act_in (op.PrimV g m) q pc ops hs fs w h o f i = pop_many_in m ops [] w _ o tt i (λ vs r b s. primitive_in false q r hs fs (prim_in n g vs w b i) s f)
    act_in (op.PrimN g m) q pc ops hs fs w h o f i = pop_many_in m ops [] w _ o tt i (λ vs r b s. primitive_in true q r hs fs (prim_in n g vs w b i) s f)
    act_in op.Drop q pc ops hs fs w h o f i = pop_in ops w _ o i (λ v r a s. (s, f, i))
    act_in (op.Try t) q pc ops hs fs w h o f i = (o, f, i)
    act_in op.Untry q pc ops hs fs w h o f i = untry_in hs w _ i (λ r. (o, f, i))
    act_in op.Fail q pc ops hs fs w h o f i = fail_in hs ops fs w o f i
    act_in (op.Sign x) q pc ops hs fs w h o f i = pop_in ops w _ o i (λ v r a s. put_in q r hs fs (sign_in n x v w i) s f)
    act_in (op.Arith x) q pc ops hs fs w h o f i = pop_in ops w _ o i (λ v r a s. pop_in r w _ s i (λ u r b s. put_in q r hs fs (arith_in n x u v w i) s f))
    act_in op.Cat q pc ops hs fs w h o f i = pop_in ops w _ o i (λ v r a s. pop_in r w _ s i (λ u r b s. put_in q r hs fs (cat_in n u v w b a i) s f))
    act_in op.Alt q pc ops hs fs w h o f i = pop_in ops w _ o i (λ v r a s. pop_in r w _ s i (λ u r b s. put_in q r hs fs (alt_in n u v w b a i) s f))
    act_in op.Cond q pc ops hs fs w h o f i = pop_name_in ops w _ o i (λ x r s. pop_in r w _ s i (λ v r a s. put_in q r hs fs (cond_in n v x w a i) s f))
    act_in op.Imm q pc ops hs fs w h o f i = pop_name_in ops w _ o i (λ x r s. pop_in r w _ s i (λ v r a s. put_in q r hs fs (imm_in n v x w a i) s f))
    act_in op.Cursor q pc ops hs fs w h o f i = pop_name_in ops w _ o i (λ x r s. (((tt, tt), s), f, i))
    act_in (op.Pat k) q pc ops hs fs w h o f i = load_in (im.pattern k) w _ i (λ c e. ((h c e, o), f, i))
    act_in op.FetchK q pc ops hs fs w h o f i = pop_name_in ops w _ o i (λ x r s. put_in q ops hs fs (fetch_in n x w i) o f)
    act_in op.Match q pc ops hs fs w h o f i = pop_in ops w _ o i (λ v r a s. pop_in r w _ s i (λ u r b s. match_from_in false u v q r hs fs w a s f i))
    act_in op.MatchR q pc ops hs fs w h o f i = pop_in ops w _ o i (λ v r a s. pop_in r w _ s i (λ u r b s. match_from_in true u v q r hs fs w a s f i))
    act_in op.Splice q pc ops hs fs w h o f i = pop_in ops w _ o i (λ v r a s. pop_span_in r w _ s i (λ t b e r s. pop_name_in r w _ s i (λ x r s. put_none_in q r hs fs (splice_in n x t b e v w i) s f)))
    act_in op.Ret q pc ops hs fs w h o f i = pop_in ops w _ o i (λ v r a s. ret_in v fs w a f i)

    -- ---- steps

    module _ (mi : ModuleIn n im) where
      instruction_in : (x : Instr) (at next : ℕ) → im.fetch at ≡ At x next → InstructionIn x
      instruction_in (op.Expr k) at next e = mi.expressions at next k e
      instruction_in (op.Pat k) at next e = mi.patterns k
      instruction_in _ at next e = tt

      fetched_in : (x : Fetched) (pc : ℕ) (ops : List Operand) (hs : List Handler) (fs : List Frame) (w : MW) → im.fetch pc ≡ x → OperandsIn n ops → FramesIn n fs → WorldIn n w → StateIn n (step_at im x pc ops hs fs w)
      fetched_in Nowhere pc ops hs fs w e o f i = i
      fetched_in (At x next) pc ops hs fs w e o f i = act_in x next pc ops hs fs w (instruction_in x pc next e) o f i

      pub step_in : (st : State) → StateIn n st → StateIn n (step im st)
      step_in (Run pc ops hs fs w) h = fetched_in (im.fetch pc) pc ops hs fs w refl h.0 h.1 h.2
      step_in (InMatch g st fs w) h = let k = search_in n g.subject g.code st h.0.0 h.1 in on_event_in (s.event_of (s.pattern_step g.subject g.code st)) g (s.pattern_step g.subject g.code st) fs w h.0 k h.2 h.3
      step_in (Over e w) h = h
      step_in (Stuck w) h = h

      pub steps_in : (m : ℕ) (st : State) → StateIn n st → StateIn n (steps im m st)
      steps_in zero st h = h
      steps_in (suc m) st h = steps_in m (step im st) (step_in st h)

  pub asks_in : (g : Matching) (st : s.MatchState) (fs : List Frame) (w : MW) → StateIn n (InMatch g st fs w) → (k : ℕ) (want : Want) → s.event_of (s.pattern_step g.subject g.code st) ≡ Asks (AskFor k want) → k < n
  asks_in g st fs w h k want e = asked_in n (s.pattern_step g.subject g.code st) (search_in n g.subject g.code st h.0.0 h.1) k want e
