-- Each step of the machine keeps states alike that are the same but for objects without marks.
use Rattle.std.proofs.Common.{◌≡◌, ◌-◌, refl, sym, subst, ℕ, zero, suc, List, [], ◌∷◌, length, Option, Some, None, Bool, true, false}
use Rattle.model.specs.declared.instr.Instr.{Instr}
use Rattle.model.specs.declared.instr.Instr.TheVariants as op
use Rattle.model.specs.declared.instr.ReturnKind.{ReturnKind}
use Rattle.model.specs.Deck.Trees.{Bytes}
use Rattle.model.specs.Deck.Target.{Name}
use Rattle.model.specs.Language.Values.{set_objects, Function, Defined, Constructor, Field}
use Rattle.model.specs.Language.Conversions.{Op, Conv, Got, Bad, to_label, answer_of}
use Rattle.model.specs.Language.Operators.{told_value}
use Rattle.model.specs.Language.Calls.{return_of, kept_of, enter_call}
use Rattle.model.specs.Language.Primitives.{Outcome, Returns, Calls}
use Rattle.model.specs.Pattern.Patterns as p
use Rattle.model.specs.Pattern.Patterns.{Event, Running, Failed, Asks, Matched, AskFor, SayThat}
use Rattle.model.specs.Pattern.Steps as s
use Rattle.model.specs.Pattern.Steps.{Starting, Going, Returning, Waits, ForPattern, ForArgument, ForSaid, Won, Lost}
use Rattle.model.specs.Language.Meaning.{over_limit}
use Rattle.model.specs.Laws.Agreement.{seen_at}
use Rattle.model.specs.Machine.Steps.{PCode, MVal, MW, MBack, codes_of, Fetched, Nowhere, At, Module, Operand, OV, ON, OR, Matching, Frame, InCall, InEval, Handler, OnBegin, OnTry, Caller, State, Run, InMatch, fail_to, after_op, resume_as, return_to, pop, pop_name, pop_span, pop_many, untry, unbegin, load, found_as, supplied, ret, match_from, to_stmt, go_to_known, go_to_return, go_to_text, call_function, finish_primitive, on_event, put, put_name, put_none, calls, primitive, act, step_at, begun, step, steps}
use Rattle.model.specs.Machine.Living.{NameLives, ValueLives, ValuesLive, WorldLives, ReturnedLives, OutcomeLives, PendingLives, AnswerLives, SearchLives, OperandLives, OperandsLive, MatchingLives, FramesLive, AlikeBy, runs, matches, ended, stuck, ModuleLives}
use Rattle.model.proofs.Machine.Lists.{drop_in}
use Rattle.model.proofs.Machine.OperationsIn.{Any, IfGot}
use Rattle.model.proofs.Machine.OperationsLiving.{Heap, choice_alike, OpAlike, gives, refuses, faults, arith_alike, sign_alike, cat_alike, alt_alike, cond_alike, imm_alike, indir_alike, fetch_alike, assign_alike, assign_all_alike, splice_alike, keyget_alike, keyset_alike, answer_lives, BegunLives, match_alike, told_lives}
use Rattle.model.proofs.Machine.PrimitivesLiving.{element_alike, prim_alike, kept_lives, enter_lives, leave_alike, as_value_alike, as_name_alike, construct_alike, select_alike}
use Rattle.model.proofs.Machine.SearchLiving.{search_lives, supplied_lives}

module _ (n : ℕ → Bool) where
  -- ---- failure, and going on after an operation

  fail_alike : (hs : List Handler) (ops : List Operand) (fs : List Frame) (w : MW) (os : Heap) → OperandsLive n ops → FramesLive n fs → WorldLives n w os → AlikeBy n (fail_to hs ops fs w) (fail_to hs ops fs (set_objects os w))
  fail_alike [] ops [] w os o f i = ended i
  fail_alike [] ops (InCall k c ∷ fs) w os o f i = ended i
  fail_alike [] ops (InEval g want st ∷ fs) w os o f i = matches f.0.0 (supplied_lives n p.IsFailed st tt f.0.1) f.1 i
  fail_alike (OnBegin t ∷ hs) ops fs w os o f i = runs tt f i
  fail_alike (OnTry t d ∷ hs) ops fs w os o f i = runs (drop_in (OperandLives n) (length ops - d) ops o) f i

  after_alike : {A : Type 0} (R : A → Type 0) {x x' : Op MW A} (hs : List Handler) (ops : List Operand) (fs : List Frame) (k : A → MW → State) → OpAlike n R x x' → OperandsLive n ops → FramesLive n fs
      → ((a : A) (w : MW) (os : Heap) → R a → WorldLives n w os → AlikeBy n (k a w) (k a (set_objects os w))) → AlikeBy n (after_op x hs ops fs k) (after_op x' hs ops fs k)
  after_alike R hs ops fs k (gives g i) o f h = h _ _ _ g i
  after_alike R hs ops fs k (refuses i) o f h = fail_alike hs ops fs _ _ o f i
  after_alike R hs ops fs k (faults i) o f h = ended i

  resume_alike : (want : Bool) (c : Caller) (fs : List Frame) (b : MBack) (w : MW) (os : Heap) → OperandsLive n c.ops → FramesLive n fs → ReturnedLives n b → WorldLives n w os → AlikeBy n (resume_as want c fs b w) (resume_as want c fs b (set_objects os w))
  resume_alike true c fs b w os o f r i = after_alike (NameLives n) c.hs c.ops fs _ (as_name_alike n b w os r i) o f (λ x v xs k j. runs (k, o) f j)
  resume_alike false c fs b w os o f r i = after_alike (ValueLives n) c.hs c.ops fs _ (as_value_alike n b w os r i) o f (λ x v xs k j. runs (k, o) f j)

  return_alike : (r : ReturnKind) (fs : List Frame) (w : MW) (os : Heap) → FramesLive n fs → WorldLives n w os → AlikeBy n (return_to r fs w) (return_to r fs (set_objects os w))
  return_alike r [] w os f i = ended i
  return_alike r (InEval g want st ∷ fs) w os f i = stuck i
  return_alike r (InCall k c ∷ fs) w os f i = after_alike (ReturnedLives n) c.hs c.ops fs _ (leave_alike n r k w os f.0.0 i) f.0.1 f.1 (λ b v xs h j. resume_alike c.want_name c fs b v xs f.0.1 f.1 h j)

  -- ---- operands

  load_alike : {A : Type 0} (o : Option A) (w : MW) (os : Heap) (k k' : A → State) → WorldLives n w os → ((a : A) → o ≡ Some a → AlikeBy n (k a) (k' a)) → AlikeBy n (load o w k) (load o (set_objects os w) k')
  load_alike None w os k k' i h = stuck i
  load_alike (Some a) w os k k' i h = h a refl

  pop_alike : (ops : List Operand) (w : MW) (os : Heap) (k k' : MVal → List Operand → State) → OperandsLive n ops → WorldLives n w os → ((v : MVal) (r : List Operand) → ValueLives n v → OperandsLive n r → AlikeBy n (k v r) (k' v r)) → AlikeBy n (pop ops w k) (pop ops (set_objects os w) k')
  pop_alike [] w os k k' o i h = stuck i
  pop_alike (ON x ∷ ops) w os k k' o i h = stuck i
  pop_alike (OR s b e ∷ ops) w os k k' o i h = stuck i
  pop_alike (OV v ∷ ops) w os k k' o i h = h v ops o.0 o.1

  pop_name_alike : (ops : List Operand) (w : MW) (os : Heap) (k k' : Name → List Operand → State) → OperandsLive n ops → WorldLives n w os → ((x : Name) (r : List Operand) → NameLives n x → OperandsLive n r → AlikeBy n (k x r) (k' x r)) → AlikeBy n (pop_name ops w k) (pop_name ops (set_objects os w) k')
  pop_name_alike [] w os k k' o i h = stuck i
  pop_name_alike (OV v ∷ ops) w os k k' o i h = stuck i
  pop_name_alike (OR s b e ∷ ops) w os k k' o i h = stuck i
  pop_name_alike (ON x ∷ ops) w os k k' o i h = h x ops o.0 o.1

  pop_span_alike : (ops : List Operand) (w : MW) (os : Heap) (k k' : Bytes → (b e : ℕ) → List Operand → State) → OperandsLive n ops → WorldLives n w os → ((s : Bytes) (b e : ℕ) (r : List Operand) → OperandsLive n r → AlikeBy n (k s b e r) (k' s b e r)) → AlikeBy n (pop_span ops w k) (pop_span ops (set_objects os w) k')
  pop_span_alike [] w os k k' o i h = stuck i
  pop_span_alike (OV v ∷ ops) w os k k' o i h = stuck i
  pop_span_alike (ON x ∷ ops) w os k k' o i h = stuck i
  pop_span_alike (OR s b e ∷ ops) w os k k' o i h = h s b e ops o.1

  pop_many_alike : (m : ℕ) (ops : List Operand) (vs : List MVal) (w : MW) (os : Heap) (k k' : List MVal → List Operand → State) → OperandsLive n ops → ValuesLive n vs → WorldLives n w os
      → ((us : List MVal) (r : List Operand) → ValuesLive n us → OperandsLive n r → AlikeBy n (k us r) (k' us r)) → AlikeBy n (pop_many m ops vs w k) (pop_many m ops vs (set_objects os w) k')
  pop_many_alike zero ops vs w os k k' o v i h = h vs ops v o
  pop_many_alike (suc m) [] vs w os k k' o v i h = stuck i
  pop_many_alike (suc m) (ON x ∷ ops) vs w os k k' o v i h = stuck i
  pop_many_alike (suc m) (OR s b e ∷ ops) vs w os k k' o v i h = stuck i
  pop_many_alike (suc m) (OV u ∷ ops) vs w os k k' o v i h = pop_many_alike m ops (u ∷ vs) w os k k' o.1 (o.0, v) i h

  untry_alike : (hs : List Handler) (w : MW) (os : Heap) (k k' : List Handler → State) → WorldLives n w os → ((r : List Handler) → AlikeBy n (k r) (k' r)) → AlikeBy n (untry hs w k) (untry hs (set_objects os w) k')
  untry_alike [] w os k k' i h = stuck i
  untry_alike (OnTry t d ∷ hs) w os k k' i h = h hs
  untry_alike (OnBegin t ∷ hs) w os k k' i h = stuck i

  unbegin_alike : (hs : List Handler) (w : MW) (os : Heap) (k k' : List Handler → State) → WorldLives n w os → ((r : List Handler) → AlikeBy n (k r) (k' r)) → AlikeBy n (unbegin hs w k) (unbegin hs (set_objects os w) k')
  unbegin_alike [] w os k k' i h = stuck i
  unbegin_alike (OnBegin t ∷ hs) w os k k' i h = h hs
  unbegin_alike (OnTry t d ∷ hs) w os k k' i h = stuck i

  -- ---- matches and evaluations

  match_from_alike : (keep : Bool) (u v : MVal) (q : ℕ) (ops : List Operand) (hs : List Handler) (fs : List Frame) (w : MW) (os : Heap) → ValueLives n v → OperandsLive n ops → FramesLive n fs → WorldLives n w os → AlikeBy n (match_from keep u v q ops hs fs w) (match_from keep u v q ops hs fs (set_objects os w))
  match_from_alike keep u v q ops hs fs w os h o f i = after_alike (BegunLives n) hs ops fs _ (match_alike n u v w os h i) o f (λ g x xs k j. matches (k, o) tt f j)

  found_lives : (keep : Bool) (t : Bytes) (b e : ℕ) (ops : List Operand) → OperandsLive n ops → OperandsLive n (found_as keep t b e ops)
  found_lives true t b e ops o = (tt, o)
  found_lives false t b e ops o = o

  supply_alike : (c : Conv (p.Answer PCode)) (g : Matching) (st : s.MatchState) (fs : List Frame) (w : MW) (os : Heap) → IfGot (AnswerLives n) c → MatchingLives n g → SearchLives n st → FramesLive n fs → WorldLives n w os → AlikeBy n (supplied c g st fs w) (supplied c g st fs (set_objects os w))
  supply_alike (Got y) g st fs w os a m k f i = matches m (supplied_lives n y st a k) f i
  supply_alike (Bad e) g st fs w os a m k f i = ended i

  ret_alike : (v : MVal) (fs : List Frame) (w : MW) (os : Heap) → ValueLives n v → FramesLive n fs → WorldLives n w os → AlikeBy n (ret v fs w) (ret v fs (set_objects os w))
  ret_alike v [] w os h f i = stuck i
  ret_alike v (InCall k c ∷ fs) w os h f i = stuck i
  ret_alike v (InEval g want st ∷ fs) w os h f i = supply_alike (answer_of codes_of want v) g st fs w os (answer_lives n want v h) f.0.0 f.0.1 f.1 i

  -- what a match assigns holds marked numbers
  abbrev EventLives : Event ℕ → Type 0
  EventLives (Matched b e a) = PendingLives n a
  EventLives (Asks (SayThat x v)) = NameLives n x
  EventLives _ = Unit {0}

  event_lives : (st : s.MatchState) → SearchLives n st → EventLives (s.event_of st)
  event_lives (Starting b left u) k = tt
  event_lives (Going t cs b left u) k = tt
  event_lives (Returning ch cs b left u) k = tt
  event_lives (Waits (ForPattern x) t cs b left []) k = tt
  event_lives (Waits (ForArgument kind x) t cs b left []) k = tt
  event_lives (Waits (ForSaid x v) t cs b left []) k = k.0
  event_lives (Waits w t cs b left (y ∷ u)) k = tt
  event_lives (s.Over Lost) k = tt
  event_lives (s.Over (Won b e a)) k = k

  module _ (im : Module) where
    stmt_alike : (o : Option ℕ) (fs : List Frame) (w : MW) (os : Heap) → FramesLive n fs → WorldLives n w os → AlikeBy n (to_stmt im o fs w) (to_stmt im o fs (set_objects os w))
    stmt_alike None fs w os f i = stuck i
    stmt_alike (Some at) fs w os f i = runs tt f i

    pub begun_alike : (w : MW) (os : Heap) → WorldLives n w os → AlikeBy n (begun im w) (begun im (set_objects os w))
    begun_alike w os i = stmt_alike (im.stmt im.entry) [] w os tt i

    known_alike : (o : Option ℕ) (fs : List Frame) (w : MW) (os : Heap) → FramesLive n fs → WorldLives n w os → AlikeBy n (go_to_known im o fs w) (go_to_known im o fs (set_objects os w))
    known_alike None fs w os f i = ended i
    known_alike (Some k) fs w os f i = stmt_alike (im.stmt k) fs w os f i

    label_alike : (l : Bytes) (o : Option ReturnKind) (fs : List Frame) (w : MW) (os : Heap) → FramesLive n fs → WorldLives n w os → AlikeBy n (go_to_return im l o fs w) (go_to_return im l o fs (set_objects os w))
    label_alike l (Some r) fs w os f i = return_alike r fs w os f i
    label_alike l None fs w os f i = known_alike (im.label l) fs w os f i

    text_label_alike : (c : Conv Bytes) (fs : List Frame) (w : MW) (os : Heap) → FramesLive n fs → WorldLives n w os → AlikeBy n (go_to_text im c fs w) (go_to_text im c fs (set_objects os w))
    text_label_alike (Got l) fs w os f i = label_alike l (return_of l) fs w os f i
    text_label_alike (Bad e) fs w os f i = ended i

    -- ---- calls

    call_alike : (g : Bytes) (vs : List MVal) (o : Option Function) (c : Caller) (fs : List Frame) (w : MW) (os : Heap) → ValuesLive n vs → OperandsLive n c.ops → FramesLive n fs → WorldLives n w os → AlikeBy n (call_function im g vs o c fs w) (call_function im g vs o c fs (set_objects os w))
    call_alike g vs None c fs w os h o f i = ended i
    call_alike g vs (Some (Defined entry xs ys)) c fs w os h o f i =
        subst (λ k. AlikeBy n (call_function im g vs (Some (Defined entry xs ys)) c fs w) (go_to_return im entry (return_of entry) (InCall k c ∷ fs) (enter_call g xs ys vs (set_objects os w)))) (sym (kept_lives n g xs ys w os i).1)
        (subst (λ v. AlikeBy n (call_function im g vs (Some (Defined entry xs ys)) c fs w) (go_to_return im entry (return_of entry) (InCall (kept_of g xs ys w) c ∷ fs) v)) (sym (enter_lives n g xs ys vs w os h i).1)
        (label_alike entry (return_of entry) (InCall (kept_of g xs ys w) c ∷ fs) (enter_call g xs ys vs w) os (((kept_lives n g xs ys w os i).0, o), f) (enter_lives n g xs ys vs w os h i).0))
    call_alike g vs (Some (Constructor fields)) c fs w os h o f i = after_alike (ReturnedLives n) c.hs c.ops fs _ (construct_alike n g fields vs w os h i) o f (λ b v xs r j. resume_alike c.want_name c fs b v xs o f r j)
    call_alike g vs (Some Field) c fs w os h o f i = after_alike (ReturnedLives n) c.hs c.ops fs _ (select_alike n g vs w os h i) o f (λ b v xs r j. resume_alike c.want_name c fs b v xs o f r j)

    finish_alike : (r : Outcome PCode ℕ) (c : Caller) (fs : List Frame) (w : MW) (os : Heap) → OutcomeLives n r → OperandsLive n c.ops → FramesLive n fs → WorldLives n w os → AlikeBy n (finish_primitive im r c fs w) (finish_primitive im r c fs (set_objects os w))
    finish_alike (Returns b) c fs w os h o f i = resume_alike c.want_name c fs b w os o f h i
    finish_alike (Calls g vs) c fs w os h o f i = call_alike g vs (w.plain.functions g) c fs w os h o f i

    -- ---- events of a match

    on_event_alike : (e : Event ℕ) (g : Matching) (st : s.MatchState) (fs : List Frame) (w : MW) (os : Heap) → EventLives e → MatchingLives n g → SearchLives n st → FramesLive n fs → WorldLives n w os → AlikeBy n (on_event im e g st fs w) (on_event im e g st fs (set_objects os w))
    on_event_alike Running g st fs w os v m k f i = matches m k f i
    on_event_alike Failed g st fs w os v m k f i = fail_alike g.hs g.ops fs w os m.1 f i
    on_event_alike (Matched b e a) g st fs w os v m k f i = after_alike Any g.hs g.ops fs _ (assign_all_alike n a w os v i) m.1 f (λ _ u xs _ j. runs (found_lives g.keep g.subject b e g.ops m.1) f j)
    on_event_alike (Asks (SayThat x y)) g st fs w os v m k f i = after_alike Any g.hs g.ops fs _ (assign_alike n x (told_value y) w os v (told_lives n y) i) m.1 f (λ _ u xs _ j. matches m (supplied_lives n p.IsSaid st tt k) f j)
    on_event_alike (Asks (AskFor e want)) g st fs w os v m k f i = stmt_alike (im.expr e) (InEval g want st ∷ fs) w os ((m, k), f) i

    -- ---- instructions

    put_alike : {x x' : Op MW MVal} (q : ℕ) (ops : List Operand) (hs : List Handler) (fs : List Frame) → OpAlike n (ValueLives n) x x' → OperandsLive n ops → FramesLive n fs → AlikeBy n (put im x q ops hs fs) (put im x' q ops hs fs)
    put_alike q ops hs fs h o f = after_alike (ValueLives n) hs ops fs _ h o f (λ v w xs k i. runs (k, o) f i)

    put_name_alike : {x x' : Op MW Name} (q : ℕ) (ops : List Operand) (hs : List Handler) (fs : List Frame) → OpAlike n (NameLives n) x x' → OperandsLive n ops → FramesLive n fs → AlikeBy n (put_name im x q ops hs fs) (put_name im x' q ops hs fs)
    put_name_alike q ops hs fs h o f = after_alike (NameLives n) hs ops fs _ h o f (λ v w xs k i. runs (k, o) f i)

    put_none_alike : {x x' : Op MW (record {})} (q : ℕ) (ops : List Operand) (hs : List Handler) (fs : List Frame) → OpAlike n Any x x' → OperandsLive n ops → FramesLive n fs → AlikeBy n (put_none im x q ops hs fs) (put_none im x' q ops hs fs)
    put_none_alike q ops hs fs h o f = after_alike Any hs ops fs _ h o f (λ v w xs _ i. runs o f i)

    calls_alike : (want : Bool) (g : Bytes) (m q : ℕ) (ops : List Operand) (hs : List Handler) (fs : List Frame) (w : MW) (os : Heap) → OperandsLive n ops → FramesLive n fs → WorldLives n w os → AlikeBy n (calls im want g m q ops hs fs w) (calls im want g m q ops hs fs (set_objects os w))
    calls_alike want g m q ops hs fs w os o f i = pop_many_alike m ops [] w os _ _ o tt i (λ vs r h s. call_alike g vs (w.plain.functions g) _ fs w os h s f i)

    primitive_alike : (want : Bool) {x x' : Op MW (Outcome PCode ℕ)} (q : ℕ) (ops : List Operand) (hs : List Handler) (fs : List Frame) → OpAlike n (OutcomeLives n) x x' → OperandsLive n ops → FramesLive n fs → AlikeBy n (primitive im want x q ops hs fs) (primitive im want x' q ops hs fs)
    primitive_alike want q ops hs fs h o f = after_alike (OutcomeLives n) hs ops fs _ h o f (λ r w xs k i. finish_alike r _ fs w xs k o f i)

    pub act_alike : (x : Instr) (q pc : ℕ) (ops : List Operand) (hs : List Handler) (fs : List Frame) (w : MW) (os : Heap) → ModuleLives n im → OperandsLive n ops → FramesLive n fs → WorldLives n w os → AlikeBy n (act im x q pc ops hs fs w) (act im x q pc ops hs fs (set_objects os w))
    act_alike op.End q pc ops hs fs w os h o f i = ended i
    act_alike (op.Begin t) q pc ops hs fs w os h o f i = choice_alike (AlikeBy n) (over_limit w) (ended i) (runs o f i)
    act_alike op.Body q pc ops hs fs w os h o f i = unbegin_alike hs w os _ _ i (λ r. runs o f i)
    act_alike (op.Goto k) q pc ops hs fs w os h o f i = stmt_alike (im.stmt k) fs w os f i
    act_alike (op.Return r) q pc ops hs fs w os h o f i = return_alike r fs w os f i
    act_alike op.GotoV q pc ops hs fs w os h o f i = pop_alike ops w os _ _ o i (λ v r a s. text_label_alike (to_label v) fs w os f i)
    act_alike op.NoLabel q pc ops hs fs w os h o f i = ended i
    act_alike (op.Str k) q pc ops hs fs w os h o f i = load_alike (im.string k) w os _ _ i (λ t e. runs (tt, o) f i)
    act_alike (op.Int z) q pc ops hs fs w os h o f i = runs (tt, o) f i
    act_alike op.Null q pc ops hs fs w os h o f i = runs (tt, o) f i
    act_alike (op.Var k) q pc ops hs fs w os h o f i = load_alike (im.string k) w os _ _ i (λ t e. runs (tt, o) f i)
    act_alike op.Fetch q pc ops hs fs w os h o f i = pop_name_alike ops w os _ _ o i (λ x r m s. put_alike q r hs fs (fetch_alike n x w os m i) s f)
    act_alike (op.KeyGet k) q pc ops hs fs w os h o f i = put_alike q ops hs fs (keyget_alike n k w os i) o f
    act_alike (op.KeySet k) q pc ops hs fs w os h o f i = pop_alike ops w os _ _ o i (λ v r a s. put_none_alike q r hs fs (keyset_alike n k v w os i) s f)
    act_alike op.Indir q pc ops hs fs w os h o f i = pop_alike ops w os _ _ o i (λ v r a s. put_name_alike q r hs fs (indir_alike n v w os a i) s f)
    act_alike (op.Elem m) q pc ops hs fs w os h o f i = pop_many_alike m ops [] w os _ _ o tt i (λ vs r b s. pop_alike r w os _ _ s i (λ v r a s. put_name_alike q r hs fs (element_alike n v vs w os a i) s f))
    act_alike op.Assign q pc ops hs fs w os h o f i = pop_alike ops w os _ _ o i (λ v r a s. pop_name_alike r w os _ _ s i (λ x r m s. put_none_alike q r hs fs (assign_alike n x v w os m a i) s f))
    act_alike op.NameV q pc ops hs fs w os h o f i = pop_name_alike ops w os _ _ o i (λ x r m s. runs (m, s) f i)
    act_alike (op.Expr k) q pc ops hs fs w os h o f i = runs (tt, o) f i
    act_alike (op.CallV k m) q pc ops hs fs w os h o f i = load_alike (im.string k) w os _ _ i (λ g e. calls_alike false g m q ops hs fs w os o f i)
    act_alike (op.CallN k m) q pc ops hs fs w os h o f i = load_alike (im.string k) w os _ _ i (λ g e. calls_alike true g m q ops hs fs w os o f i)
    act_alike (op.PrimV g m) q pc ops hs fs w os h o f i = pop_many_alike m ops [] w os _ _ o tt i (λ vs r b s. primitive_alike false q r hs fs (prim_alike n g vs w os b i) s f)
    act_alike (op.PrimN g m) q pc ops hs fs w os h o f i = pop_many_alike m ops [] w os _ _ o tt i (λ vs r b s. primitive_alike true q r hs fs (prim_alike n g vs w os b i) s f)
    act_alike op.Drop q pc ops hs fs w os h o f i = pop_alike ops w os _ _ o i (λ v r a s. runs s f i)
    act_alike (op.Try t) q pc ops hs fs w os h o f i = runs o f i
    act_alike op.Untry q pc ops hs fs w os h o f i = untry_alike hs w os _ _ i (λ r. runs o f i)
    act_alike op.Fail q pc ops hs fs w os h o f i = fail_alike hs ops fs w os o f i
    act_alike (op.Sign x) q pc ops hs fs w os h o f i = pop_alike ops w os _ _ o i (λ v r a s. put_alike q r hs fs (sign_alike n x v w os i) s f)
    act_alike (op.Arith x) q pc ops hs fs w os h o f i = pop_alike ops w os _ _ o i (λ v r a s. pop_alike r w os _ _ s i (λ u r b s. put_alike q r hs fs (arith_alike n x u v w os i) s f))
    act_alike op.Cat q pc ops hs fs w os h o f i = pop_alike ops w os _ _ o i (λ v r a s. pop_alike r w os _ _ s i (λ u r b s. put_alike q r hs fs (cat_alike n u v w os b a i) s f))
    act_alike op.Alt q pc ops hs fs w os h o f i = pop_alike ops w os _ _ o i (λ v r a s. pop_alike r w os _ _ s i (λ u r b s. put_alike q r hs fs (alt_alike n u v w os b a i) s f))
    act_alike op.Cond q pc ops hs fs w os h o f i = pop_name_alike ops w os _ _ o i (λ x r m s. pop_alike r w os _ _ s i (λ v r a s. put_alike q r hs fs (cond_alike n v x w os a m i) s f))
    act_alike op.Imm q pc ops hs fs w os h o f i = pop_name_alike ops w os _ _ o i (λ x r m s. pop_alike r w os _ _ s i (λ v r a s. put_alike q r hs fs (imm_alike n v x w os a m i) s f))
    act_alike op.Cursor q pc ops hs fs w os h o f i = pop_name_alike ops w os _ _ o i (λ x r m s. runs ((m, tt), s) f i)
    act_alike (op.Pat k) q pc ops hs fs w os h o f i = load_alike (im.pattern k) w os _ _ i (λ c e. runs (h k c e, o) f i)
    act_alike op.FetchK q pc ops hs fs w os h o f i = pop_name_alike ops w os _ _ o i (λ x r m s. put_alike q ops hs fs (fetch_alike n x w os m i) o f)
    act_alike op.Match q pc ops hs fs w os h o f i = pop_alike ops w os _ _ o i (λ v r a s. pop_alike r w os _ _ s i (λ u r b s. match_from_alike false u v q r hs fs w os a s f i))
    act_alike op.MatchR q pc ops hs fs w os h o f i = pop_alike ops w os _ _ o i (λ v r a s. pop_alike r w os _ _ s i (λ u r b s. match_from_alike true u v q r hs fs w os a s f i))
    act_alike op.Splice q pc ops hs fs w os h o f i = pop_alike ops w os _ _ o i (λ v r a s. pop_span_alike r w os _ _ s i (λ t b e r s. pop_name_alike r w os _ _ s i (λ x r m s. put_none_alike q r hs fs (splice_alike n x t b e v w os m i) s f)))
    act_alike op.Ret q pc ops hs fs w os h o f i = pop_alike ops w os _ _ o i (λ v r a s. ret_alike v fs w os a f i)

    -- ---- steps

    fetched_alike : (x : Fetched) (pc : ℕ) (ops : List Operand) (hs : List Handler) (fs : List Frame) (w : MW) (os : Heap) → ModuleLives n im → OperandsLive n ops → FramesLive n fs → WorldLives n w os → AlikeBy n (step_at im x pc ops hs fs w) (step_at im x pc ops hs fs (set_objects os w))
    fetched_alike Nowhere pc ops hs fs w os h o f i = stuck i
    fetched_alike (At x next) pc ops hs fs w os h o f i = act_alike x next pc ops hs fs w os h o f i

    searched_alike : (g : Matching) (st : s.MatchState) (fs : List Frame) (w : MW) (os : Heap) → MatchingLives n g → SearchLives n st → FramesLive n fs → WorldLives n w os → AlikeBy n (on_event im (s.event_of st) g st fs w) (on_event im (s.event_of st) g st fs (set_objects os w))
    searched_alike g st fs w os m k f i = on_event_alike (s.event_of st) g st fs w os (event_lives st k) m k f i

    pub step_alike : ModuleLives n im → (st st' : State) → AlikeBy n st st' → AlikeBy n (step im st) (step im st')
    step_alike h (Run pc ops hs fs w) _ (runs o f i) = fetched_alike (im.fetch pc) pc ops hs fs w _ h o f i
    step_alike h (InMatch g st fs w) _ (matches m k f i) = searched_alike g (s.pattern_step g.subject g.code st) fs w _ m (search_lives n g.subject g.code st m.0 k) f i
    step_alike h _ _ (ended i) = ended i
    step_alike h _ _ (stuck i) = stuck i

    pub steps_alike : ModuleLives n im → (m : ℕ) (st st' : State) → AlikeBy n st st' → AlikeBy n (steps im m st) (steps im m st')
    steps_alike h zero st st' a = a
    steps_alike h (suc m) st st' a = steps_alike h m (step im st) (step im st') (step_alike h st st' a)

  -- what can be seen
  pub seen_alike : (st st' : State) → AlikeBy n st st' → seen_at st' ≡ seen_at st
  seen_alike _ _ (runs o f i) = refl
  seen_alike _ _ (matches m k f i) = refl
  seen_alike _ _ (ended i) = refl
  seen_alike _ _ (stuck i) = refl
