-- No step of the machine takes back what was printed.
use Rattle.std.proofs.Common.{◌≡◌, ℕ, zero, suc, List, [], ◌∷◌, Option, Some, None, Bool, true, false, if◌then◌else◌, refl, ap}
use Rattle.model.specs.declared.instr.Instr.{Instr}
use Rattle.model.specs.declared.instr.Instr.TheVariants as op
use Rattle.model.specs.declared.instr.ReturnKind.{ReturnKind}
use Rattle.model.specs.declared.run.Ending.TheVariants as ending
use Rattle.model.specs.Deck.Trees.{Bytes}
use Rattle.model.specs.Deck.Target.{Name}
use Rattle.model.specs.Language.Values.{Function, Defined, Constructor, Field, printed_of, enter_stmt, count_failure}
use Rattle.model.specs.Language.Conversions.{Op, Conv, Got, Bad, to_label, answer_of}
use Rattle.model.specs.Language.Operators.{told_value}
use Rattle.model.specs.Language.Calls.{return_of, kept_of, enter_call}
use Rattle.model.specs.Language.Primitives.{Outcome, Returns, Calls}
use Rattle.model.specs.Pattern.Patterns as p
use Rattle.model.specs.Pattern.Patterns.{Running, Failed, Asks, Matched, AskFor, SayThat}
use Rattle.model.specs.Pattern.Steps as s
use Rattle.model.specs.Language.Meaning.{over_limit}
use Rattle.model.specs.Machine.Steps.{PCode, MVal, MW, MBack, codes_of, Fetched, Nowhere, At, Module, Operand, OV, ON, OR, Matching, Frame, InCall, InEval, Handler, OnBegin, OnTry, Caller, State, Run, InMatch, Over, Stuck, fail_to, after_op, resume_as, return_to, pop, pop_name, pop_span, pop_many, untry, unbegin, load, supplied, ret, match_from, to_stmt, go_to_known, go_to_return, go_to_text, call_function, finish_primitive, on_event, put, put_name, put_none, calls, primitive, act, step_at, step, steps, world_of_state}
use Rattle.model.proofs.Language.MeaningGrows.{Before, before_refl, before_trans}
use Rattle.model.proofs.Language.OperationsPrint.{OpOn, gon, ron, fon, same_printed, arith_on, sign_on, cat_on, alt_on, cond_on, imm_on, indir_on, fetch_on, assign_on, assign_all_on, splice_on, keyset_on, match_on, element_on, prim_on, enter_on, leave_on, as_value_on, as_name_on, construct_on, select_on}

-- the state after goes on from the world before
record On (m : MW) (s : State) : Type 0 where
  is : Before m (world_of_state s)

here : (m : MW) (s : State) → world_of_state s ≡ m → On m s
here m s e = record { is = same_printed m (world_of_state s) (ap printed_of e) }

fail_on : (m v : MW) (hs : List Handler) (ops : List Operand) (fs : List Frame) → Before m v → On m (fail_to hs ops fs v)
fail_on m v [] ops [] b = record { is = b }
fail_on m v [] ops (InCall k c ∷ fs) b = record { is = b }
fail_on m v [] ops (InEval g k st ∷ fs) b = record { is = b }
fail_on m v (OnBegin t ∷ hs) ops fs b = record { is = before_trans m v (count_failure v) b (same_printed v (count_failure v) refl) }
fail_on m v (OnTry t d ∷ hs) ops fs b = record { is = b }

op_on : {A : Type 0} {m : MW} {o : Op MW A} (hs : List Handler) (ops : List Operand) (fs : List Frame) (k : A → MW → State) → OpOn m o → ((a : A) (v : MW) → Before m v → On m (k a v)) → On m (after_op o hs ops fs k)
op_on hs ops fs k (gon b) h = h _ _ b
op_on {m = m} hs ops fs k (ron b) h = fail_on m _ hs ops fs b
op_on hs ops fs k (fon b) h = record { is = b }

on_trans : (m v : MW) (s : State) → Before m v → On v s → On m s
on_trans m v s b o = record { is = before_trans m v (world_of_state s) b o.is }

resume_on : (want : Bool) (c : Caller) (fs : List Frame) (g : MBack) (m : MW) → On m (resume_as want c fs g m)
resume_on true c fs g m = op_on c.hs c.ops fs _ (as_name_on g m) (λ n v b. record { is = b })
resume_on false c fs g m = op_on c.hs c.ops fs _ (as_value_on g m) (λ n v b. record { is = b })

return_on : (r : ReturnKind) (fs : List Frame) (m : MW) → On m (return_to r fs m)
return_on r [] m = here m _ refl
return_on r (InEval g k st ∷ fs) m = here m _ refl
return_on r (InCall k c ∷ fs) m = op_on c.hs c.ops fs _ (leave_on r k m) (λ g v b. on_trans m v _ b (resume_on c.want_name c fs g v))

-- ---- operands

load_on : {A : Type 0} (o : Option A) (m : MW) (k : A → State) → ((a : A) → On m (k a)) → On m (load o m k)
load_on None m k h = here m _ refl
load_on (Some s) m k h = h s

pop_on : (ops : List Operand) (m : MW) (k : MVal → List Operand → State) → ((v : MVal) (r : List Operand) → On m (k v r)) → On m (pop ops m k)
pop_on [] m k h = here m _ refl
pop_on (ON n ∷ ops) m k h = here m _ refl
pop_on (OR s b e ∷ ops) m k h = here m _ refl
pop_on (OV v ∷ ops) m k h = h v ops

pop_name_on : (ops : List Operand) (m : MW) (k : Name → List Operand → State) → ((v : Name) (r : List Operand) → On m (k v r)) → On m (pop_name ops m k)
pop_name_on [] m k h = here m _ refl
pop_name_on (OV n ∷ ops) m k h = here m _ refl
pop_name_on (OR s b e ∷ ops) m k h = here m _ refl
pop_name_on (ON v ∷ ops) m k h = h v ops

span_on : (ops : List Operand) (m : MW) (k : Bytes → (b e : ℕ) → List Operand → State) → ((s : Bytes) (b e : ℕ) (r : List Operand) → On m (k s b e r)) → On m (pop_span ops m k)
span_on [] m k h = here m _ refl
span_on (OV v ∷ ops) m k h = here m _ refl
span_on (ON v ∷ ops) m k h = here m _ refl
span_on (OR s b e ∷ ops) m k h = h s b e ops

pop_many_on : (n : ℕ) (ops : List Operand) (vs : List MVal) (m : MW) (k : List MVal → List Operand → State) → ((v : List MVal) (r : List Operand) → On m (k v r)) → On m (pop_many n ops vs m k)
pop_many_on zero ops vs m k h = h vs ops
pop_many_on (suc n) [] vs m k h = here m _ refl
pop_many_on (suc n) (ON a ∷ ops) vs m k h = here m _ refl
pop_many_on (suc n) (OR s b e ∷ ops) vs m k h = here m _ refl
pop_many_on (suc n) (OV v ∷ ops) vs m k h = pop_many_on n ops (v ∷ vs) m k h

untry_on : (hs : List Handler) (m : MW) (k : List Handler → State) → ((r : List Handler) → On m (k r)) → On m (untry hs m k)
untry_on (OnTry t d ∷ hs) m k h = h hs
untry_on _ m k h = here m _ refl

unbegin_on : (hs : List Handler) (m : MW) (k : List Handler → State) → ((r : List Handler) → On m (k r)) → On m (unbegin hs m k)
unbegin_on (OnBegin t ∷ hs) m k h = h hs
unbegin_on _ m k h = here m _ refl

begin_on : (b : Bool) (m : MW) (k q f : ℕ) (ops : List Operand) (hs : List Handler) (fs : List Frame) → On m (if b then Over (ending.StLimit k) m else Run q ops (OnBegin f ∷ hs) fs (enter_stmt k m))
begin_on true m k q f ops hs fs = here m _ refl
begin_on false m k q f ops hs fs = record { is = same_printed m (enter_stmt k m) refl }

begun_on : (keep : Bool) (u v : MVal) (q : ℕ) (ops : List Operand) (hs : List Handler) (fs : List Frame) (m : MW) → On m (match_from keep u v q ops hs fs m)
begun_on keep u v q ops hs fs m = op_on hs ops fs _ (match_on codes_of u v m) (λ g w b. record { is = b })

supplied_on : (c : Conv (p.Answer PCode)) (g : Matching) (st : s.MatchState) (fs : List Frame) (m : MW) → On m (supplied c g st fs m)
supplied_on (Got y) g st fs m = here m _ refl
supplied_on (Bad e) g st fs m = here m _ refl

ret_on : (v : MVal) (fs : List Frame) (m : MW) → On m (ret v fs m)
ret_on v [] m = here m _ refl
ret_on v (InCall k c ∷ fs) m = here m _ refl
ret_on v (InEval g want st ∷ fs) m = supplied_on (answer_of codes_of want v) g st fs m

module _ (img : Module) where
  stmt_on : (o : Option ℕ) (fs : List Frame) (m : MW) → On m (to_stmt img o fs m)
  stmt_on (Some o) fs m = here m _ refl
  stmt_on None fs m = here m _ refl

  known_on : (o : Option ℕ) (fs : List Frame) (m : MW) → On m (go_to_known img o fs m)
  known_on (Some k) fs m = stmt_on (img.stmt k) fs m
  known_on None fs m = here m _ refl

  label_on : (l : Bytes) (o : Option ReturnKind) (fs : List Frame) (m : MW) → On m (go_to_return img l o fs m)
  label_on l (Some r) fs m = return_on r fs m
  label_on l None fs m = known_on (img.label l) fs m

  text_on : (c : Conv Bytes) (fs : List Frame) (m : MW) → On m (go_to_text img c fs m)
  text_on (Got l) fs m = label_on l (return_of l) fs m
  text_on (Bad e) fs m = here m _ refl

  call_on : (f : Bytes) (vs : List MVal) (o : Option Function) (c : Caller) (fs : List Frame) (m : MW) → On m (call_function img f vs o c fs m)
  call_on f vs None c fs m = here m _ refl
  call_on f vs (Some (Defined entry xs ys)) c fs m = on_trans m (enter_call f xs ys vs m) _ (enter_on f xs ys vs m) (label_on entry (return_of entry) (InCall (kept_of f xs ys m) c ∷ fs) (enter_call f xs ys vs m))
  call_on f vs (Some (Constructor fields)) c fs m = op_on c.hs c.ops fs _ (construct_on f fields vs m) (λ g v b. on_trans m v _ b (resume_on c.want_name c fs g v))
  call_on f vs (Some Field) c fs m = op_on c.hs c.ops fs _ (select_on f vs m) (λ g v b. on_trans m v _ b (resume_on c.want_name c fs g v))

  finish_on : (r : Outcome PCode ℕ) (c : Caller) (fs : List Frame) (m : MW) → On m (finish_primitive img r c fs m)
  finish_on (Returns g) c fs m = resume_on c.want_name c fs g m
  finish_on (Calls f vs) c fs m = call_on f vs (m.plain.functions f) c fs m

  event_on : (e : p.Event ℕ) (g : Matching) (st : s.MatchState) (fs : List Frame) (m : MW) → On m (on_event img e g st fs m)
  event_on Running g st fs m = here m _ refl
  event_on Failed g st fs m = fail_on m m g.hs g.ops fs (before_refl m)
  event_on (Matched b e a) g st fs m = op_on g.hs g.ops fs _ (assign_all_on a m) (λ _ v b. record { is = b })
  event_on (Asks (SayThat x v)) g st fs m = op_on g.hs g.ops fs _ (assign_on x (told_value v) m) (λ _ v b. record { is = b })
  event_on (Asks (AskFor k want)) g st fs m = stmt_on (img.expr k) _ m

  pub event_prints : (e : p.Event ℕ) (g : Matching) (st : s.MatchState) (fs : List Frame) (m : MW) → Before m (world_of_state (on_event img e g st fs m))
  event_prints e g st fs m = (event_on e g st fs m).is

  put_on : {o : Op MW MVal} {m : MW} (q : ℕ) (ops : List Operand) (hs : List Handler) (fs : List Frame) → OpOn m o → On m (put img o q ops hs fs)
  put_on q ops hs fs h = op_on hs ops fs _ h (λ v u b. record { is = b })

  put_name_on : {o : Op MW Name} {m : MW} (q : ℕ) (ops : List Operand) (hs : List Handler) (fs : List Frame) → OpOn m o → On m (put_name img o q ops hs fs)
  put_name_on q ops hs fs h = op_on hs ops fs _ h (λ v u b. record { is = b })

  put_none_on : {o : Op MW (record {})} {m : MW} (q : ℕ) (ops : List Operand) (hs : List Handler) (fs : List Frame) → OpOn m o → On m (put_none img o q ops hs fs)
  put_none_on q ops hs fs h = op_on hs ops fs _ h (λ v u b. record { is = b })

  calls_on : (want : Bool) (f : Bytes) (n q : ℕ) (ops : List Operand) (hs : List Handler) (fs : List Frame) (m : MW) → On m (calls img want f n q ops hs fs m)
  calls_on want f n q ops hs fs m = pop_many_on n ops [] m _ (λ vs r. call_on f vs (m.plain.functions f) _ fs m)

  primitive_on : (want : Bool) {o : Op MW (Outcome PCode ℕ)} {m : MW} (q : ℕ) (ops : List Operand) (hs : List Handler) (fs : List Frame) → OpOn m o → On m (primitive img want o q ops hs fs)
  primitive_on want {m = m} q ops hs fs h = op_on hs ops fs _ h (λ r v b. on_trans m v _ b (finish_on r _ fs v))

  act_on : (i : Instr) (q pc : ℕ) (ops : List Operand) (hs : List Handler) (fs : List Frame) (m : MW) → On m (act img i q pc ops hs fs m)
  act_on op.End q pc ops hs fs m = here m _ refl
  act_on (op.Begin f) q pc ops hs fs m = begin_on (over_limit m) m (img.number pc) q f ops hs fs
  act_on op.Body q pc ops hs fs m = unbegin_on hs m _ (λ r. here m _ refl)
  act_on (op.Goto k) q pc ops hs fs m = stmt_on (img.stmt k) fs m
  act_on (op.Return r) q pc ops hs fs m = return_on r fs m
  act_on op.GotoV q pc ops hs fs m = pop_on ops m _ (λ v r. text_on (to_label v) fs m)
  act_on op.NoLabel q pc ops hs fs m = here m _ refl
  act_on (op.Str k) q pc ops hs fs m = load_on (img.string k) m _ (λ s. here m _ refl)
  act_on (op.Int z) q pc ops hs fs m = here m _ refl
  act_on op.Null q pc ops hs fs m = here m _ refl
  act_on (op.Var k) q pc ops hs fs m = load_on (img.string k) m _ (λ s. here m _ refl)
  act_on op.Fetch q pc ops hs fs m = pop_name_on ops m _ (λ n r. put_on q r hs fs (fetch_on n m))
  act_on (op.KeyGet k) q pc ops hs fs m = here m _ refl
  act_on (op.KeySet k) q pc ops hs fs m = pop_on ops m _ (λ v r. put_none_on q r hs fs (keyset_on k v m))
  act_on op.Indir q pc ops hs fs m = pop_on ops m _ (λ v r. put_name_on q r hs fs (indir_on v m))
  act_on (op.Elem n) q pc ops hs fs m = pop_many_on n ops [] m _ (λ vs r. pop_on r m _ (λ a r. put_name_on q r hs fs (element_on a vs m)))
  act_on op.Assign q pc ops hs fs m = pop_on ops m _ (λ v r. pop_name_on r m _ (λ n r. put_none_on q r hs fs (assign_on n v m)))
  act_on op.NameV q pc ops hs fs m = pop_name_on ops m _ (λ n r. here m _ refl)
  act_on (op.Expr k) q pc ops hs fs m = here m _ refl
  act_on (op.CallV k n) q pc ops hs fs m = load_on (img.string k) m _ (λ f. calls_on false f n q ops hs fs m)
  act_on (op.CallN k n) q pc ops hs fs m = load_on (img.string k) m _ (λ f. calls_on true f n q ops hs fs m)
  act_on (op.PrimV f n) q pc ops hs fs m = pop_many_on n ops [] m _ (λ vs r. primitive_on false q r hs fs (prim_on codes_of f vs m))
  act_on (op.PrimN f n) q pc ops hs fs m = pop_many_on n ops [] m _ (λ vs r. primitive_on true q r hs fs (prim_on codes_of f vs m))
  act_on op.Drop q pc ops hs fs m = pop_on ops m _ (λ v r. here m _ refl)
  act_on (op.Try t) q pc ops hs fs m = here m _ refl
  act_on op.Untry q pc ops hs fs m = untry_on hs m _ (λ r. here m _ refl)
  act_on op.Fail q pc ops hs fs m = fail_on m m hs ops fs (before_refl m)
  act_on (op.Sign o) q pc ops hs fs m = pop_on ops m _ (λ a r. put_on q r hs fs (sign_on o a m))
  act_on (op.Arith o) q pc ops hs fs m = pop_on ops m _ (λ b r. pop_on r m _ (λ a r. put_on q r hs fs (arith_on o a b m)))
  act_on op.Cat q pc ops hs fs m = pop_on ops m _ (λ b r. pop_on r m _ (λ a r. put_on q r hs fs (cat_on codes_of a b m)))
  act_on op.Alt q pc ops hs fs m = pop_on ops m _ (λ b r. pop_on r m _ (λ a r. put_on q r hs fs (alt_on codes_of a b m)))
  act_on op.Cond q pc ops hs fs m = pop_name_on ops m _ (λ n r. pop_on r m _ (λ a r. put_on q r hs fs (cond_on codes_of a n m)))
  act_on op.Imm q pc ops hs fs m = pop_name_on ops m _ (λ n r. pop_on r m _ (λ a r. put_on q r hs fs (imm_on codes_of a n m)))
  act_on op.Cursor q pc ops hs fs m = pop_name_on ops m _ (λ n r. here m _ refl)
  act_on (op.Pat k) q pc ops hs fs m = load_on (img.pattern k) m _ (λ c. here m _ refl)
  act_on op.FetchK q pc ops hs fs m = pop_name_on ops m _ (λ n r. put_on q ops hs fs (fetch_on n m))
  act_on op.Match q pc ops hs fs m = pop_on ops m _ (λ v r. pop_on r m _ (λ u r. begun_on false u v q r hs fs m))
  act_on op.MatchR q pc ops hs fs m = pop_on ops m _ (λ v r. pop_on r m _ (λ u r. begun_on true u v q r hs fs m))
  act_on op.Splice q pc ops hs fs m = pop_on ops m _ (λ v r. span_on r m _ (λ s b e r. pop_name_on r m _ (λ n r. put_none_on q r hs fs (splice_on n s b e v m))))
  act_on op.Ret q pc ops hs fs m = pop_on ops m _ (λ v r. ret_on v fs m)

  fetched_on : (f : Fetched) (pc : ℕ) (ops : List Operand) (hs : List Handler) (fs : List Frame) (m : MW) → On m (step_at img f pc ops hs fs m)
  fetched_on Nowhere pc ops hs fs m = here m _ refl
  fetched_on (At i q) pc ops hs fs m = act_on i q pc ops hs fs m

  step_on : (st : State) → Before (world_of_state st) (world_of_state (step img st))
  step_on (Run pc ops hs fs m) = (fetched_on (img.fetch pc) pc ops hs fs m).is
  step_on (InMatch g st fs m) = (event_on (s.event_of (s.pattern_step g.subject g.code st)) g (s.pattern_step g.subject g.code st) fs m).is
  step_on (Over e m) = before_refl m
  step_on (Stuck m) = before_refl m

  pub steps_on : (n : ℕ) (st : State) → Before (world_of_state st) (world_of_state (steps img n st))
  steps_on zero st = before_refl (world_of_state st)
  steps_on (suc n) st = before_trans (world_of_state st) (world_of_state (step img st)) (world_of_state (steps img n (step img st))) (step_on st) (steps_on n (step img st))
