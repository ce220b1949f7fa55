-- What the machine does doesn't depend on what was printed before.
use Rattle.std.proofs.Common.{◌≡◌, ℕ, zero, suc, List, [], ◌∷◌, Option, Some, None, Bool, true, false, if◌then◌else◌, refl, ap, ◌∙◌}
use Rattle.model.specs.declared.instr.Instr.{Instr}
use Rattle.model.specs.declared.instr.Instr.TheVariants as op
use Rattle.model.specs.declared.instr.ReturnKind.{ReturnKind}
use Rattle.model.specs.Deck.Trees.{Bytes}
use Rattle.model.specs.Deck.Target.{Name}
use Rattle.model.specs.Language.Values.{Function, Defined, Constructor, Field}
use Rattle.model.specs.Language.Conversions.{Op, Gives, Refuses, Faults, Conv, Got, Bad, to_label, answer_of}
use Rattle.model.specs.Language.Operators.{told_value}
use Rattle.model.specs.Language.Calls.{return_of, kept_of, enter_call, construct_op}
use Rattle.model.specs.Language.Primitives.{Outcome, Returns, Calls}
use Rattle.model.specs.Pattern.Patterns as p
use Rattle.model.specs.Pattern.Patterns.{Running, Failed, Asks, Matched, AskFor, SayThat}
use Rattle.model.specs.Pattern.Steps as s
use Rattle.model.specs.Language.Meaning.{over_limit}
use Rattle.model.specs.Machine.Steps.{PCode, MVal, MW, MBack, codes_of, Fetched, Nowhere, At, Module, Operand, OV, ON, OR, Matching, Frame, InCall, InEval, Handler, OnBegin, OnTry, Caller, State, Run, InMatch, Over, Stuck, fail_to, after_op, resume_as, return_to, pop, pop_name, pop_span, pop_many, untry, unbegin, load, supplied, ret, match_from, to_stmt, go_to_known, go_to_return, go_to_text, call_function, finish_primitive, on_event, put, put_name, put_none, calls, primitive, act, step_at, step, steps}
use Rattle.model.specs.Laws.Agreement.{Records}
use Rattle.model.specs.Laws.PrintedBefore.{after_w, after_s, RunsAfter}
use Rattle.model.proofs.Language.OperationsAfter.{sh, arith_after, sign_after, cat_after, alt_after, cond_after, imm_after, indir_after, fetch_after, assign_after, assign_all_after, splice_after, keyset_after, match_after, element_after, prim_after, enter_after, kept_after, leave_after, as_value_after, as_name_after, construct_after, select_after}

module _ (before : Records) (img : Module) where
  abbrev aft : MW → MW
  aft m = after_w before m

  abbrev aft_s : State → State
  aft_s st = after_s before st

  fail_on : (hs : List Handler) (ops : List Operand) (fs : List Frame) (m : MW) → fail_to hs ops fs (aft m) ≡ aft_s (fail_to hs ops fs m)
  fail_on [] ops [] m = refl
  fail_on [] ops (InCall k c ∷ fs) m = refl
  fail_on [] ops (InEval g k st ∷ fs) m = refl
  fail_on (OnBegin t ∷ hs) ops fs m = refl
  fail_on (OnTry t d ∷ hs) ops fs m = refl

  op_sh : {A : Type 0} (o : Op MW A) (hs : List Handler) (ops : List Operand) (fs : List Frame) (k : A → MW → State) → ((a : A) (v : MW) → k a (aft v) ≡ aft_s (k a v)) → after_op (sh before o) hs ops fs k ≡ aft_s (after_op o hs ops fs k)
  op_sh (Gives a w) hs ops fs k h = h a w
  op_sh (Refuses w) hs ops fs k h = fail_on hs ops fs w
  op_sh (Faults e w) hs ops fs k h = refl

  op_on : {A : Type 0} (o o' : Op MW A) (hs : List Handler) (ops : List Operand) (fs : List Frame) (k : A → MW → State) → o' ≡ sh before o → ((a : A) (v : MW) → k a (aft v) ≡ aft_s (k a v)) → after_op o' hs ops fs k ≡ aft_s (after_op o hs ops fs k)
  op_on o o' hs ops fs k e h = ap (λ x. after_op x hs ops fs k) e ∙ op_sh o hs ops fs k h

  resume_on : (want : Bool) (c : Caller) (fs : List Frame) (g : MBack) (m : MW) → resume_as want c fs g (aft m) ≡ aft_s (resume_as want c fs g m)
  resume_on true c fs g m = op_on _ _ c.hs c.ops fs _ (as_name_after before g m) (λ n v. refl)
  resume_on false c fs g m = op_on _ _ c.hs c.ops fs _ (as_value_after before g m) (λ n v. refl)

  return_on : (r : ReturnKind) (fs : List Frame) (m : MW) → return_to r fs (aft m) ≡ aft_s (return_to r fs m)
  return_on r [] m = refl
  return_on r (InEval g k st ∷ fs) m = refl
  return_on r (InCall k c ∷ fs) m = op_on _ _ c.hs c.ops fs _ (leave_after before r k m) (λ g v. resume_on c.want_name c fs g v)

  -- ---- operands

  load_on : {A : Type 0} (o : Option A) (m : MW) (k k' : A → State) → ((a : A) → k' a ≡ aft_s (k a)) → load o (aft m) k' ≡ aft_s (load o m k)
  load_on None m k k' h = refl
  load_on (Some s) m k k' h = h s

  pop_on : (ops : List Operand) (m : MW) (k k' : MVal → List Operand → State) → ((v : MVal) (r : List Operand) → k' v r ≡ aft_s (k v r)) → pop ops (aft m) k' ≡ aft_s (pop ops m k)
  pop_on [] m k k' h = refl
  pop_on (ON n ∷ ops) m k k' h = refl
  pop_on (OR s b e ∷ ops) m k k' h = refl
  pop_on (OV v ∷ ops) m k k' h = h v ops

  pop_name_on : (ops : List Operand) (m : MW) (k k' : Name → List Operand → State) → ((v : Name) (r : List Operand) → k' v r ≡ aft_s (k v r)) → pop_name ops (aft m) k' ≡ aft_s (pop_name ops m k)
  pop_name_on [] m k k' h = refl
  pop_name_on (OV n ∷ ops) m k k' h = refl
  pop_name_on (OR s b e ∷ ops) m k k' h = refl
  pop_name_on (ON v ∷ ops) m k k' h = h v ops

  span_on : (ops : List Operand) (m : MW) (k k' : Bytes → (b e : ℕ) → List Operand → State) → ((s : Bytes) (b e : ℕ) (r : List Operand) → k' s b e r ≡ aft_s (k s b e r)) → pop_span ops (aft m) k' ≡ aft_s (pop_span ops m k)
  span_on [] m k k' h = refl
  span_on (OV v ∷ ops) m k k' h = refl
  span_on (ON v ∷ ops) m k k' h = refl
  span_on (OR s b e ∷ ops) m k k' h = h s b e ops

  pop_many_on : (n : ℕ) (ops : List Operand) (vs : List MVal) (m : MW) (k k' : List MVal → List Operand → State) → ((v : List MVal) (r : List Operand) → k' v r ≡ aft_s (k v r)) → pop_many n ops vs (aft m) k' ≡ aft_s (pop_many n ops vs m k)
  pop_many_on zero ops vs m k k' h = h vs ops
  pop_many_on (suc n) [] vs m k k' h = refl
  pop_many_on (suc n) (ON a ∷ ops) vs m k k' h = refl
  pop_many_on (suc n) (OR s b e ∷ ops) vs m k k' h = refl
  pop_many_on (suc n) (OV v ∷ ops) vs m k k' h = pop_many_on n ops (v ∷ vs) m k k' h

  untry_on : (hs : List Handler) (m : MW) (k k' : List Handler → State) → ((r : List Handler) → k' r ≡ aft_s (k r)) → untry hs (aft m) k' ≡ aft_s (untry hs m k)
  untry_on [] m k k' h = refl
  untry_on (OnBegin t ∷ hs) m k k' h = refl
  untry_on (OnTry t d ∷ hs) m k k' h = h hs

  unbegin_on : (hs : List Handler) (m : MW) (k k' : List Handler → State) → ((r : List Handler) → k' r ≡ aft_s (k r)) → unbegin hs (aft m) k' ≡ aft_s (unbegin hs m k)
  unbegin_on [] m k k' h = refl
  unbegin_on (OnTry t d ∷ hs) m k k' h = refl
  unbegin_on (OnBegin t ∷ hs) m k k' h = h hs

  if_on : (b : Bool) (x y x' y' : State) → x' ≡ aft_s x → y' ≡ aft_s y → (if b then x' else y') ≡ aft_s (if b then x else y)
  if_on true x y x' y' h k = h
  if_on false x y x' y' h k = k

  begun_on : (keep : Bool) (u v : MVal) (q : ℕ) (ops : List Operand) (hs : List Handler) (fs : List Frame) (m : MW) → match_from keep u v q ops hs fs (aft m) ≡ aft_s (match_from keep u v q ops hs fs m)
  begun_on keep u v q ops hs fs m = op_on _ _ hs ops fs _ (match_after before codes_of u v m) (λ g w. refl)

  supplied_on : (c : Conv (p.Answer PCode)) (g : Matching) (st : s.MatchState) (fs : List Frame) (m : MW) → supplied c g st fs (aft m) ≡ aft_s (supplied c g st fs m)
  supplied_on (Got y) g st fs m = refl
  supplied_on (Bad e) g st fs m = refl

  ret_on : (v : MVal) (fs : List Frame) (m : MW) → ret v fs (aft m) ≡ aft_s (ret v fs m)
  ret_on v [] m = refl
  ret_on v (InCall k c ∷ fs) m = refl
  ret_on v (InEval g want st ∷ fs) m = supplied_on (answer_of codes_of want v) g st fs m

  stmt_on : (o : Option ℕ) (fs : List Frame) (m : MW) → to_stmt img o fs (aft m) ≡ aft_s (to_stmt img o fs m)
  stmt_on (Some o) fs m = refl
  stmt_on None fs m = refl

  known_on : (o : Option ℕ) (fs : List Frame) (m : MW) → go_to_known img o fs (aft m) ≡ aft_s (go_to_known img o fs m)
  known_on (Some k) fs m = stmt_on (img.stmt k) fs m
  known_on None fs m = refl

  label_on : (l : Bytes) (o : Option ReturnKind) (fs : List Frame) (m : MW) → go_to_return img l o fs (aft m) ≡ aft_s (go_to_return img l o fs m)
  label_on l (Some r) fs m = return_on r fs m
  label_on l None fs m = known_on (img.label l) fs m

  text_on : (c : Conv Bytes) (fs : List Frame) (m : MW) → go_to_text img c fs (aft m) ≡ aft_s (go_to_text img c fs m)
  text_on (Got l) fs m = label_on l (return_of l) fs m
  text_on (Bad e) fs m = refl

  call_on : (f : Bytes) (vs : List MVal) (o : Option Function) (c : Caller) (fs : List Frame) (m : MW) → call_function img f vs o c fs (aft m) ≡ aft_s (call_function img f vs o c fs m)
  call_on f vs None c fs m = refl
  call_on f vs (Some (Defined entry xs ys)) c fs m =
      ap (λ w. go_to_return img entry (return_of entry) (InCall (kept_of f xs ys (aft m)) c ∷ fs) w) (enter_after before f xs ys vs m)
      ∙ ap (λ k. go_to_return img entry (return_of entry) (InCall k c ∷ fs) (aft (enter_call f xs ys vs m))) (kept_after before f xs ys m)
      ∙ label_on entry (return_of entry) (InCall (kept_of f xs ys m) c ∷ fs) (enter_call f xs ys vs m)
  call_on f vs (Some (Constructor fields)) c fs m = op_on (construct_op f fields vs m) _ c.hs c.ops fs _ (construct_after before f fields vs m) (λ g v. resume_on c.want_name c fs g v)
  call_on f vs (Some Field) c fs m = op_on _ _ c.hs c.ops fs _ (select_after before f vs m) (λ g v. resume_on c.want_name c fs g v)

  finish_on : (r : Outcome PCode ℕ) (c : Caller) (fs : List Frame) (m : MW) → finish_primitive img r c fs (aft m) ≡ aft_s (finish_primitive img r c fs m)
  finish_on (Returns g) c fs m = resume_on c.want_name c fs g m
  finish_on (Calls f vs) c fs m = call_on f vs (m.plain.functions f) c fs m

  event_on : (e : p.Event ℕ) (g : Matching) (st : s.MatchState) (fs : List Frame) (m : MW) → on_event img e g st fs (aft m) ≡ aft_s (on_event img e g st fs m)
  event_on Running g st fs m = refl
  event_on Failed g st fs m = fail_on g.hs g.ops fs m
  event_on (Matched b e a) g st fs m = op_on _ _ g.hs g.ops fs _ (assign_all_after before a m) (λ _ v. refl)
  event_on (Asks (SayThat x v)) g st fs m = op_on _ _ g.hs g.ops fs _ (assign_after before x (told_value v) m) (λ _ v. refl)
  event_on (Asks (AskFor k want)) g st fs m = stmt_on (img.expr k) _ m

  put_on : (o o' : Op MW MVal) (q : ℕ) (ops : List Operand) (hs : List Handler) (fs : List Frame) → o' ≡ sh before o → put img o' q ops hs fs ≡ aft_s (put img o q ops hs fs)
  put_on o o' q ops hs fs h = op_on _ _ hs ops fs _ h (λ v u. refl)

  put_name_on : (o o' : Op MW Name) (q : ℕ) (ops : List Operand) (hs : List Handler) (fs : List Frame) → o' ≡ sh before o → put_name img o' q ops hs fs ≡ aft_s (put_name img o q ops hs fs)
  put_name_on o o' q ops hs fs h = op_on _ _ hs ops fs _ h (λ v u. refl)

  put_none_on : (o o' : Op MW (record {})) (q : ℕ) (ops : List Operand) (hs : List Handler) (fs : List Frame) → o' ≡ sh before o → put_none img o' q ops hs fs ≡ aft_s (put_none img o q ops hs fs)
  put_none_on o o' q ops hs fs h = op_on _ _ hs ops fs _ h (λ v u. refl)

  calls_on : (want : Bool) (f : Bytes) (n q : ℕ) (ops : List Operand) (hs : List Handler) (fs : List Frame) (m : MW) → calls img want f n q ops hs fs (aft m) ≡ aft_s (calls img want f n q ops hs fs m)
  calls_on want f n q ops hs fs m = pop_many_on n ops [] m _ _ (λ vs r. call_on f vs (m.plain.functions f) _ fs m)

  primitive_on : (want : Bool) (o o' : Op MW (Outcome PCode ℕ)) (q : ℕ) (ops : List Operand) (hs : List Handler) (fs : List Frame) → o' ≡ sh before o → primitive img want o' q ops hs fs ≡ aft_s (primitive img want o q ops hs fs)
  primitive_on want o o' q ops hs fs h = op_on _ _ hs ops fs _ h (λ r v. finish_on r _ fs v)

  act_on : (i : Instr) (q pc : ℕ) (ops : List Operand) (hs : List Handler) (fs : List Frame) (m : MW) → act img i q pc ops hs fs (aft m) ≡ aft_s (act img i q pc ops hs fs m)
  act_on op.End q pc ops hs fs m = refl
  act_on (op.Begin f) q pc ops hs fs m = if_on (over_limit m) _ _ _ _ refl refl
  act_on op.Body q pc ops hs fs m = unbegin_on hs m _ _ (λ r. refl)
  act_on (op.Goto k) q pc ops hs fs m = stmt_on (img.stmt k) fs m
  act_on (op.Return r) q pc ops hs fs m = return_on r fs m
  act_on op.GotoV q pc ops hs fs m = pop_on ops m _ _ (λ v r. text_on (to_label v) fs m)
  act_on op.NoLabel q pc ops hs fs m = refl
  act_on (op.Str k) q pc ops hs fs m = load_on (img.string k) m _ _ (λ s. refl)
  act_on (op.Int z) q pc ops hs fs m = refl
  act_on op.Null q pc ops hs fs m = refl
  act_on (op.Var k) q pc ops hs fs m = load_on (img.string k) m _ _ (λ s. refl)
  act_on op.Fetch q pc ops hs fs m = pop_name_on ops m _ _ (λ n r. put_on _ _ q r hs fs (fetch_after before n m))
  act_on (op.KeyGet k) q pc ops hs fs m = refl
  act_on (op.KeySet k) q pc ops hs fs m = pop_on ops m _ _ (λ v r. put_none_on _ _ q r hs fs (keyset_after before k v m))
  act_on op.Indir q pc ops hs fs m = pop_on ops m _ _ (λ v r. put_name_on _ _ q r hs fs (indir_after before v m))
  act_on (op.Elem n) q pc ops hs fs m = pop_many_on n ops [] m _ _ (λ vs r. pop_on r m _ _ (λ a r. put_name_on _ _ q r hs fs (element_after before a vs m)))
  act_on op.Assign q pc ops hs fs m = pop_on ops m _ _ (λ v r. pop_name_on r m _ _ (λ n r. put_none_on _ _ q r hs fs (assign_after before n v m)))
  act_on op.NameV q pc ops hs fs m = pop_name_on ops m _ _ (λ n r. refl)
  act_on (op.Expr k) q pc ops hs fs m = refl
  act_on (op.CallV k n) q pc ops hs fs m = load_on (img.string k) m _ _ (λ f. calls_on false f n q ops hs fs m)
  act_on (op.CallN k n) q pc ops hs fs m = load_on (img.string k) m _ _ (λ f. calls_on true f n q ops hs fs m)
  act_on (op.PrimV f n) q pc ops hs fs m = pop_many_on n ops [] m _ _ (λ vs r. primitive_on false _ _ q r hs fs (prim_after before codes_of f vs m))
  act_on (op.PrimN f n) q pc ops hs fs m = pop_many_on n ops [] m _ _ (λ vs r. primitive_on true _ _ q r hs fs (prim_after before codes_of f vs m))
  act_on op.Drop q pc ops hs fs m = pop_on ops m _ _ (λ v r. refl)
  act_on (op.Try t) q pc ops hs fs m = refl
  act_on op.Untry q pc ops hs fs m = untry_on hs m _ _ (λ r. refl)
  act_on op.Fail q pc ops hs fs m = fail_on hs ops fs m
  act_on (op.Sign o) q pc ops hs fs m = pop_on ops m _ _ (λ a r. put_on _ _ q r hs fs (sign_after before o a m))
  act_on (op.Arith o) q pc ops hs fs m = pop_on ops m _ _ (λ b r. pop_on r m _ _ (λ a r. put_on _ _ q r hs fs (arith_after before o a b m)))
  act_on op.Cat q pc ops hs fs m = pop_on ops m _ _ (λ b r. pop_on r m _ _ (λ a r. put_on _ _ q r hs fs (cat_after before codes_of a b m)))
  act_on op.Alt q pc ops hs fs m = pop_on ops m _ _ (λ b r. pop_on r m _ _ (λ a r. put_on _ _ q r hs fs (alt_after before codes_of a b m)))
  act_on op.Cond q pc ops hs fs m = pop_name_on ops m _ _ (λ n r. pop_on r m _ _ (λ a r. put_on _ _ q r hs fs (cond_after before codes_of a n m)))
  act_on op.Imm q pc ops hs fs m = pop_name_on ops m _ _ (λ n r. pop_on r m _ _ (λ a r. put_on _ _ q r hs fs (imm_after before codes_of a n m)))
  act_on op.Cursor q pc ops hs fs m = pop_name_on ops m _ _ (λ n r. refl)
  act_on (op.Pat k) q pc ops hs fs m = load_on (img.pattern k) m _ _ (λ c. refl)
  act_on op.FetchK q pc ops hs fs m = pop_name_on ops m _ _ (λ n r. put_on _ _ q ops hs fs (fetch_after before n m))
  act_on op.Match q pc ops hs fs m = pop_on ops m _ _ (λ v r. pop_on r m _ _ (λ u r. begun_on false u v q r hs fs m))
  act_on op.MatchR q pc ops hs fs m = pop_on ops m _ _ (λ v r. pop_on r m _ _ (λ u r. begun_on true u v q r hs fs m))
  act_on op.Splice q pc ops hs fs m = pop_on ops m _ _ (λ v r. span_on r m _ _ (λ s b e r. pop_name_on r m _ _ (λ n r. put_none_on _ _ q r hs fs (splice_after before n s b e v m))))
  act_on op.Ret q pc ops hs fs m = pop_on ops m _ _ (λ v r. ret_on v fs m)

  fetched_on : (f : Fetched) (pc : ℕ) (ops : List Operand) (hs : List Handler) (fs : List Frame) (m : MW) → step_at img f pc ops hs fs (aft m) ≡ aft_s (step_at img f pc ops hs fs m)
  fetched_on Nowhere pc ops hs fs m = refl
  fetched_on (At i q) pc ops hs fs m = act_on i q pc ops hs fs m

  step_on : (st : State) → step img (aft_s st) ≡ aft_s (step img st)
  step_on (Run pc ops hs fs m) = fetched_on (img.fetch pc) pc ops hs fs m
  step_on (InMatch g st fs m) = event_on (s.event_of (s.pattern_step g.subject g.code st)) g (s.pattern_step g.subject g.code st) fs m
  step_on (Over e m) = refl
  step_on (Stuck m) = refl

  steps_on : (n : ℕ) (st : State) → steps img n (aft_s st) ≡ aft_s (steps img n st)
  steps_on zero st = refl
  steps_on (suc n) st = ap (steps img n) (step_on st) ∙ steps_on n (step img st)

pub runs_after : RunsAfter
runs_after m before st n = steps_on before m n st
