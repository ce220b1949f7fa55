-- Each step of a match keeps expressions in range.
use Rattle.std.proofs.Common.{◌≡◌, ◌<◌, ℕ, zero, suc, ◌+◌, ◌-◌, length, drop, List, [], ◌∷◌, Option, Some, None, slice_get, subst}
use Rattle.model.specs.Pattern.Patterns.{Instr, Do, Split, Jmp, DoSucceed, DoAbort, DoFence, Open, OpenFence, CloseFence, Close, Say, AtCursor, Eval, EvalBasic, Pending, Answer, IsPattern, IsSaid, Want, AskFor, Asks, with_answer}
use Rattle.model.specs.Pattern.BasicEnds.{ends_at}
use Rattle.model.specs.Pattern.Steps.{Won, Lost, Code, Answers, Thread, Note, Opened, Fenced, Left, Choice, Retry, Again, Quit, at_place, on_after, at_distance, Move, Goes, Forks, Fails, Act, Moves, Aborts, Arrives, Asking, Fences, Drops, Waiting, ForPattern, ForArgument, ForSaid, pattern_act, answered, closed, fence_closed, fenced, choices_kept, forked, onward, settled, MatchState, Starting, Going, Returning, Waits, Over, go, back, after_move, after_act, after_return, pattern_step, pattern_steps, event_of, with_more}
use Rattle.model.specs.Machine.InRange.{InstrIn, CodeIn, AnswerIn, AnswersIn, NotesIn, ThreadIn, ChoiceIn, ChoicesIn, WaitingIn, SearchIn, EventIn}
use Rattle.model.proofs.Machine.Lists.{IfThere, item_in, join_in}

module _ (n : ℕ) where
  -- ---- places of code

  at_instruction : (notes : List Note) (code code' : Code) (p p' c : ℕ) (a : Pending) → CodeIn n code → CodeIn n code' → NotesIn n notes → ThreadIn n (settled notes code' p' c a)
      → (o : Option Instr) → ThreadIn n (elim o as (λ _. Thread) [ None ↦ settled notes code' p' c a | Some i ↦ record { code = code; place = p; cursor = c; notes = Left code' p' ∷ notes; pending = a } ])
  at_instruction notes code code' p p' c a h k ns t None = t
  at_instruction notes code code' p p' c a h k ns t (Some i) = (h, (k, ns))

  settled_in : (notes : List Note) (code : Code) (p c : ℕ) (a : Pending) → CodeIn n code → NotesIn n notes → ThreadIn n (settled notes code p c a)
  settled_in [] code p c a h ns = (h, tt)
  settled_in (Opened b ∷ notes) code p c a h ns = (h, ns)
  settled_in (Fenced k ∷ notes) code p c a h ns = (h, ns)
  settled_in (Left code' p' ∷ notes) code p c a h ns = at_instruction notes code code' p p' c a h ns.0 ns.1 (settled_in notes code' p' c a ns.0 ns.1) (slice_get code p)

  onward_in : (t : Thread) (p c : ℕ) → ThreadIn n t → ThreadIn n (onward t p c)
  onward_in t p c h = settled_in t.notes t.code p c t.pending h.0 h.1

  -- ---- instructions and answers

  abbrev MoveIn : Move → Type 0
  MoveIn (Goes t) = ThreadIn n t
  MoveIn (Forks t ch) = ThreadIn n t × ChoiceIn n ch
  MoveIn Fails = Unit {0}

  abbrev ActIn : Act → Type 0
  ActIn (Moves m) = MoveIn m
  ActIn Aborts = Unit {0}
  ActIn (Arrives c a) = Unit {0}
  ActIn (Asking w t) = WaitingIn n w × ThreadIn n t
  ActIn (Fences t) = ThreadIn n t
  ActIn (Drops k t) = ThreadIn n t

  forked_in : (t : Thread) (es : List ℕ) → ThreadIn n t → MoveIn (forked t es)
  forked_in t [] h = tt
  forked_in t (e ∷ []) h = onward_in t (t.place + 1) e h
  forked_in t (e ∷ f ∷ es) h = (onward_in t (t.place + 1) e h, h)

  closed_in : (notes : List Note) (k : ℕ → List Note → Act) → NotesIn n notes → ((b : ℕ) (rest : List Note) → NotesIn n rest → ActIn (k b rest)) → ActIn (closed notes k)
  closed_in [] k ns h = tt
  closed_in (Opened b ∷ notes) k ns h = h b notes ns.1
  closed_in (Fenced m ∷ notes) k ns h = tt
  closed_in (Left code p ∷ notes) k ns h = tt

  fence_closed_in : (notes : List Note) (f : ℕ → List Note → Act) → NotesIn n notes → ((k : ℕ) (rest : List Note) → NotesIn n rest → ActIn (f k rest)) → ActIn (fence_closed notes f)
  fence_closed_in [] f ns h = tt
  fence_closed_in (Opened b ∷ notes) f ns h = tt
  fence_closed_in (Fenced k ∷ notes) f ns h = h k notes ns.1
  fence_closed_in (Left code p ∷ notes) f ns h = tt

  act_in : (s : List ℕ) (o : Option Instr) (t : Thread) → IfThere (InstrIn n) o → ThreadIn n t → ActIn (pattern_act s o t)
  act_in s None t k h = tt
  act_in s (Some (Do b)) t k h = forked_in t (ends_at s b t.cursor) h
  act_in s (Some (Split d)) t k h = (onward_in t (t.place + 1) t.cursor h, h)
  act_in s (Some (Jmp d)) t k h = onward_in t (at_distance t.code t.place d) t.cursor h
  act_in s (Some DoSucceed) t k h = (onward_in t (t.place + 1) t.cursor h, h)
  act_in s (Some DoAbort) t k h = tt
  act_in s (Some DoFence) t k h = (onward_in t (t.place + 1) t.cursor h, tt)
  act_in s (Some Open) t k h = settled_in (Opened t.cursor ∷ t.notes) t.code (t.place + 1) t.cursor t.pending h.0 (tt, h.1)
  act_in s (Some OpenFence) t k h = h
  act_in s (Some CloseFence) t k h = fence_closed_in t.notes _ h.1 (λ m rest ns. settled_in rest t.code (t.place + 1) t.cursor t.pending h.0 ns)
  act_in s (Some (Close x)) t k h = closed_in t.notes _ h.1 (λ b rest ns. settled_in rest t.code (t.place + 1) t.cursor _ h.0 ns)
  act_in s (Some (Say x)) t k h = closed_in t.notes _ h.1 (λ b rest ns. (tt, settled_in rest t.code (t.place + 1) t.cursor t.pending h.0 ns))
  act_in s (Some (AtCursor x)) t k h = (tt, onward_in t (t.place + 1) t.cursor h)
  act_in s (Some (Eval x)) t k h = (k, h)
  act_in s (Some (EvalBasic kind x)) t k h = (k, h)

  answered_in : (s : List ℕ) (w : Waiting) (t : Thread) (y : Answer Code) → ThreadIn n t → AnswerIn n y → MoveIn (answered s w t y)
  answered_in s (ForPattern x) t (IsPattern c) h k = settled_in (Left t.code (on_after t.code (t.place + 1)) ∷ t.notes) c 0 t.cursor t.pending k (h.0, h.1)
  answered_in s (ForPattern x) t y h k = tt
  answered_in s (ForArgument kind x) t y h k = forked_in t (ends_at s (with_answer kind y) t.cursor) h
  answered_in s (ForSaid x v) t IsSaid h k = h
  answered_in s (ForSaid x v) t y h k = tt

  -- ---- steps

  go_at : (o : Option Instr) (t : Thread) (cs : List Choice) (b left : ℕ) (u : Answers) → ThreadIn n t → ChoicesIn n cs → AnswersIn n u → SearchIn n (elim o as (λ _. MatchState) [ None ↦ Over (Won b t.cursor t.pending) | Some i ↦ Going t cs b left u ])
  go_at None t cs b left u h k a = tt
  go_at (Some i) t cs b left u h k a = (h, k, a)

  go_in : (t : Thread) (cs : List Choice) (b left : ℕ) (u : Answers) → ThreadIn n t → ChoicesIn n cs → AnswersIn n u → SearchIn n (go t cs b left u)
  go_in t cs b left u h k a = go_at (at_place t) t cs b left u h k a

  back_in : (cs : List Choice) (b left : ℕ) (u : Answers) → ChoicesIn n cs → AnswersIn n u → SearchIn n (back cs b left u)
  back_in (ch ∷ cs) b left u k a = (k.0, k.1, a)
  back_in [] b (suc left) u k a = a
  back_in [] b zero u k a = tt

  move_in : (m : Move) (cs : List Choice) (b left : ℕ) (u : Answers) → MoveIn m → ChoicesIn n cs → AnswersIn n u → SearchIn n (after_move m cs b left u)
  move_in (Goes t) cs b left u h k a = go_in t cs b left u h k a
  move_in (Forks t ch) cs b left u h k a = go_in t (ch ∷ cs) b left u h.0 (h.1, k) a
  move_in Fails cs b left u h k a = back_in cs b left u k a

  drop_in : (m : ℕ) (cs : List Choice) → ChoicesIn n cs → ChoicesIn n (drop m cs)
  drop_in zero cs k = k
  drop_in (suc m) [] k = tt
  drop_in (suc m) (ch ∷ cs) k = drop_in m cs k.1

  after_in : (x : Act) (cs : List Choice) (b left : ℕ) (u : Answers) → ActIn x → ChoicesIn n cs → AnswersIn n u → SearchIn n (after_act x cs b left u)
  after_in (Moves m) cs b left u h k a = move_in m cs b left u h k a
  after_in Aborts cs b left u h k a = tt
  after_in (Arrives c p) cs b left u h k a = tt
  after_in (Asking w t) cs b left u h k a = (h.0, h.1, k, a)
  after_in (Fences t) cs b left u h k a =
      go_in (fenced (length cs) t) cs b left u (settled_in (Fenced (length cs) ∷ t.notes) t.code (t.place + 1) t.cursor t.pending h.0 (tt, h.1)) k a
  after_in (Drops m t) cs b left u h k a = go_in t (choices_kept m cs) b left u h (drop_in (length cs - m) cs k) a

  doing_in : (s : List ℕ) (t : Thread) (cs : List Choice) (b left : ℕ) (u : Answers) → ThreadIn n t → ChoicesIn n cs → AnswersIn n u → SearchIn n (after_act (pattern_act s (at_place t) t) cs b left u)
  doing_in s t cs b left u h k a = after_in (pattern_act s (at_place t) t) cs b left u (act_in s (at_place t) t (item_in (InstrIn n) t.code t.place h.0) h) k a

  return_in : (s : List ℕ) (ch : Choice) (cs : List Choice) (b left : ℕ) (u : Answers) → ChoiceIn n ch → ChoicesIn n cs → AnswersIn n u → SearchIn n (after_return s ch cs b left u)
  return_in s (Retry p e [] t) cs b left u h k a = go_in (onward t p e) cs b left u (onward_in t p e h) k a
  return_in s (Retry p e (f ∷ es) t) cs b left u h k a = go_in (onward t p e) (Retry p f es t ∷ cs) b left u (onward_in t p e h) (h, k) a
  return_in s (Again t) cs b left u h k a = doing_in s t cs b left u h k a
  return_in s Quit cs b left u h k a = tt

  pub search_in : (s : List ℕ) (code : Code) (st : MatchState) → CodeIn n code → SearchIn n st → SearchIn n (pattern_step s code st)
  search_in s code (Starting b left u) h k = go_in (settled [] code 0 b []) [] b left u (settled_in [] code 0 b [] h tt) tt k
  search_in s code (Going t cs b left u) h k = doing_in s t cs b left u k.0 k.1 k.2
  search_in s code (Returning ch cs b left u) h k = return_in s ch cs b left u k.0 k.1 k.2
  search_in s code (Waits w t cs b left []) h k = k
  search_in s code (Waits w t cs b left (y ∷ u)) h k = move_in (answered s w t y) cs b left u (answered_in s w t y k.1 k.3.0) k.2 k.3.1
  search_in s code (Over e) h k = tt

  pub searches_in : (s : List ℕ) (code : Code) (m : ℕ) (st : MatchState) → CodeIn n code → SearchIn n st → SearchIn n (pattern_steps s code m st)
  searches_in s code zero st h k = k
  searches_in s code (suc m) st h k = searches_in s code m (pattern_step s code st) h (search_in s code st h k)

  -- ---- events and answers

  event_in : (st : MatchState) → SearchIn n st → EventIn n (event_of st)
  event_in (Starting b left u) k = tt
  event_in (Going t cs b left u) k = tt
  event_in (Returning ch cs b left u) k = tt
  event_in (Waits (ForPattern x) t cs b left []) k = k.0
  event_in (Waits (ForArgument kind x) t cs b left []) k = k.0
  event_in (Waits (ForSaid x v) t cs b left []) k = tt
  event_in (Waits w t cs b left (y ∷ u)) k = tt
  event_in (Over Lost) k = tt
  event_in (Over (Won b e a)) k = tt

  pub asked_in : (st : MatchState) → SearchIn n st → (k : ℕ) (want : Want) → event_of st ≡ Asks (AskFor k want) → k < n
  asked_in st h k want e = subst (EventIn n) e (event_in st h)

  pub supplied_in : (y : Answer Code) (st : MatchState) → AnswerIn n y → SearchIn n st → SearchIn n (with_more (y ∷ []) st)
  supplied_in y (Starting b left u) h k = join_in (AnswerIn n) u (y ∷ []) k (h, tt)
  supplied_in y (Going t cs b left u) h k = (k.0, k.1, join_in (AnswerIn n) u (y ∷ []) k.2 (h, tt))
  supplied_in y (Returning ch cs b left u) h k = (k.0, k.1, join_in (AnswerIn n) u (y ∷ []) k.2 (h, tt))
  supplied_in y (Waits w t cs b left u) h k = (k.0, k.1, k.2, join_in (AnswerIn n) u (y ∷ []) k.3 (h, tt))
  supplied_in y (Over e) h k = tt
