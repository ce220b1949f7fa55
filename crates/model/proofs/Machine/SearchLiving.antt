-- Each step of a match keeps the numbers of objects that it holds marked.
use Rattle.std.proofs.Common.{ℕ, zero, suc, ◌+◌, ◌-◌, length, Bool, List, [], ◌∷◌, Option, Some, None, slice_get}
use Rattle.model.specs.Pattern.Patterns.{Instr, Do, Split, Jmp, DoSucceed, DoAbort, DoFence, Open, OpenFence, CloseFence, Close, Say, AtCursor, Eval, EvalBasic, Pending, Answer, IsPattern, IsSaid, with_answer}
use Rattle.model.specs.Pattern.BasicEnds.{ends_at}
use Rattle.model.specs.Pattern.Ends.{between}
use Rattle.model.specs.Pattern.Steps.{Won, Code, Answers, Thread, Note, Opened, Fenced, Left, Choice, Retry, Again, Quit, at_place, on_after, at_distance, Move, Goes, Forks, Fails, Act, Moves, Aborts, Arrives, Asking, Fences, Drops, Waiting, ForPattern, ForArgument, ForSaid, pattern_act, answered, closed, fence_closed, fenced, choices_kept, forked, onward, settled, MatchState, Starting, Going, Returning, Waits, Over, Lost, go, back, after_move, after_act, after_return, pattern_step, with_more}
use Rattle.model.specs.Machine.Living.{NameLives, InstrLives, CodeLives, AnswerLives, AnswersLive, NotesLive, PendingLives, ThreadLives, ChoiceLives, ChoicesLive, WaitingLives, SearchLives}
use Rattle.model.proofs.Machine.Lists.{IfThere, item_in, join_in, drop_in}

module _ (n : ℕ → Bool) where
  -- ---- places of code

  at_instruction : (notes : List Note) (code code' : Code) (p p' c : ℕ) (a : Pending) → CodeLives n code → CodeLives n code' → NotesLive n notes → PendingLives n a → ThreadLives n (settled notes code' p' c a)
      → (o : Option Instr) → ThreadLives n (elim o as (λ _. Thread) [ None ↦ settled notes code' p' c a | Some i ↦ record { code = code; place = p; cursor = c; notes = Left code' p' ∷ notes; pending = a } ])
  at_instruction notes code code' p p' c a h k ns ps t None = t
  at_instruction notes code code' p p' c a h k ns ps t (Some i) = (h, (k, ns), ps)

  settled_lives : (notes : List Note) (code : Code) (p c : ℕ) (a : Pending) → CodeLives n code → NotesLive n notes → PendingLives n a → ThreadLives n (settled notes code p c a)
  settled_lives [] code p c a h ns ps = (h, tt, ps)
  settled_lives (Opened b ∷ notes) code p c a h ns ps = (h, ns, ps)
  settled_lives (Fenced k ∷ notes) code p c a h ns ps = (h, ns, ps)
  settled_lives (Left code' p' ∷ notes) code p c a h ns ps = at_instruction notes code code' p p' c a h ns.0 ns.1 ps (settled_lives notes code' p' c a ns.0 ns.1 ps) (slice_get code p)

  onward_lives : (t : Thread) (p c : ℕ) → ThreadLives n t → ThreadLives n (onward t p c)
  onward_lives t p c h = settled_lives t.notes t.code p c t.pending h.0 h.1 h.2

  -- ---- instructions and answers

  abbrev MoveLives : Move → Type 0
  MoveLives (Goes t) = ThreadLives n t
  MoveLives (Forks t ch) = ThreadLives n t × ChoiceLives n ch
  MoveLives Fails = Unit {0}

  abbrev ActLives : Act → Type 0
  ActLives (Moves m) = MoveLives m
  ActLives Aborts = Unit {0}
  ActLives (Arrives c a) = PendingLives n a
  ActLives (Asking w t) = WaitingLives n w × ThreadLives n t
  ActLives (Fences t) = ThreadLives n t
  ActLives (Drops k t) = ThreadLives n t

  forked_lives : (t : Thread) (es : List ℕ) → ThreadLives n t → MoveLives (forked t es)
  forked_lives t [] h = tt
  forked_lives t (e ∷ []) h = onward_lives t (t.place + 1) e h
  forked_lives t (e ∷ f ∷ es) h = (onward_lives t (t.place + 1) e h, h)

  closed_lives : (notes : List Note) (k : ℕ → List Note → Act) → NotesLive n notes → ((b : ℕ) (rest : List Note) → NotesLive n rest → ActLives (k b rest)) → ActLives (closed notes k)
  closed_lives [] k ns h = tt
  closed_lives (Opened b ∷ notes) k ns h = h b notes ns.1
  closed_lives (Fenced m ∷ notes) k ns h = tt
  closed_lives (Left code p ∷ notes) k ns h = tt

  fence_closed_lives : (notes : List Note) (f : ℕ → List Note → Act) → NotesLive n notes → ((k : ℕ) (rest : List Note) → NotesLive n rest → ActLives (f k rest)) → ActLives (fence_closed notes f)
  fence_closed_lives [] f ns h = tt
  fence_closed_lives (Opened b ∷ notes) f ns h = tt
  fence_closed_lives (Fenced k ∷ notes) f ns h = h k notes ns.1
  fence_closed_lives (Left code p ∷ notes) f ns h = tt

  act_lives : (s : List ℕ) (o : Option Instr) (t : Thread) → IfThere (InstrLives n) o → ThreadLives n t → ActLives (pattern_act s o t)
  act_lives s None t k h = h.2
  act_lives s (Some (Do b)) t k h = forked_lives t (ends_at s b t.cursor) h
  act_lives s (Some (Split d)) t k h = (onward_lives t (t.place + 1) t.cursor h, h)
  act_lives s (Some (Jmp d)) t k h = onward_lives t (at_distance t.code t.place d) t.cursor h
  act_lives s (Some DoSucceed) t k h = (onward_lives t (t.place + 1) t.cursor h, h)
  act_lives s (Some DoAbort) t k h = tt
  act_lives s (Some DoFence) t k h = (onward_lives t (t.place + 1) t.cursor h, tt)
  act_lives s (Some Open) t k h = settled_lives (Opened t.cursor ∷ t.notes) t.code (t.place + 1) t.cursor t.pending h.0 (tt, h.1) h.2
  act_lives s (Some OpenFence) t k h = h
  act_lives s (Some CloseFence) t k h = fence_closed_lives t.notes _ h.1 (λ m rest ns. settled_lives rest t.code (t.place + 1) t.cursor t.pending h.0 ns h.2)
  act_lives s (Some (Close x)) t k h = closed_lives t.notes _ h.1 (λ b rest ns. settled_lives rest t.code (t.place + 1) t.cursor _ h.0 ns (join_in (λ y. NameLives n y.0) t.pending ((x, between s b t.cursor) ∷ []) h.2 (k, tt)))
  act_lives s (Some (Say x)) t k h = closed_lives t.notes _ h.1 (λ b rest ns. (k, settled_lives rest t.code (t.place + 1) t.cursor t.pending h.0 ns h.2))
  act_lives s (Some (AtCursor x)) t k h = (k, onward_lives t (t.place + 1) t.cursor h)
  act_lives s (Some (Eval x)) t k h = (tt, h)
  act_lives s (Some (EvalBasic kind x)) t k h = (tt, h)

  answered_lives : (s : List ℕ) (w : Waiting) (t : Thread) (y : Answer Code) → ThreadLives n t → AnswerLives n y → MoveLives (answered s w t y)
  answered_lives s (ForPattern x) t (IsPattern c) h k = settled_lives (Left t.code (on_after t.code (t.place + 1)) ∷ t.notes) c 0 t.cursor t.pending k (h.0, h.1) h.2
  answered_lives s (ForPattern x) t y h k = tt
  answered_lives s (ForArgument kind x) t y h k = forked_lives t (ends_at s (with_answer kind y) t.cursor) h
  answered_lives s (ForSaid x v) t IsSaid h k = h
  answered_lives s (ForSaid x v) t y h k = tt

  -- ---- steps

  go_at : (o : Option Instr) (t : Thread) (cs : List Choice) (b left : ℕ) (u : Answers) → ThreadLives n t → ChoicesLive n cs → AnswersLive n u → SearchLives n (elim o as (λ _. MatchState) [ None ↦ Over (Won b t.cursor t.pending) | Some i ↦ Going t cs b left u ])
  go_at None t cs b left u h k a = h.2
  go_at (Some i) t cs b left u h k a = (h, k, a)

  go_lives : (t : Thread) (cs : List Choice) (b left : ℕ) (u : Answers) → ThreadLives n t → ChoicesLive n cs → AnswersLive n u → SearchLives n (go t cs b left u)
  go_lives t cs b left u h k a = go_at (at_place t) t cs b left u h k a

  back_lives : (cs : List Choice) (b left : ℕ) (u : Answers) → ChoicesLive n cs → AnswersLive n u → SearchLives n (back cs b left u)
  back_lives (ch ∷ cs) b left u k a = (k.0, k.1, a)
  back_lives [] b (suc left) u k a = a
  back_lives [] b zero u k a = tt

  move_lives : (m : Move) (cs : List Choice) (b left : ℕ) (u : Answers) → MoveLives m → ChoicesLive n cs → AnswersLive n u → SearchLives n (after_move m cs b left u)
  move_lives (Goes t) cs b left u h k a = go_lives t cs b left u h k a
  move_lives (Forks t ch) cs b left u h k a = go_lives t (ch ∷ cs) b left u h.0 (h.1, k) a
  move_lives Fails cs b left u h k a = back_lives cs b left u k a

  after_lives : (x : Act) (cs : List Choice) (b left : ℕ) (u : Answers) → ActLives x → ChoicesLive n cs → AnswersLive n u → SearchLives n (after_act x cs b left u)
  after_lives (Moves m) cs b left u h k a = move_lives m cs b left u h k a
  after_lives Aborts cs b left u h k a = tt
  after_lives (Arrives c p) cs b left u h k a = h
  after_lives (Asking w t) cs b left u h k a = (h.0, h.1, k, a)
  after_lives (Fences t) cs b left u h k a =
      go_lives (fenced (length cs) t) cs b left u (settled_lives (Fenced (length cs) ∷ t.notes) t.code (t.place + 1) t.cursor t.pending h.0 (tt, h.1) h.2) k a
  after_lives (Drops m t) cs b left u h k a = go_lives t (choices_kept m cs) b left u h (drop_in (ChoiceLives n) (length cs - m) cs k) a

  doing_lives : (s : List ℕ) (t : Thread) (cs : List Choice) (b left : ℕ) (u : Answers) → ThreadLives n t → ChoicesLive n cs → AnswersLive n u → SearchLives n (after_act (pattern_act s (at_place t) t) cs b left u)
  doing_lives s t cs b left u h k a = after_lives (pattern_act s (at_place t) t) cs b left u (act_lives s (at_place t) t (item_in (InstrLives n) t.code t.place h.0) h) k a

  return_lives : (s : List ℕ) (ch : Choice) (cs : List Choice) (b left : ℕ) (u : Answers) → ChoiceLives n ch → ChoicesLive n cs → AnswersLive n u → SearchLives n (after_return s ch cs b left u)
  return_lives s (Retry p e [] t) cs b left u h k a = go_lives (onward t p e) cs b left u (onward_lives t p e h) k a
  return_lives s (Retry p e (f ∷ es) t) cs b left u h k a = go_lives (onward t p e) (Retry p f es t ∷ cs) b left u (onward_lives t p e h) (h, k) a
  return_lives s (Again t) cs b left u h k a = doing_lives s t cs b left u h k a
  return_lives s Quit cs b left u h k a = tt

  pub search_lives : (s : List ℕ) (code : Code) (st : MatchState) → CodeLives n code → SearchLives n st → SearchLives n (pattern_step s code st)
  search_lives s code (Starting b left u) h k = go_lives (settled [] code 0 b []) [] b left u (settled_lives [] code 0 b [] h tt tt) tt k
  search_lives s code (Going t cs b left u) h k = doing_lives s t cs b left u k.0 k.1 k.2
  search_lives s code (Returning ch cs b left u) h k = return_lives s ch cs b left u k.0 k.1 k.2
  search_lives s code (Waits w t cs b left []) h k = k
  search_lives s code (Waits w t cs b left (y ∷ u)) h k = move_lives (answered s w t y) cs b left u (answered_lives s w t y k.1 k.3.0) k.2 k.3.1
  search_lives s code (Over (Won b e a)) h k = k
  search_lives s code (Over Lost) h k = tt

  pub supplied_lives : (y : Answer Code) (st : MatchState) → AnswerLives n y → SearchLives n st → SearchLives n (with_more (y ∷ []) st)
  supplied_lives y (Starting b left u) h k = join_in (AnswerLives n) u (y ∷ []) k (h, tt)
  supplied_lives y (Going t cs b left u) h k = (k.0, k.1, join_in (AnswerLives n) u (y ∷ []) k.2 (h, tt))
  supplied_lives y (Returning ch cs b left u) h k = (k.0, k.1, join_in (AnswerLives n) u (y ∷ []) k.2 (h, tt))
  supplied_lives y (Waits w t cs b left u) h k = (k.0, k.1, k.2, join_in (AnswerLives n) u (y ∷ []) k.3 (h, tt))
  supplied_lives y (Over (Won b e a)) h k = k
  supplied_lives y (Over Lost) h k = k
