-- Pattern code, searched as a pattern is: by recursion in place of kept choices. The steps follow this search.
use Rattle.std.proofs.Common.{◌≡◌, ℕ, zero, suc, ◌+◌, ◌-◌, List, [], ◌∷◌, ◌++◌, length, drop, refl, sym, ◌∙◌, ap, subst, arith, ◌≤◌, Option, Some, None}
use Rattle.std.specs.Prelude.{slice_get}
use Rattle.model.specs.Pattern.Patterns.{Instr, Do, Split, Jmp, DoSucceed, DoAbort, DoFence, Open, OpenFence, CloseFence, Close, Say, AtCursor, Eval, EvalBasic, Pending, Answer, IsPattern, IsSaid, Ask, Text, Event, Running, Failed, Asks, Matched, with_answer}
use Rattle.model.specs.Pattern.BasicEnds.{ends_at}
use Rattle.model.specs.Pattern.Ends.{between}
use Rattle.model.specs.Pattern.Search.{Found, Hit, Miss, Stop, Deep, Wait, on_miss, started, over_starts}
use Rattle.model.specs.Pattern.Steps.{Won, Code, Answers, Thread, Note, Opened, Fenced, Left, Choice, Retry, Again, Quit, settled, at_place, onward, Move, Goes, Forks, Fails, Act, Moves, Aborts, Arrives, Asking, Fences, Drops, Waiting, ForPattern, ForArgument, ForSaid, ask_of, pattern_act, answered, forked, closed, fence_closed, fenced, choices_kept, at_distance, on_after, MatchState, Starting, Going, Returning, Waits, Over, go, back, after_move, after_act, pattern_step, pattern_steps, event_of}
use Rattle.model.proofs.Pattern.SearchGrows.{Grows, on_miss_grows}

-- what a search of code hands on: a question, or that it closed a fence that was open before it, with the number
-- of choices that is noted for it, and where it goes on
pub data Handed : Type 0 where
  Question : Ask ℕ → Handed
  Closed : ℕ → Thread → Answers → Handed

abbrev pub Found' : Type 0
Found' = Found Handed Code

-- where so many choices are kept
abbrev pub Next : Type 0
Next = ℕ → Thread → Answers → Found'

-- each end in turn; the last one keeps no choice
abbrev pub each : Next → ℕ → ℕ → Thread → List ℕ → Answers → Found'
each f k p t [] u = Miss u
each f k p t (e ∷ []) u = f k (onward t p e) u
each f k p t (e ∷ d ∷ es) u = on_miss (f (suc k) (onward t p e) u) (λ w. each f k p t (d ∷ es) w)

-- back to a choice
abbrev pub resume : Next → ℕ → Choice → Answers → Found'
resume f k (Retry p e es t) u = each f k p t (e ∷ es) u
resume f k (Again t) u = f k t u
resume f k Quit u = Stop

abbrev pub moving : Next → ℕ → Move → Answers → Found'
moving f k (Goes t) u = f k t u
moving f k (Forks t ch) u = on_miss (f (suc k) t u) (λ w. resume f k ch w)
moving f k Fails u = Miss u

-- goes on from where a fence was closed
abbrev pub on_closed : Found' → (Thread → Answers → Found') → Found'
on_closed (Hit e a u) g = Hit e a u
on_closed (Miss u) g = Miss u
on_closed Stop g = Stop
on_closed Deep g = Deep
on_closed (Wait (Question v)) g = Wait (Question v)
on_closed (Wait (Closed m t u)) g = g t u

abbrev pub doing : List ℕ → Next → ℕ → Act → Answers → Found'
doing s f k (Moves m) u = moving f k m u
doing s f k Aborts u = Stop
doing s f k (Arrives c a) u = Hit c a u
doing s f k (Asking w t) [] = Wait (Question (ask_of w))
doing s f k (Asking w t) (y ∷ u) = moving f k (answered s w t y) u
doing s f k (Fences t) u = on_closed (f k (fenced k t) u) (λ d w. f k d w)
doing s f k (Drops m t) u = Wait (Closed m t u)

abbrev pub run : List ℕ → ℕ → Next
run s zero k t u = Deep
run s (suc n) k t u = doing s (run s n) k (pattern_act s (at_place t) t) u

-- without the fences that are closed; of the whole code none is
abbrev pub bare : Found' → Found (Ask ℕ) Code
bare (Hit e a u) = Hit e a u
bare (Miss u) = Miss u
bare Stop = Stop
bare Deep = Deep
bare (Wait (Question v)) = Wait v
bare (Wait (Closed m t u)) = Stop

-- at a greater bound
abbrev pub NextGrows : Next → Next → Type 0
NextGrows f g = (k : ℕ) (t : Thread) (u : Answers) → Grows (f k t u) (g k t u)

pub each_grows : (f g : Next) → NextGrows f g → (k p : ℕ) (t : Thread) (es : List ℕ) (u : Answers) → Grows (each f k p t es u) (each g k p t es u)
each_grows f g h k p t [] u = refl
each_grows f g h k p t (e ∷ []) u = h k (onward t p e) u
each_grows f g h k p t (e ∷ d ∷ es) u =
    on_miss_grows (f (suc k) (onward t p e) u) (g (suc k) (onward t p e) u) (λ w. each f k p t (d ∷ es) w) (λ w. each g k p t (d ∷ es) w) (h (suc k) (onward t p e) u) (λ w. each_grows f g h k p t (d ∷ es) w)

resume_grows : (f g : Next) → NextGrows f g → (k : ℕ) (ch : Choice) (u : Answers) → Grows (resume f k ch u) (resume g k ch u)
resume_grows f g h k (Retry p e es t) u = each_grows f g h k p t (e ∷ es) u
resume_grows f g h k (Again t) u = h k t u
resume_grows f g h k Quit u = refl

moving_grows : (f g : Next) → NextGrows f g → (k : ℕ) (m : Move) (u : Answers) → Grows (moving f k m u) (moving g k m u)
moving_grows f g h k (Goes t) u = h k t u
moving_grows f g h k (Forks t ch) u = on_miss_grows (f (suc k) t u) (g (suc k) t u) (λ w. resume f k ch w) (λ w. resume g k ch w) (h (suc k) t u) (λ w. resume_grows f g h k ch w)
moving_grows f g h k Fails u = refl

pub on_closed_grows : (x y : Found') (f g : Thread → Answers → Found') → Grows x y → ((t : Thread) (u : Answers) → Grows (f t u) (g t u)) → Grows (on_closed x f) (on_closed y g)
on_closed_grows Deep y f g e h = tt
on_closed_grows (Hit c a u) y f g e h = ap (λ w. on_closed w g) e
on_closed_grows (Miss u) y f g e h = ap (λ w. on_closed w g) e
on_closed_grows Stop y f g e h = ap (λ w. on_closed w g) e
on_closed_grows (Wait (Question v)) y f g e h = ap (λ w. on_closed w g) e
on_closed_grows (Wait (Closed m t u)) y f g e h = subst (λ w. Grows (f t u) (on_closed w g)) (sym e) (h t u)

doing_grows : (s : List ℕ) (f g : Next) → NextGrows f g → (k : ℕ) (x : Act) (u : Answers) → Grows (doing s f k x u) (doing s g k x u)
doing_grows s f g h k (Moves m) u = moving_grows f g h k m u
doing_grows s f g h k Aborts u = refl
doing_grows s f g h k (Arrives c a) u = refl
doing_grows s f g h k (Asking w t) [] = refl
doing_grows s f g h k (Asking w t) (y ∷ u) = moving_grows f g h k (answered s w t y) u
doing_grows s f g h k (Fences t) u = on_closed_grows (f k (fenced k t) u) (g k (fenced k t) u) (λ d w. f k d w) (λ d w. g k d w) (h k (fenced k t) u) (λ d w. h k d w)
doing_grows s f g h k (Drops m t) u = refl

pub run_more : (s : List ℕ) (n m : ℕ) → n ≤ m → NextGrows (run s n) (run s m)
run_more s zero m le k t u = tt
run_more s (suc n) zero le k t u = absurd (omega arith)
run_more s (suc n) (suc m) le k t u = doing_grows s (run s n) (run s m) (run_more s n m (omega arith)) k (pattern_act s (at_place t) t) u

pub bare_grows : (x y : Found') → Grows x y → Grows (bare x) (bare y)
bare_grows Deep y e = tt
bare_grows (Hit c a u) y e = ap bare e
bare_grows (Miss u) y e = ap bare e
bare_grows Stop y e = ap bare e
bare_grows (Wait (Question v)) y e = ap bare e
bare_grows (Wait (Closed m t u)) y e = ap bare e

-- The numbers that FOPENs noted.
abbrev marks : List Note → List ℕ
marks [] = []
marks (Opened b ∷ notes) = marks notes
marks (Fenced k ∷ notes) = k ∷ marks notes
marks (Left code p ∷ notes) = marks notes

-- at most so many choices are noted
abbrev AreWithin : ℕ → List ℕ → Type 0
AreWithin k [] = Unit {0}
AreWithin k (m ∷ ms) = (m ≤ k) × AreWithin k ms

within_more : (k : ℕ) (ms : List ℕ) → AreWithin k ms → AreWithin (suc k) ms
within_more k [] h = tt
within_more k (m ∷ ms) h = (omega (arith, h.0), within_more k ms h.1)

by_place : (notes : List Note) (code code' : Code) (p p' c : ℕ) (a : Pending) → marks (settled notes code' p' c a).notes ≡ marks notes → (o : Option Instr) → marks ((elim o as (λ _. Thread) [ None ↦ settled notes code' p' c a | Some i ↦ record { code = code; place = p; cursor = c; notes = Left code' p' ∷ notes; pending = a } ]).notes) ≡ marks notes
by_place notes code code' p p' c a h None = h
by_place notes code code' p p' c a h (Some i) = refl

settled_marks : (notes : List Note) (code : Code) (p c : ℕ) (a : Pending) → marks (settled notes code p c a).notes ≡ marks notes
settled_marks [] code p c a = refl
settled_marks (Opened b ∷ notes) code p c a = refl
settled_marks (Fenced k ∷ notes) code p c a = refl
settled_marks (Left code' p' ∷ notes) code p c a =
    by_place notes code code' p p' c a (settled_marks notes code' p' c a) (slice_get code p)

-- what an instruction leaves noted
abbrev KeepsChoice : List ℕ → Choice → Type 0
KeepsChoice ms (Retry p e es t) = marks t.notes ≡ ms
KeepsChoice ms (Again t) = marks t.notes ≡ ms
KeepsChoice ms Quit = Unit {0}

abbrev KeepsMove : List ℕ → Move → Type 0
KeepsMove ms (Goes t) = marks t.notes ≡ ms
KeepsMove ms (Forks t ch) = (marks t.notes ≡ ms) × KeepsChoice ms ch
KeepsMove ms Fails = Unit {0}

abbrev KeepsAct : List ℕ → Act → Type 0
KeepsAct ms (Moves m) = KeepsMove ms m
KeepsAct ms Aborts = Unit {0}
KeepsAct ms (Arrives c a) = Unit {0}
KeepsAct ms (Asking w t) = marks t.notes ≡ ms
KeepsAct ms (Fences t) = marks t.notes ≡ ms
KeepsAct ms (Drops m t) = ms ≡ m ∷ marks t.notes

onward_keeps : (t : Thread) (p c : ℕ) → marks (onward t p c).notes ≡ marks t.notes
onward_keeps t p c = settled_marks t.notes t.code p c t.pending

forked_keeps : (t : Thread) (es : List ℕ) → KeepsMove (marks t.notes) (forked t es)
forked_keeps t [] = tt
forked_keeps t (e ∷ []) = onward_keeps t (t.place + 1) e
forked_keeps t (e ∷ d ∷ es) = (onward_keeps t (t.place + 1) e, refl)

closed_keeps : (notes : List Note) (f : ℕ → List Note → Act) → ((b : ℕ) (ns : List Note) → KeepsAct (marks ns) (f b ns)) → KeepsAct (marks notes) (closed notes f)
closed_keeps [] f h = tt
closed_keeps (Opened b ∷ notes) f h = h b notes
closed_keeps (Fenced k ∷ notes) f h = tt
closed_keeps (Left code p ∷ notes) f h = tt

fence_closed_keeps : (notes : List Note) (f : ℕ → List Note → Act) → ((k : ℕ) (ns : List Note) → KeepsAct (k ∷ marks ns) (f k ns)) → KeepsAct (marks notes) (fence_closed notes f)
fence_closed_keeps [] f h = tt
fence_closed_keeps (Opened b ∷ notes) f h = tt
fence_closed_keeps (Fenced k ∷ notes) f h = h k notes
fence_closed_keeps (Left code p ∷ notes) f h = tt

act_keeps : (s : List ℕ) (o : Option Instr) (t : Thread) → KeepsAct (marks t.notes) (pattern_act s o t)
act_keeps s None t = tt
act_keeps s (Some (Do k)) t = forked_keeps t (ends_at s k t.cursor)
act_keeps s (Some (Split d)) t = (onward_keeps t (t.place + 1) t.cursor, refl)
act_keeps s (Some (Jmp d)) t = onward_keeps t (at_distance t.code t.place d) t.cursor
act_keeps s (Some DoSucceed) t = (onward_keeps t (t.place + 1) t.cursor, refl)
act_keeps s (Some DoAbort) t = tt
act_keeps s (Some DoFence) t = (onward_keeps t (t.place + 1) t.cursor, tt)
act_keeps s (Some Open) t = settled_marks (Opened t.cursor ∷ t.notes) t.code (t.place + 1) t.cursor t.pending
act_keeps s (Some OpenFence) t = refl
act_keeps s (Some CloseFence) t =
    fence_closed_keeps t.notes (λ k notes. Drops k (settled notes t.code (t.place + 1) t.cursor t.pending))
    (λ k ns. ap (λ z. k ∷ z) (sym (settled_marks ns t.code (t.place + 1) t.cursor t.pending)))
act_keeps s (Some (Close x)) t =
    closed_keeps t.notes (λ b notes. Moves (Goes (settled notes t.code (t.place + 1) t.cursor (t.pending ++ (x, between s b t.cursor) ∷ []))))
    (λ b ns. settled_marks ns t.code (t.place + 1) t.cursor (t.pending ++ (x, between s b t.cursor) ∷ []))
act_keeps s (Some (Say x)) t =
    closed_keeps t.notes (λ b notes. Asking (ForSaid x (Text (between s b t.cursor))) (settled notes t.code (t.place + 1) t.cursor t.pending))
    (λ b ns. settled_marks ns t.code (t.place + 1) t.cursor t.pending)
act_keeps s (Some (AtCursor x)) t = onward_keeps t (t.place + 1) t.cursor
act_keeps s (Some (Eval x)) t = refl
act_keeps s (Some (EvalBasic k x)) t = refl

answered_keeps : (s : List ℕ) (w : Waiting) (t : Thread) (y : Answer Code) → KeepsMove (marks t.notes) (answered s w t y)
answered_keeps s (ForPattern x) t (IsPattern code) =
    settled_marks (Left t.code (on_after t.code (t.place + 1)) ∷ t.notes) code 0 t.cursor t.pending
answered_keeps s (ForPattern x) t _ = tt
answered_keeps s (ForArgument k x) t y = forked_keeps t (ends_at s (with_answer k y) t.cursor)
answered_keeps s (ForSaid x v) t IsSaid = refl
answered_keeps s (ForSaid x v) t _ = tt

-- The choices kept.
pub kept_all : (cs : List Choice) → choices_kept (length cs) cs ≡ cs
kept_all cs = let e : length cs - length cs ≡ 0 = omega arith in ap (λ n. drop n cs) e

pub kept_before : (m : ℕ) (ch : Choice) (cs : List Choice) → m ≤ length cs → choices_kept m (ch ∷ cs) ≡ choices_kept m cs
kept_before m ch cs le =
    let e : length (ch ∷ cs) - m ≡ suc (length cs - m) = omega (arith, le) in ap (λ n. drop n (ch ∷ cs)) e

-- The steps.
module _ (s : List ℕ) (code : Code) where
  -- the one state comes to the other
  pub record Comes (x y : MatchState) : Type 0 where
    pub by : (k : ℕ) → (j : ℕ) × (k ≤ j) × (pattern_steps s code j x ≡ pattern_steps s code k y)

  comes_refl : (x : MatchState) → Comes x x
  comes_refl x = record { by = λ k. (k, omega arith, refl) }

  comes_step : (x y : MatchState) → Comes (pattern_step s code x) y → Comes x y
  comes_step x y h = record { by = λ k. let a = h.by k in (suc a.0, omega (arith, a.1), a.2) }

  comes_trans : (x y z : MatchState) → Comes x y → Comes y z → Comes x z
  comes_trans x y z g h = record { by = λ k. let b = h.by k in let a = g.by b.0 in (a.0, omega (arith, a.1, b.1), a.2 ∙ b.2) }

  -- it comes to this event
  abbrev pub Ends : MatchState → Event ℕ → Type 0
  Ends x e = (j : ℕ) × (event_of (pattern_steps s code j x) ≡ e)

  ends_along : (x y : MatchState) (e : Event ℕ) → Comes x y → Ends y e → Ends x e
  ends_along x y e g h = let a = g.by h.0 in (a.0, ap event_of a.2 ∙ h.1)

  -- it is still running where n - 1 steps or more are done
  abbrev pub Lasts : ℕ → MatchState → Type 0
  Lasts zero x = Unit {0}
  Lasts (suc n) x = (j : ℕ) × (n ≤ j) × (event_of (pattern_steps s code j x) ≡ Running)

  lasts_along : (n : ℕ) (x y : MatchState) → Comes x y → Lasts n y → Lasts n x
  lasts_along zero x y g h = tt
  lasts_along (suc n) x y g h = let a = g.by h.0 in (a.0, omega (arith, a.1, h.1), ap event_of a.2 ∙ h.2)

  lasts_step : (n : ℕ) (x : MatchState) → event_of x ≡ Running → Lasts n (pattern_step s code x) → Lasts (suc n) x
  lasts_step zero x e h = (0, omega arith, e)
  lasts_step (suc n) x e h = (suc h.0, omega (arith, h.1), h.2)

  lasts_less : (n : ℕ) (x : MatchState) → Lasts (suc n) x → Lasts n x
  lasts_less zero x h = tt
  lasts_less (suc n) x h = (h.0, omega (arith, h.1), h.2)

  -- from x, with these choices and this start to go back to and these numbers noted, the steps do what was found
  abbrev pub Gives : ℕ → MatchState → List Choice → List ℕ → ℕ → ℕ → Found' → Type 0
  Gives n x cs ms b left (Hit e a u) = Ends x (Matched b e a)
  Gives n x cs ms b left (Miss u) = Comes x (back cs b left u)
  Gives n x cs ms b left Stop = Ends x Failed
  Gives n x cs ms b left Deep = Lasts n x
  Gives n x cs ms b left (Wait (Question v)) = Ends x (Asks v)
  Gives n x cs ms b left (Wait (Closed m t u)) = (ms ≡ m ∷ marks t.notes) × Comes x (go t (choices_kept m cs) b left u)

  gives_step : (n : ℕ) (x : MatchState) (cs : List Choice) (ms : List ℕ) (b left : ℕ) (r : Found') → event_of x ≡ Running → Gives n (pattern_step s code x) cs ms b left r → Gives (suc n) x cs ms b left r
  gives_step n x cs ms b left (Hit e a u) o h = (suc h.0, h.1)
  gives_step n x cs ms b left (Miss u) o h = comes_step x (back cs b left u) h
  gives_step n x cs ms b left Stop o h = (suc h.0, h.1)
  gives_step n x cs ms b left Deep o h = lasts_step n x o h
  gives_step n x cs ms b left (Wait (Question v)) o h = (suc h.0, h.1)
  gives_step n x cs ms b left (Wait (Closed m t u)) o h = (h.0, comes_step x (go t (choices_kept m cs) b left u) h.1)

  gives_along : (n : ℕ) (x y : MatchState) (cs : List Choice) (ms : List ℕ) (b left : ℕ) (r : Found') → Comes x y → Gives n y cs ms b left r → Gives n x cs ms b left r
  gives_along n x y cs ms b left (Hit e a u) g h = ends_along x y (Matched b e a) g h
  gives_along n x y cs ms b left (Miss u) g h = comes_trans x y (back cs b left u) g h
  gives_along n x y cs ms b left Stop g h = ends_along x y Failed g h
  gives_along n x y cs ms b left Deep g h = lasts_along n x y g h
  gives_along n x y cs ms b left (Wait (Question v)) g h = ends_along x y (Asks v) g h
  gives_along n x y cs ms b left (Wait (Closed m t u)) g h = (h.0, comes_trans x y (go t (choices_kept m cs) b left u) g h.1)

  gives_less : (n : ℕ) (x : MatchState) (cs : List Choice) (ms : List ℕ) (b left : ℕ) (r : Found') → Gives (suc n) x cs ms b left r → Gives n x cs ms b left r
  gives_less n x cs ms b left (Hit e a u) h = h
  gives_less n x cs ms b left (Miss u) h = h
  gives_less n x cs ms b left Stop h = h
  gives_less n x cs ms b left Deep h = lasts_less n x h
  gives_less n x cs ms b left (Wait (Question v)) h = h
  gives_less n x cs ms b left (Wait (Closed m t u)) h = h

  -- what is tried first, with the rest kept as a choice
  gives_on_miss : (n : ℕ) (x : MatchState) (ch : Choice) (cs : List Choice) (ms : List ℕ) (b left : ℕ) (r : Found') (k : Answers → Found') → AreWithin (length cs) ms → Gives n x (ch ∷ cs) ms b left r → ((u : Answers) → Gives n (Returning ch cs b left u) cs ms b left (k u)) → Gives n x cs ms b left (on_miss r k)
  gives_on_miss n x ch cs ms b left (Hit e a u) k w g h = g
  gives_on_miss n x ch cs ms b left (Miss u) k w g h = gives_along n x (Returning ch cs b left u) cs ms b left (k u) g (h u)
  gives_on_miss n x ch cs ms b left Stop k w g h = g
  gives_on_miss n x ch cs ms b left Deep k w g h = g
  gives_on_miss n x ch cs ms b left (Wait (Question v)) k w g h = g
  gives_on_miss n x ch cs ms b left (Wait (Closed m t u)) k w g h =
      let le : m ≤ length cs = (subst (AreWithin (length cs)) g.0 w).0 in
      (g.0, subst (λ z. Comes x (go t z b left u)) (kept_before m ch cs le) g.1)

  -- a fence is opened, and what it closes goes on with the choices that there were
  gives_on_closed : (n : ℕ) (x : MatchState) (cs : List Choice) (ms : List ℕ) (b left : ℕ) (r : Found') (k : Thread → Answers → Found') → Gives n x cs (length cs ∷ ms) b left r → ((t : Thread) (u : Answers) → marks t.notes ≡ ms → Gives n (go t cs b left u) cs ms b left (k t u)) → Gives n x cs ms b left (on_closed r k)
  gives_on_closed n x cs ms b left (Hit e a u) k g h = g
  gives_on_closed n x cs ms b left (Miss u) k g h = g
  gives_on_closed n x cs ms b left Stop k g h = g
  gives_on_closed n x cs ms b left Deep k g h = g
  gives_on_closed n x cs ms b left (Wait (Question v)) k g h = g
  gives_on_closed n x cs ms b left (Wait (Closed m t u)) k g h =
      let q : length cs ∷ ms ≡ m ∷ marks t.notes = g.0 in
      let first : m ≡ length cs = cc in
      let rest : marks t.notes ≡ ms = cc in
      gives_along n x (go t cs b left u) cs ms b left (k t u)
      (subst (λ z. Comes x (go t z b left u)) (kept_all cs) (subst (λ i. Comes x (go t (choices_kept i cs) b left u)) first g.1)) (h t u rest)

  -- each attempt does what the search finds at bound n
  abbrev pub Follows : ℕ → Type 0
  Follows n = (t : Thread) (cs : List Choice) (b left : ℕ) (u : Answers) → AreWithin (length cs) (marks t.notes) → Gives n (go t cs b left u) cs (marks t.notes) b left (run s n (length cs) t u)

  -- with the same numbers noted
  follow_on : (n : ℕ) → Follows n → (t : Thread) (cs : List Choice) (ms : List ℕ) (b left : ℕ) (u : Answers) → marks t.notes ≡ ms → AreWithin (length cs) ms → Gives n (go t cs b left u) cs ms b left (run s n (length cs) t u)
  follow_on n f t cs ms b left u e w =
      subst (λ z. Gives n (go t cs b left u) cs z b left (run s n (length cs) t u)) e (f t cs b left u (subst (AreWithin (length cs)) (sym e) w))

  ends_follow : (n : ℕ) → Follows n → (p e : ℕ) (es : List ℕ) (t : Thread) (cs : List Choice) (ms : List ℕ) (b left : ℕ) (u : Answers) → marks t.notes ≡ ms → AreWithin (length cs) ms → Gives (suc n) (Returning (Retry p e es t) cs b left u) cs ms b left (each (run s n) (length cs) p t (e ∷ es) u)
  ends_follow n f p e [] t cs ms b left u q w =
      gives_step n (Returning (Retry p e [] t) cs b left u) cs ms b left (run s n (length cs) (onward t p e) u) refl
      (follow_on n f (onward t p e) cs ms b left u (onward_keeps t p e ∙ q) w)
  ends_follow n f p e (d ∷ es) t cs ms b left u q w =
      gives_step n (Returning (Retry p e (d ∷ es) t) cs b left u) cs ms b left (each (run s n) (length cs) p t (e ∷ d ∷ es) u) refl
      (gives_on_miss n (go (onward t p e) (Retry p d es t ∷ cs) b left u) (Retry p d es t) cs ms b left (run s n (suc (length cs)) (onward t p e) u) (λ v. each (run s n) (length cs) p t (d ∷ es) v) w
      (follow_on n f (onward t p e) (Retry p d es t ∷ cs) ms b left u (onward_keeps t p e ∙ q) (within_more (length cs) ms w))
      (λ v. gives_less n (Returning (Retry p d es t) cs b left v) cs ms b left (each (run s n) (length cs) p t (d ∷ es) v) (ends_follow n f p d es t cs ms b left v q w)))

  -- so does an instruction that is done again
  abbrev AgainFollows : ℕ → Type 0
  AgainFollows n = (t : Thread) (cs : List Choice) (ms : List ℕ) (b left : ℕ) (u : Answers) → marks t.notes ≡ ms → AreWithin (length cs) ms → Gives n (Returning (Again t) cs b left u) cs ms b left (run s n (length cs) t u)

  resume_follows : (n : ℕ) → Follows n → AgainFollows n → (ch : Choice) (cs : List Choice) (ms : List ℕ) (b left : ℕ) (u : Answers) → KeepsChoice ms ch → AreWithin (length cs) ms → Gives n (Returning ch cs b left u) cs ms b left (resume (run s n) (length cs) ch u)
  resume_follows n f g (Retry p e es t) cs ms b left u q w =
      gives_less n (Returning (Retry p e es t) cs b left u) cs ms b left (each (run s n) (length cs) p t (e ∷ es) u) (ends_follow n f p e es t cs ms b left u q w)
  resume_follows n f g (Again t) cs ms b left u q w = g t cs ms b left u q w
  resume_follows n f g Quit cs ms b left u q w = (1, refl)

  move_follows : (n : ℕ) → Follows n → AgainFollows n → (m : Move) (cs : List Choice) (ms : List ℕ) (b left : ℕ) (u : Answers) → KeepsMove ms m → AreWithin (length cs) ms → Gives n (after_move m cs b left u) cs ms b left (moving (run s n) (length cs) m u)
  move_follows n f g (Goes t) cs ms b left u q w = follow_on n f t cs ms b left u q w
  move_follows n f g (Forks t ch) cs ms b left u q w =
      gives_on_miss n (go t (ch ∷ cs) b left u) ch cs ms b left (run s n (suc (length cs)) t u) (λ v. resume (run s n) (length cs) ch v) w
      (follow_on n f t (ch ∷ cs) ms b left u q.0 (within_more (length cs) ms w))
      (λ v. resume_follows n f g ch cs ms b left v q.1 w)
  move_follows n f g Fails cs ms b left u q w = comes_refl (back cs b left u)

  act_follows : (n : ℕ) → Follows n → AgainFollows n → (x : Act) (cs : List Choice) (ms : List ℕ) (b left : ℕ) (u : Answers) → KeepsAct ms x → AreWithin (length cs) ms → Gives n (after_act x cs b left u) cs ms b left (doing s (run s n) (length cs) x u)
  act_follows n f g (Moves m) cs ms b left u q w = move_follows n f g m cs ms b left u q w
  act_follows n f g Aborts cs ms b left u q w = (0, refl)
  act_follows n f g (Arrives c a) cs ms b left u q w = (0, refl)
  act_follows n f g (Asking v t) cs ms b left [] q w = (0, refl)
  act_follows n f g (Asking v t) cs ms b left (y ∷ u) q w =
      let r : Found' = moving (run s n) (length cs) (answered s v t y) u in
      gives_less n (Waits v t cs b left (y ∷ u)) cs ms b left r
      (gives_step n (Waits v t cs b left (y ∷ u)) cs ms b left r refl
      (move_follows n f g (answered s v t y) cs ms b left u (subst (λ z. KeepsMove z (answered s v t y)) q (answered_keeps s v t y)) w))
  act_follows n f g (Fences t) cs ms b left u q w =
      gives_on_closed n (go (fenced (length cs) t) cs b left u) cs ms b left (run s n (length cs) (fenced (length cs) t) u) (λ d v. run s n (length cs) d v)
      (follow_on n f (fenced (length cs) t) cs (length cs ∷ ms) b left u (ap (λ z. length cs ∷ z) q) (omega arith, w))
      (λ d v e. follow_on n f d cs ms b left v e w)
  act_follows n f g (Drops m t) cs ms b left u q w = (q, comes_refl (go t (choices_kept m cs) b left u))

  again_follows : (n : ℕ) → Follows n → AgainFollows n → AgainFollows (suc n)
  again_follows n f g t cs ms b left u q w =
      gives_step n (Returning (Again t) cs b left u) cs ms b left (run s (suc n) (length cs) t u) refl
      (act_follows n f g (pattern_act s (at_place t) t) cs ms b left u (subst (λ z. KeepsAct z (pattern_act s (at_place t) t)) q (act_keeps s (at_place t) t)) w)

  go_follows : (n : ℕ) → Follows n → AgainFollows n → (t : Thread) (cs : List Choice) (b left : ℕ) (u : Answers) (o : Option Instr) → at_place t ≡ o → AreWithin (length cs) (marks t.notes) → Gives (suc n) (elim o [ None ↦ Over (Won b t.cursor t.pending) | Some i ↦ Going t cs b left u ]) cs (marks t.notes) b left (run s (suc n) (length cs) t u)
  go_follows n f g t cs b left u None e w =
      subst (λ o. Gives (suc n) (Over (Won b t.cursor t.pending)) cs (marks t.notes) b left (doing s (run s n) (length cs) (pattern_act s o t) u)) (sym e) (0, refl)
  go_follows n f g t cs b left u (Some i) e w =
      gives_step n (Going t cs b left u) cs (marks t.notes) b left (run s (suc n) (length cs) t u) refl (act_follows n f g (pattern_act s (at_place t) t) cs (marks t.notes) b left u (act_keeps s (at_place t) t) w)

  both_follow : (n : ℕ) → Follows n × AgainFollows n
  both_follow zero = ((λ t cs b left u w. tt), (λ t cs ms b left u q w. tt))
  both_follow (suc n) =
      let h = both_follow n in
      ((λ t cs b left u w. go_follows n h.0 h.1 t cs b left u (at_place t) refl w), again_follows n h.0 h.1)

  -- the search of the code from its front, over the starts
  abbrev pub run_scan : ℕ → ℕ → ℕ → Answers → Event ℕ
  run_scan n left b u = over_starts (λ c w. bare (run s n 0 (settled [] code 0 c []) w)) left b u

  abbrev Tells : ℕ → MatchState → Event ℕ → Type 0
  Tells n x Running = Lasts n x
  Tells n x e = Ends x e

  tells_along : (n : ℕ) (x y : MatchState) (e : Event ℕ) → Comes x y → Tells n y e → Tells n x e
  tells_along n x y Running g h = lasts_along n x y g h
  tells_along n x y Failed g h = ends_along x y Failed g h
  tells_along n x y (Asks v) g h = ends_along x y (Asks v) g h
  tells_along n x y (Matched b e a) g h = ends_along x y (Matched b e a) g h

  none_closed : {A : Type 0} (m : ℕ) (ms : List ℕ) → [] ≡ m ∷ ms → A
  none_closed m ms e = cc

  tells_start : (n : ℕ) (x : MatchState) (b left : ℕ) (r : Found') (k : Answers → Event ℕ) → Gives n x [] [] b left r → ((u : Answers) → Tells n (back [] b left u) (k u)) → Tells n x (started b (bare r) k)
  tells_start n x b left (Hit e a u) k g h = g
  tells_start n x b left (Miss u) k g h = tells_along n x (back [] b left u) (k u) g (h u)
  tells_start n x b left Stop k g h = g
  tells_start n x b left Deep k g h = g
  tells_start n x b left (Wait (Question v)) k g h = g
  tells_start n x b left (Wait (Closed m t u)) k g h = none_closed m (marks t.notes) g.0

  -- the first attempt of a start
  start_gives : (n b left : ℕ) (u : Answers) → Gives (suc n) (Starting b left u) [] [] b left (run s n 0 (settled [] code 0 b []) u)
  start_gives n b left u =
      gives_step n (Starting b left u) [] [] b left (run s n 0 (settled [] code 0 b []) u) refl ((both_follow n).0 (settled [] code 0 b []) [] b left u tt)

  steps_tell : (n left b : ℕ) (u : Answers) → Tells (suc n) (Starting b left u) (run_scan n left b u)
  steps_tell n zero b u =
      tells_start (suc n) (Starting b zero u) b zero (run s n 0 (settled [] code 0 b []) u) (λ w. Failed) (start_gives n b zero u) (λ w. (0, refl))
  steps_tell n (suc left) b u =
      tells_start (suc n) (Starting b (suc left) u) b (suc left) (run s n 0 (settled [] code 0 b []) u) (λ w. run_scan n left (b + 1) w) (start_gives n b (suc left) u)
      (λ w. steps_tell n left (b + 1) w)

  -- a match that is over or waits stays so
  abbrev pub IsOver : Event ℕ → Type 0
  IsOver Running = ⊥
  IsOver _ = Unit {0}

  over_stays : (x : MatchState) → IsOver (event_of x) → pattern_step s code x ≡ x
  over_stays (Starting b left u) h = absurd h
  over_stays (Going t cs b left u) h = absurd h
  over_stays (Returning ch cs b left u) h = absurd h
  over_stays (Waits w t cs b left []) h = refl
  over_stays (Waits w t cs b left (y ∷ u)) h = absurd h
  over_stays (Over e) h = refl

  pub all_stays : (k : ℕ) (x : MatchState) → IsOver (event_of x) → pattern_steps s code k x ≡ x
  all_stays zero x h = refl
  all_stays (suc k) x h = ap (pattern_steps s code k) (over_stays x h) ∙ all_stays k x h

  -- what it comes to after j steps, it has come to after more
  pub later : (j i : ℕ) (x : MatchState) (e : Event ℕ) → IsOver e → j ≤ i → event_of (pattern_steps s code j x) ≡ e → event_of (pattern_steps s code i x) ≡ e
  later zero i x e o le h = ap event_of (all_stays i x (subst IsOver (sym h) o)) ∙ h
  later (suc j) zero x e o le h = absurd (omega arith)
  later (suc j) (suc i) x e o le h = later j i (pattern_step s code x) e o (omega arith) h

  pub run_from_steps : (j left b : ℕ) (u : Answers) (e : Event ℕ) → IsOver e → event_of (pattern_steps s code j (Starting b left u)) ≡ e → run_scan j left b u ≡ e
  run_from_steps j left b u e o h = same (run_scan j left b u) (steps_tell j left b u)
    where
      two : (i : ℕ) (d : Event ℕ) → IsOver d → event_of (pattern_steps s code i (Starting b left u)) ≡ d → d ≡ e
      two i d od g =
          sym (later i (i + j) (Starting b left u) d od (omega arith) g) ∙ later j (i + j) (Starting b left u) e o (omega arith) h

      same : (d : Event ℕ) → Tells (suc j) (Starting b left u) d → d ≡ e
      same Running g = absurd (subst IsOver (sym (later j g.0 (Starting b left u) e o g.1 h) ∙ g.2) o)
      same Failed g = two g.0 Failed tt g.1
      same (Asks v) g = two g.0 (Asks v) tt g.1
      same (Matched p q a) g = two g.0 (Matched p q a) tt g.1

  tells_ends : (n : ℕ) (x : MatchState) (e : Event ℕ) → IsOver e → Tells n x e → Ends x e
  tells_ends n x Running o h = absurd o
  tells_ends n x Failed o h = h
  tells_ends n x (Asks v) o h = h
  tells_ends n x (Matched b e a) o h = h

  pub steps_from_run : (n left b : ℕ) (u : Answers) (e : Event ℕ) → IsOver e → run_scan n left b u ≡ e → Ends (Starting b left u) e
  steps_from_run n left b u e o h =
      tells_ends (suc n) (Starting b left u) e o (subst (Tells (suc n) (Starting b left u)) h (steps_tell n left b u))
