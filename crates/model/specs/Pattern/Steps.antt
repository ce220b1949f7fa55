-- The steps of pattern code on a subject, under the answers given so far.
use Rattle.std.specs.Prelude.{◌<◌, ◌≤◌, ℕ, ℤ, pos, negsuc, zero, suc, ◌+◌, ◌-◌, List, [], ◌∷◌, ◌++◌, Option, Some, None, slice_get, length, min, drop}
use Rattle.model.specs.Pattern.Patterns.{Instr, Do, Split, Jmp, DoSucceed, DoAbort, DoFence, Open, OpenFence, CloseFence, Close, Say, AtCursor, Eval, EvalBasic, Kind, Pending, Answer, IsPattern, IsSaid, Ask, AskFor, SayThat, Told, Text, Number, WantPattern, Event, Running, Failed, Asks, Matched, want_of_kind, with_answer}
use Rattle.model.specs.Pattern.BasicEnds.{ends_at}
use Rattle.model.specs.Pattern.Ends.{between}
use Rattle.model.specs.Deck.Target.{Name}

abbrev pub Code : Type 0
Code = List Instr

abbrev pub Answers : Type 0
Answers = List (Answer Code)

-- a cursor that OPEN noted, the number of choices that FOPEN noted, or where the code that EVAL left goes on
pub data Note : Type 0 where
  Opened Fenced : ℕ → Note
  Left : Code → ℕ → Note

-- where one attempt stands
pub record Thread : Type 0 where
  pub code : Code
  pub place : ℕ
  pub cursor : ℕ
  pub notes : List Note
  pub pending : Pending

-- what is kept to go back to: on at a place from the first of several ends, an instruction to be done
-- again, or the end of the match
pub data Choice : Type 0 where
  Retry : (place end : ℕ) (more : List ℕ) → Thread → Choice
  Again : Thread → Choice
  Quit : Choice

-- the place at a distance; a distance that leads out of the code leads to its front or its end
abbrev pub off_by : ℕ → ℤ → ℕ
off_by p (pos d) = p + d
off_by p (negsuc d) = p - suc d

abbrev pub at_distance : Code → ℕ → ℤ → ℕ
at_distance code p d = min (off_by p d) (length code)

-- at the end of an entered pattern's code, on after its EVAL
abbrev pub settled : List Note → Code → ℕ → ℕ → Pending → Thread
settled [] code p c a = record { code = code; place = p; cursor = c; notes = []; pending = a }
settled (Opened b ∷ notes) code p c a =
    record { code = code; place = p; cursor = c; notes = Opened b ∷ notes; pending = a }
settled (Fenced k ∷ notes) code p c a =
    record { code = code; place = p; cursor = c; notes = Fenced k ∷ notes; pending = a }
settled (Left code' p' ∷ notes) code p c a =
    elim (slice_get code p) [
      | None ↦ settled notes code' p' c a
      | Some i ↦ record { code = code; place = p; cursor = c; notes = Left code' p' ∷ notes; pending = a }
    ]

abbrev pub at_place : Thread → Option Instr
at_place t = slice_get t.code t.place

-- on at a place and a cursor
abbrev pub onward : Thread → ℕ → ℕ → Thread
onward t p c = settled t.notes t.code p c t.pending

-- what an instruction or an answer does: it goes on, goes on and keeps a choice, or fails
pub data Move : Type 0 where
  Goes : Thread → Move
  Forks : Thread → Choice → Move
  Fails : Move

-- what an answer is awaited for
pub data Waiting : Type 0 where
  ForPattern : ℕ → Waiting
  ForArgument : Kind → ℕ → Waiting
  ForSaid : Name → Told → Waiting

pub data Act : Type 0 where
  Moves : Move → Act
  Aborts : Act
  Arrives : ℕ → Pending → Act
  Asking : Waiting → Thread → Act
  -- FOPEN, and on after FCLOSE with the choices that its FOPEN noted
  Fences : Thread → Act
  Drops : ℕ → Thread → Act

abbrev pub ask_of : Waiting → Ask ℕ
ask_of (ForPattern x) = AskFor x WantPattern
ask_of (ForArgument k x) = AskFor x (want_of_kind k)
ask_of (ForSaid x v) = SayThat x v

-- on after the instruction, at the first of its ends
abbrev pub forked : Thread → List ℕ → Move
forked t [] = Fails
forked t (e ∷ []) = Goes (onward t (t.place + 1) e)
forked t (e ∷ f ∷ es) = Forks (onward t (t.place + 1) e) (Retry (t.place + 1) f es t)

-- after OPEN's note is taken off
abbrev pub closed : List Note → (ℕ → List Note → Act) → Act
closed (Opened b ∷ notes) k = k b notes
closed _ k = Moves Fails

-- after FOPEN's note is taken off
abbrev pub fence_closed : List Note → (ℕ → List Note → Act) → Act
fence_closed (Fenced k ∷ notes) f = f k notes
fence_closed _ f = Moves Fails

-- on after FOPEN, which notes that there are k choices
abbrev pub fenced : ℕ → Thread → Thread
fenced k t = settled (Fenced k ∷ t.notes) t.code (t.place + 1) t.cursor t.pending

-- one instruction, or the end of the code
abbrev pub pattern_act : List ℕ → Option Instr → Thread → Act
pattern_act s None t = Arrives t.cursor t.pending
pattern_act s (Some (Do k)) t = Moves (forked t (ends_at s k t.cursor))
pattern_act s (Some (Split d)) t =
    Moves (Forks (onward t (t.place + 1) t.cursor) (Retry (at_distance t.code t.place d) t.cursor [] t))
pattern_act s (Some (Jmp d)) t = Moves (Goes (onward t (at_distance t.code t.place d) t.cursor))
pattern_act s (Some DoSucceed) t = Moves (Forks (onward t (t.place + 1) t.cursor) (Again t))
pattern_act s (Some DoAbort) t = Aborts
pattern_act s (Some DoFence) t = Moves (Forks (onward t (t.place + 1) t.cursor) Quit)
pattern_act s (Some Open) t = Moves (Goes (settled (Opened t.cursor ∷ t.notes) t.code (t.place + 1) t.cursor t.pending))
pattern_act s (Some (Close x)) t =
    closed t.notes (λ b notes. Moves (Goes (settled notes t.code (t.place + 1) t.cursor (t.pending ++ (x, between s b t.cursor) ∷ []))))
pattern_act s (Some (Say x)) t =
    closed t.notes (λ b notes. Asking (ForSaid x (Text (between s b t.cursor))) (settled notes t.code (t.place + 1) t.cursor t.pending))
pattern_act s (Some OpenFence) t = Fences t
pattern_act s (Some CloseFence) t =
    fence_closed t.notes (λ k notes. Drops k (settled notes t.code (t.place + 1) t.cursor t.pending))
pattern_act s (Some (AtCursor x)) t = Asking (ForSaid x (Number t.cursor)) (onward t (t.place + 1) t.cursor)
pattern_act s (Some (Eval x)) t = Asking (ForPattern x) t
pattern_act s (Some (EvalBasic k x)) t = Asking (ForArgument k x) t

-- the place to go on at after an entered pattern: where the JMP at p leads, if one stands there, else p
abbrev pub past_jump : Code → ℕ → Option Instr → ℕ
past_jump code p (Some (Jmp d)) = at_distance code p d
past_jump code p _ = p

abbrev pub on_after : Code → ℕ → ℕ
on_after code p = past_jump code p (slice_get code p)

-- what an answer does
abbrev pub answered : List ℕ → Waiting → Thread → Answer Code → Move
answered s (ForPattern x) t (IsPattern code) =
    Goes (settled (Left t.code (on_after t.code (t.place + 1)) ∷ t.notes) code 0 t.cursor t.pending)
answered s (ForPattern x) t _ = Fails
answered s (ForArgument k x) t y = forked t (ends_at s (with_answer k y) t.cursor)
answered s (ForSaid x v) t IsSaid = Goes t
answered s (ForSaid x v) t _ = Fails

-- how a match ends
pub data Ended : Type 0 where
  Won : (start end : ℕ) → Pending → Ended
  Lost : Ended

-- a match between two steps, with its choices, its start, how many starts are left, and the answers left
pub data MatchState : Type 0 where
  Starting : (start left : ℕ) → Answers → MatchState
  Going : Thread → List Choice → (start left : ℕ) → Answers → MatchState
  Returning : Choice → List Choice → (start left : ℕ) → Answers → MatchState
  Waits : Waiting → Thread → List Choice → (start left : ℕ) → Answers → MatchState
  Over : Ended → MatchState

-- on with an attempt, or the end of the match
abbrev pub go : Thread → List Choice → ℕ → ℕ → Answers → MatchState
go t cs b left u = elim (at_place t) [ None ↦ Over (Won b t.cursor t.pending) | Some i ↦ Going t cs b left u ]

-- after a failure
abbrev pub back : List Choice → ℕ → ℕ → Answers → MatchState
back (ch ∷ cs) b left u = Returning ch cs b left u
back [] b (suc left) u = Starting (b + 1) left u
back [] b zero u = Over Lost

abbrev pub after_move : Move → List Choice → ℕ → ℕ → Answers → MatchState
after_move (Goes t) cs b left u = go t cs b left u
after_move (Forks t ch) cs b left u = go t (ch ∷ cs) b left u
after_move Fails cs b left u = back cs b left u

-- the choices without those made since there were k
abbrev pub choices_kept : ℕ → List Choice → List Choice
choices_kept k cs = drop (length cs - k) cs

abbrev pub after_act : Act → List Choice → ℕ → ℕ → Answers → MatchState
after_act (Moves m) cs b left u = after_move m cs b left u
after_act Aborts cs b left u = Over Lost
after_act (Arrives c a) cs b left u = Over (Won b c a)
after_act (Asking w t) cs b left u = Waits w t cs b left u
after_act (Fences t) cs b left u = go (fenced (length cs) t) cs b left u
after_act (Drops k t) cs b left u = go t (choices_kept k cs) b left u

-- back to a choice
abbrev pub after_return : List ℕ → Choice → List Choice → ℕ → ℕ → Answers → MatchState
after_return s (Retry p e [] t) cs b left u = go (onward t p e) cs b left u
after_return s (Retry p e (f ∷ es) t) cs b left u = go (onward t p e) (Retry p f es t ∷ cs) b left u
after_return s (Again t) cs b left u = after_act (pattern_act s (at_place t) t) cs b left u
after_return s Quit cs b left u = Over Lost

-- one step
abbrev pub pattern_step : List ℕ → Code → MatchState → MatchState
pattern_step s code (Starting b left u) = go (settled [] code 0 b []) [] b left u
pattern_step s code (Going t cs b left u) = after_act (pattern_act s (at_place t) t) cs b left u
pattern_step s code (Returning ch cs b left u) = after_return s ch cs b left u
pattern_step s code (Waits w t cs b left []) = Waits w t cs b left []
pattern_step s code (Waits w t cs b left (y ∷ u)) = after_move (answered s w t y) cs b left u
pattern_step s code (Over e) = Over e

abbrev pub pattern_steps : List ℕ → Code → ℕ → MatchState → MatchState
pattern_steps s code zero st = st
pattern_steps s code (suc m) st = pattern_steps s code m (pattern_step s code st)

abbrev pub event_of : MatchState → Event ℕ
event_of (Starting b left u) = Running
event_of (Going t cs b left u) = Running
event_of (Returning ch cs b left u) = Running
event_of (Waits w t cs b left []) = Asks (ask_of w)
event_of (Waits w t cs b left (y ∷ u)) = Running
event_of (Over Lost) = Failed
event_of (Over (Won b e a)) = Matched b e a

-- the match after m steps, from the starts b, b + 1, .. of which left more are to come
abbrev pub match_steps : List ℕ → Code → ℕ → ℕ → Answers → ℕ → MatchState
match_steps s code left b u m = pattern_steps s code m (Starting b left u)

-- the state with further answers to come
abbrev pub with_more : Answers → MatchState → MatchState
with_more v (Starting b left u) = Starting b left (u ++ v)
with_more v (Going t cs b left u) = Going t cs b left (u ++ v)
with_more v (Returning ch cs b left u) = Returning ch cs b left (u ++ v)
with_more v (Waits w t cs b left u) = Waits w t cs b left (u ++ v)
with_more v (Over e) = Over e

-- it doesn't stand at a question without an answer
abbrev pub IsSupplied : MatchState → Type 0
IsSupplied (Starting b left u) = Unit {0}
IsSupplied (Going t cs b left u) = Unit {0}
IsSupplied (Returning ch cs b left u) = Unit {0}
IsSupplied (Waits w t cs b left []) = ⊥
IsSupplied (Waits w t cs b left (y ∷ u)) = Unit {0}
IsSupplied (Over e) = Unit {0}

abbrev pub AllWithin : ℕ → List ℕ → Type 0
AllWithin n [] = Unit {0}
AllWithin n (e ∷ es) = (e ≤ n) × AllWithin n es

abbrev pub IsSoundChoice : List ℕ → Choice → Type 0
IsSoundChoice s (Retry p e es t) = (e ≤ length s) × AllWithin (length s) es × (t.cursor ≤ length s) × (t.place < length t.code)
IsSoundChoice s (Again t) = t.cursor ≤ length s
IsSoundChoice s Quit = Unit {0}

abbrev pub AreSound : List ℕ → List Choice → Type 0
AreSound s [] = Unit {0}
AreSound s (ch ∷ cs) = IsSoundChoice s ch × AreSound s cs

-- an awaited pattern or argument is of an instruction that is there
abbrev pub IsPlaced : Waiting → Thread → Type 0
IsPlaced (ForPattern x) t = t.place < length t.code
IsPlaced (ForArgument k x) t = t.place < length t.code
IsPlaced (ForSaid x v) t = Unit {0}

-- cursors lie within the subject, and starts too
abbrev pub IsSound : List ℕ → MatchState → Type 0
IsSound s (Starting b left u) = b + left ≤ length s
IsSound s (Going t cs b left u) = (t.cursor ≤ length s) × AreSound s cs × (b + left ≤ length s)
IsSound s (Returning ch cs b left u) = IsSoundChoice s ch × AreSound s cs × (b + left ≤ length s)
IsSound s (Waits w t cs b left u) = (t.cursor ≤ length s) × IsPlaced w t × AreSound s cs × (b + left ≤ length s)
IsSound s (Over e) = Unit {0}
