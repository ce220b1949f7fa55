-- What a match is in the definitions.
use Rattle.std.specs.Prelude.{ℕ, ◌+◌, ◌-◌, List, [], ◌∷◌, map, length, drop, Option, Some, None, Bool, true, false}
use Rattle.model.specs.Pattern.Patterns as p
use Rattle.model.specs.Pattern.BasicEnds.{from_up, balanced}
use Rattle.model.specs.Pattern.Steps as s
use Rattle.model.specs.Pattern.Steps.{Code, MatchState, onward, go, back, pattern_act, after_act, forked}
use Rattle.pattern_compiler.specs.View.{name_of, kind_of}
use Rattle.match_machine.specs.declared.event.Want.{Want}
use Rattle.match_machine.specs.declared.event.Want.TheVariants as want
use Rattle.match_machine.specs.declared.event.Told.{Told}
use Rattle.match_machine.specs.declared.event.Told.TheVariants as told
use Rattle.match_machine.specs.declared.event.Event.{Event}
use Rattle.match_machine.specs.declared.event.Event.TheVariants as event
use Rattle.match_machine.specs.declared.event.Answer.{Answer}
use Rattle.match_machine.specs.declared.event.Answer.TheVariants as answer
use Rattle.match_machine.specs.declared.state.Thread.{Thread}
use Rattle.backtrack.specs.declared.way_back.WayBack.{WayBack}
use Rattle.backtrack.specs.declared.way_back.WayBack.TheVariants as kept
use Rattle.match_machine.specs.declared.state.Waiting.{Waiting}
use Rattle.match_machine.specs.declared.state.Waiting.TheVariants as waiting
use Rattle.match_machine.specs.declared.state.Mode.{Mode}
use Rattle.match_machine.specs.declared.state.Mode.TheVariants as mode
use Rattle.match_machine.specs.declared.state.Run.{Run}
use Rattle.backtrack.specs.Standing.{Back}
pub use Rattle.backtrack.specs.Logs.{assigned, pending_of}

-- ---- events and answers
abbrev pub want_of : Want → p.Want
want_of want.Pattern = p.WantPattern
want_of want.Count = p.WantCount
want_of want.Bytes = p.WantBytes

abbrev pub told_of : Told → p.Told
told_of (told.Text w) = p.Text w
told_of (told.Number n) = p.Number n

abbrev pub event_is : Event → p.Event ℕ
event_is event.Running = p.Running
event_is (event.Ask e w) = p.Asks (p.AskFor e (want_of w))
event_is (event.Say x v) = p.Asks (p.SayThat (name_of x.now) (told_of v.now))
event_is (event.Matched b e xs) = p.Matched b e (pending_of xs.now)
event_is event.Failed = p.Failed

abbrev pub answer_view : Answer → p.Answer Code
answer_view (answer.Pattern c) = p.IsPattern c
answer_view (answer.Count n) = p.IsCount n
answer_view (answer.Bytes w) = p.IsBytes w
answer_view answer.Failed = p.IsFailed
answer_view answer.Said = p.IsSaid

-- ---- states
abbrev pub thread_of : Thread → s.Thread
thread_of t =
    record { code = t.trail.code; place = t.place; cursor = t.cursor; notes = t.trail.notes; pending = t.trail.pending }

-- the choice of an attempt on the subject u
abbrev pub kept_of : List ℕ → WayBack → s.Thread → s.Choice
kept_of u (kept.To q) t = s.Retry q t.cursor [] t
kept_of u (kept.Arb e) t = s.Retry (t.place + 1) e (drop 1 (from_up e (length u - e))) t
kept_of u (kept.Bal e) t = s.Retry (t.place + 1) e (balanced (drop e u) 0 e) t
kept_of u kept.Again t = s.Again t
kept_of u kept.Quit t = s.Quit

abbrev pub choice_of : List ℕ → Back → s.Choice
choice_of u x = kept_of u x.kept x.thread

-- the newest first
abbrev pub choices_of : List ℕ → List Back → List s.Choice
choices_of u xs = map (choice_of u) xs

abbrev pub waiting_of : Waiting → s.Waiting
waiting_of (waiting.Pattern e) = s.ForPattern e
waiting_of (waiting.Argument k e) = s.ForArgument (kind_of k) e
waiting_of (waiting.Said x v) = s.ForSaid (name_of x) (told_of v)

abbrev pub answers_of : Option Answer → s.Answers
answers_of None = []
answers_of (Some y) = answer_view y ∷ []

abbrev pub returning : List s.Choice → ℕ → ℕ → MatchState
returning [] b left = s.Over s.Lost
returning (ch ∷ cs) b left = s.Returning ch cs b left []

abbrev pub waits : Option Waiting → s.Thread → List s.Choice → ℕ → ℕ → s.Answers → MatchState
waits None t cs b left y = s.Over s.Lost
waits (Some w) t cs b left y = s.Waits (waiting_of w) t cs b left y

abbrev pub state_by : Mode → s.Thread → List s.Choice → ℕ → ℕ → Option Waiting → Option Answer → MatchState
state_by mode.Starting t cs b left w y = s.Starting b left []
state_by mode.Going t cs b left w y = s.Going t cs b left []
state_by mode.Returning t cs b left w y = returning cs b left
state_by mode.Waiting t cs b left w y = waits w t cs b left (answers_of y)
state_by mode.Matched t cs b left w y = s.Over (s.Won b t.cursor t.pending)
state_by mode.Failed t cs b left w y = s.Over s.Lost

abbrev pub state_of : List ℕ → Run → MatchState
state_of u r = state_by r.mode (thread_of r.thread) (choices_of u r.thread.trail.backs) r.start r.left r.waiting r.answer

-- where memory was refused, nothing is left of it
abbrev pub held : Bool → List ℕ → Run → MatchState
held true u r = s.Over s.Lost
held false u r = state_of u r

-- ---- moves
-- the match with its attempt gone on to a place and a cursor
abbrev pub gone : List ℕ → Run → ℕ → ℕ → MatchState
gone u r q c = go (onward (thread_of r.thread) q c) (choices_of u r.thread.trail.backs) r.start r.left []

-- the match after a failure
abbrev pub failed : List ℕ → Run → MatchState
failed u r = back (choices_of u r.thread.trail.backs) r.start r.left []

-- the match after an instruction
abbrev pub done : List ℕ → Run → s.Act → MatchState
done u r x = after_act x (choices_of u r.thread.trail.backs) r.start r.left []
