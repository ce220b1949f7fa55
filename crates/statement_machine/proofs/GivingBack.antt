-- Runs that give objects back between steps.
use Rattle.std.proofs.Common.{◌≡◌, ℕ, suc, Bool, true, false, List, [], ◌∷◌, ◌-◌, ◌≤◌, arith, ◌++◌, length, map, refl, sym, ap, ◌∙◌, subst, Option, if◌then◌else◌}
use Rattle.model.specs.declared.image.Image.{Image}
use Rattle.model.specs.declared.run.Ending.{Ending}
use Rattle.model.specs.Language.Io.{Io}
use Rattle.model.specs.Language.Told.{IfTold}
use Rattle.model.specs.Laws.Agreement.{seen_at}
use Rattle.model.specs.Language.Values.{Object}
use Rattle.model.specs.Machine.InRange.{ObjectIn, ObjectsIn, StateIn, WorldIn}
use Rattle.model.specs.Machine.Living.{AlikeBy, runs, matches, ended, stuck, Collected, never, once_more, Grows, OperandsLive, ValueLives, ValuesLive, cleared, no_object}
use Rattle.model.specs.Machine.Steps as m
use Rattle.model.specs.Machine.Steps.{MVal, steps}
use Rattle.model.specs.Module.Images.{module_of}
use Rattle.model.proofs.Machine.Collecting.{operands_on, steps_collected, value_on}
use Rattle.model.proofs.Machine.StepsLiving.{seen_alike}
use Rattle.segments.proofs.Leading.{steps_rest}
use Rattle.statement_machine.proofs.Matching.{still_asking}
use Rattle.statement_machine.proofs.Running.{some_made}
use Rattle.unit_io.proofs.Serving.{told_then}
use Rattle.instruction_steps.specs.Held.{handlers_in, state_of, waiting}
use Rattle.statement_machine.specs.Runs.{IsInRange, LacksNothing, TaskStands, left_at, run_of, state_at}
use Rattle.statement_machine.specs.Collecting.{IsInCalls, IsSameRun, StateLives}
use Rattle.statement_machine.specs.declared.collecting.CollectionSchedule.{CollectionSchedule}
use Rattle.statement_machine.specs.declared.run.Run.{Run}
use Rattle.statement_machine.specs.declared.run.Task.{Task}
use Rattle.statement_machine.specs.declared.run.Task.TheVariants as task
use Rattle.instruction_steps.specs.declared.state.State.{State}
use Rattle.heap.specs.Marked.{HasMarked, MarksView, marks_in}
use Rattle.frames.proofs.Reaching.{all_front, frames_live, top_lives, under_lives}
use Rattle.frames.specs.Frames.{IsCall}
use Rattle.frames.specs.View.{operands_of}
use Rattle.frames.specs.declared.frame.Frame.{Frame}
use Rattle.loader.specs.Places.{offset_at}
use Rattle.operations.proofs.Reached.{left_lives, left_world}
use Rattle.world.proofs.Reaching.{all_more}
use Rattle.world.specs.Held.{WorldView, world_of}
use Rattle.operations.specs.Marking.{ObjectsLive, without_unmarked}
use Rattle.world.specs.Marking.{VariablesLive}
use Rattle.values.specs.Values.{value_of}

-- ---- states without some objects

pub collected_on : (a b c : m.State) → Collected a b → Collected b c → Collected a c
collected_on a b c never k = k
collected_on a b c (once_more marked h r) k = once_more marked h (collected_on _ b c r k)

pub collected_same : (a b : m.State) → a ≡ b → Collected a b
collected_same a b e = subst (λ x. Collected a x) e never

module _ (marked : ℕ → Bool) where
  io_alike : (a b : m.State) → AlikeBy marked a b → (m.world_of_state b).io ≡ (m.world_of_state a).io
  io_alike _ _ (runs o f i) = refl
  io_alike _ _ (matches g k f i) = refl
  io_alike _ _ (ended i) = refl
  io_alike _ _ (stuck i) = refl

  left_alike : (a b : m.State) → AlikeBy marked a b → left_at b ≡ left_at a
  left_alike _ _ (runs o f i) = refl
  left_alike _ _ (matches g k f i) = refl
  left_alike _ _ (ended i) = refl
  left_alike _ _ (stuck i) = refl

pub seen_collected : (a b : m.State) → Collected a b → seen_at b ≡ seen_at a
seen_collected a b never = refl
seen_collected a b (once_more marked h r) = seen_collected _ b r ∙ seen_alike marked a _ h

pub io_collected : (a b : m.State) → Collected a b → (m.world_of_state b).io ≡ (m.world_of_state a).io
io_collected a b never = refl
io_collected a b (once_more marked h r) = io_collected _ b r ∙ io_alike marked a _ h

pub left_collected : (a b : m.State) → Collected a b → left_at b ≡ left_at a
left_collected a b never = refl
left_collected a b (once_more marked h r) = left_collected _ b r ∙ left_alike marked a _ h

-- ---- steps, and objects given back, and more steps

-- so many of all, and then some more of those that are left
more_collected : (im : Image) (n left bound : ℕ) (a b mid c : m.State) → left ≤ bound → n ≤ left → Collected (steps (module_of im) (bound - left) a) b → Collected b mid → steps (module_of im) n mid ≡ c
    → Collected (steps (module_of im) (bound - (left - n)) a) c
more_collected im n left bound a b mid c le le' first given next =
    let st : m.State = steps (module_of im) (bound - left) a in
    let so_far : bound - left ≤ bound - (left - n) = omega (arith, le, le') in
    let more : (bound - (left - n)) - (bound - left) ≡ n = omega (arith, le, le') in
    let all : steps (module_of im) n st ≡ steps (module_of im) (bound - (left - n)) a = ap (λ k. steps (module_of im) k st) (sym more) ∙ steps_rest (module_of im) (bound - left) (bound - (left - n)) a so_far in
    subst (λ x. Collected x c) all (subst (λ x. Collected (steps (module_of im) n st) x) next (steps_collected im n st mid (collected_on st b mid first given)))

pub more_given : (im : Image) (n left bound : ℕ) (x y z : Option Io) (r now mid new : Run) → left ≤ bound → n ≤ left → IsSameRun now mid
    → IfTold x y (λ io io'. Collected (steps (module_of im) (bound - left) (run_of im r io)) (run_of im now io'))
    → IfTold y z (λ io io'. steps (module_of im) n (run_of im mid io) ≡ run_of im new io')
    → IfTold x z (λ io io'. Collected (steps (module_of im) (bound - (left - n)) (run_of im r io)) (run_of im new io'))
more_given im n left bound x y z r now mid new le le' given first next =
    told_then x y z _ _ _ (λ io io1 io2 p q. more_collected im n left bound (run_of im r io) (run_of im now io1) (run_of im mid io1) (run_of im new io2) le le' p (given.collected im io1) q) first next

-- what the rest of the steps leads to, before objects are given back and after
pub rest_given : (im : Image) (left : ℕ) (now mid : Run) (io : Io) (total : m.State) → IsSameRun now mid → Collected total (steps (module_of im) left (run_of im now io)) → Collected total (steps (module_of im) left (run_of im mid io))
rest_given im left now mid io total given h = collected_on total _ _ h (steps_collected im left _ _ (given.collected im io))

pub some_given : (im : Image) (n left : ℕ) (now mid new : Run) (io io' : Io) (total : m.State) → n ≤ left → IsSameRun now mid
    → Collected total (steps (module_of im) left (run_of im now io)) → steps (module_of im) n (run_of im mid io) ≡ run_of im new io' → Collected total (steps (module_of im) (left - n) (run_of im new io'))
some_given im n left now mid new io io' total le given h made =
    subst (λ x. Collected total x) (sym (some_made im n left new io' (run_of im mid io) _ le refl made)) (rest_given im left now mid io total given h)

-- when none is left
pub all_given : (im : Image) (left : ℕ) (st total : m.State) → left ≤ 0 → Collected total (steps (module_of im) left st) → Collected total st
all_given im left st total none h = let z : left ≡ 0 = omega (arith, none) in subst (λ n. Collected total (steps (module_of im) n st)) z h

-- where a run ended, objects may have been given back before
pub ended_given : (im : Image) (left : ℕ) (e : Ending) (now mid : Run) (s : State) (io io' : Io) (total : m.State) → IsSameRun now mid → Collected total (steps (module_of im) left (run_of im now io))
    → steps (module_of im) left (run_of im mid io) ≡ m.Over e (world_of s.world io') → Collected total (m.Over e (world_of s.world io'))
ended_given im left e now mid s io io' total given h over = subst (λ x. Collected total x) over (rest_given im left now mid io total given h)

-- ---- what a run needs

-- nothing is lacking where only the world is another
stands_in : (im : Image) (t : Task) (fs : List Frame) (s : State) (w : WorldView) → TaskStands im t fs s → TaskStands im t fs (record s { world = w })
stands_in im task.Code fs s w h = h
stands_in im (task.Match g) fs s w h = h

pub lacks_nothing : (im : Image) (old new : Run) → IsSameRun old new → LacksNothing im old → LacksNothing im new
lacks_nothing im old new h k =
    subst (λ r. LacksNothing im r) (sym h.same) (still_asking old.frames.top k.0 h.names, stands_in im old.task old.frames.top old.state new.state.world k.1)

-- ---- each expression that a run holds

cleared_in : (n : ℕ) (marked : ℕ → Bool) (os : List (Object MVal)) → ObjectsIn n os → ObjectsIn n (cleared marked os)
cleared_in n marked [] h = tt
cleared_in n marked (o ∷ os) h = (first (marked 0), cleared_in n (λ k. marked (suc k)) os h.1)
  where
    first : (b : Bool) → ObjectIn n (if b then o else no_object)
    first true = h.0
    first false = tt

world_left : (n : ℕ) (w : WorldView) (marks : MarksView) (io : Io) → WorldIn n (world_of w io) → WorldIn n (world_of (without_unmarked w marks) io)
world_left n w marks io h = subst (λ (x : m.MW). WorldIn n x) (sym (left_world w marks io)) (record { vars = h.vars; objects = cleared_in n (marks_in marks) (world_of w io).objects h.objects })

left_in : (im : Image) (n : ℕ) (t : Task) (fs : List Frame) (s : State) (marks : MarksView) (io : Io) → StateIn n (state_at im t fs s io) → StateIn n (state_at im t fs (record s { world = without_unmarked s.world marks }) io)
left_in im n task.Code fs s marks io h = (h.0, h.1, world_left n s.world marks io h.2)
left_in im n (task.Match g) fs s marks io h = (h.0, h.1, h.2, world_left n s.world marks io h.3)

-- nothing was given back
pub as_it_was : (old new : Run) → new ≡ record old { pace = new.pace } → IsSameRun old new
as_it_was old new e = record {
  same = e ∙ ap (λ w. record old { state = record old.state { world = w }; pace = new.pace }) (sym world);
  names = ap (λ (r : Run). r.state.world.names) e;
  collected = λ im io. collected_same (run_of im old io) (run_of im new io) (ap (λ (r : Run). run_of im r io) (sym e));
  in_range = λ im h. subst (λ (r : Run). IsInRange im r) (sym e) h;
}
  where
    world : new.state.world ≡ old.state.world
    world = ap (λ (r : Run). r.state.world) e

-- what has no mark was given back
pub given_back : (old new : Run) (marks : MarksView) → IsInCalls old → StateLives old.state marks → new ≡ record old { state = record old.state { world = without_unmarked old.state.world marks }; pace = new.pace } → IsSameRun old new
given_back old new marks calls lives e = record {
  same = e ∙ ap (λ w. record old { state = record old.state { world = w }; pace = new.pace }) (sym world);
  names = ap (λ (w : WorldView). w.names) world;
  collected = λ im io. subst (λ r. Collected (run_of im old io) (run_of im r io)) (sym e) (subst (λ t. Collected (state_at im t old.frames.top old.state io) (state_at im t old.frames.top left io)) (sym calls.0) (in_code im io));
  in_range = λ im h. subst (λ (r : Run). IsInRange im r) (sym e) (λ io. left_in im (length im.expressions) old.task old.frames.top old.state marks io (h io));
}
  where
    world : new.state.world ≡ without_unmarked old.state.world marks
    world = ap (λ (r : Run). r.state.world) e

    left : State
    left = record old.state { world = without_unmarked old.state.world marks }

    in_code : (im : Image) (io : Io) → Collected (state_at im task.Code old.frames.top old.state io) (state_at im task.Code old.frames.top left io)
    in_code im io =
        let s = old.state in
        let marked = marks_in marks in
        let ops = top_lives marked s.operands.top s.operands.under lives.operands in
        let under = under_lives marked s.operands.top s.operands.under lives.operands in
        let frames = frames_live marked (offset_at im.code) old.frames.top s.operands.under s.handlers.under s.saved.items (all_front IsCall old.frames.top old.frames.under calls.1) under lives.saved in
        let alike = runs {pc = offset_at im.code s.place} {hs = handlers_in im s} ops frames (left_lives s.world marks io lives.variables lives.objects) in
        subst (λ w. Collected (state_of im old.frames.top s io) (m.Run (offset_at im.code s.place) (operands_of s.operands.top) (handlers_in im s) (waiting im old.frames.top s) w)) (sym (left_world s.world marks io)) (once_more marked alike never)

-- ---- all that a state holds is marked

-- marks that are set one after the other: for variables, for operands, for saved values and for what they reach
pub state_lives : (s : State) (variables operands saved last : MarksView) → VariablesLive s.world variables → HasMarked variables operands → OperandsLive (marks_in operands) (operands_of (s.operands.top ++ s.operands.under))
    → HasMarked operands saved → ValuesLive (marks_in saved) (map value_of s.saved.items) → Grows (marks_in saved) (marks_in last) → ObjectsLive s.world last → StateLives s last
state_lives s variables operands saved last vars more ops more' values grown objects = record {
  variables = λ x. value_on (marks_in variables) (marks_in last) (λ k e. grown k (more'.grows k (more.grows k e))) _ (vars x);
  operands = operands_on (marks_in operands) (marks_in last) (λ k e. grown k (more'.grows k e)) _ ops;
  saved = all_more (ValueLives (marks_in saved)) (ValueLives (marks_in last)) (value_on (marks_in saved) (marks_in last) grown) _ values;
  objects = objects;
}

-- ---- runs that are the same but for what was given back

pub given_world : (old : Run) (pace : CollectionSchedule) (w : WorldView) (marks : MarksView) → IsInCalls old → StateLives old.state marks → w ≡ without_unmarked old.state.world marks → IsSameRun old (record old { state = record old.state { world = w }; pace = pace })
given_world old pace w marks calls lives e = given_back old _ marks calls lives (ap (λ v. record old { state = record old.state { world = v }; pace = pace }) e)
