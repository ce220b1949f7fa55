-- What a match that succeeded leaves.
use Rattle.std.proofs.Common.{◌≡◌, ℕ, List, ap, refl, subst, ◌∙◌, Err}
use Rattle.model.specs.Language.Io.{Io}
use Rattle.model.specs.Machine.Steps as m
use Rattle.model.specs.Machine.Steps.{MW, Run, after_op, found_as, on_event}
use Rattle.model.specs.Module.Images.{module_of}
use Rattle.model.specs.Language.Conversions.{Gives}
use Rattle.model.specs.Language.Operators.{assign_all}
use Rattle.model.specs.Pattern.Patterns as p
use Rattle.model.specs.Pattern.Patterns.{Matched}
use Rattle.model.specs.Pattern.Steps as s
use Rattle.model.specs.declared.image.Image.{Image}
use Rattle.frames.specs.Matches.{Match}
use Rattle.loader.specs.Places.{offset_at}
use Rattle.frames.specs.View.{operands_of}
use Rattle.frames.specs.declared.frame.Frame.{Frame}
use Rattle.match_machine.specs.View.{pending_of}
use Rattle.backtrack.specs.declared.assignment.Assignment.{Assignment}
use Rattle.values.specs.Answers.{AnswersAs}
use Rattle.world.specs.Held.{WorldView, world_of}
use Rattle.values.specs.declared.fault.Fault.{Fault}
use Rattle.instruction_steps.specs.Held.{Halted, handlers_in, state_of, waiting}
use Rattle.instruction_steps.specs.Matches.{matching_in}
use Rattle.instruction_steps.specs.Stopped.{halt_of}
use Rattle.instruction_steps.specs.declared.state.State.{State}
use Rattle.instruction_steps.proofs.Keys.{halts}

module _ (im : Image) (fs : List Frame) (s : State) (world : WorldView) (io io' : Io) (g : Match) where
  -- the run with the world after it
  abbrev new : State
  new = record s { world = world }

  abbrev event_left : p.Event ℕ → m.State
  event_left e = on_event (module_of im) e (matching_in im g s) g.search.state (waiting im fs s) (world_of s.world io)

  -- its assignments ended the run
  pub matched_halts : (start end : ℕ) (given pending : List Assignment) → given ≡ pending → (f : Fault) → AnswersAs (Err f) (world_of world io') (assign_all (pending_of given) (world_of s.world io))
      → Halted (halt_of world.keys.stno f) new io' (event_left (Matched start end (pending_of pending)))
  matched_halts start end given pending e f a =
      let ops = operands_of s.operands.top in
      let hs = handlers_in im s in
      let k : record {} → MW → m.State = λ _ w1. Run (offset_at im.code g.place) (found_as g.keep g.search.subject start end ops) hs (waiting im fs s) w1 in
      subst (λ xs. Halted (halt_of world.keys.stno f) new io' (after_op (assign_all (pending_of xs) (world_of s.world io)) hs ops (waiting im fs s) k)) e
      (halts (assign_all (pending_of given) (world_of s.world io)) f new io' hs ops (waiting im fs s) k a)

  -- its assignments were made, and the run goes on
  pub matched_goes : (start end : ℕ) (given pending : List Assignment) → given ≡ pending → (after : State) → after.place ≡ g.place → after.handlers ≡ s.handlers → after.operands.under ≡ s.operands.under → after.saved ≡ s.saved → after.world ≡ world
      → operands_of after.operands.top ≡ found_as g.keep g.search.subject start end (operands_of s.operands.top) → assign_all (pending_of given) (world_of s.world io) ≡ Gives (record {}) (world_of world io')
      → event_left (Matched start end (pending_of pending)) ≡ state_of im fs after io'
  matched_goes start end given pending e after place handlers under saved now found a =
      let ops = operands_of s.operands.top in
      let hs = handlers_in im s in
      let k : record {} → MW → m.State = λ _ w1. Run (offset_at im.code g.place) (found_as g.keep g.search.subject start end ops) hs (waiting im fs s) w1 in
      subst (λ xs. event_left (Matched start end (pending_of xs)) ≡ state_of im fs after io') e
      (ap (λ o. after_op o hs ops (waiting im fs s) k) a ∙ rw (place, handlers, under, saved, now, found) refl)
