use Rattle.std.proofs.Common.{◌≡◌, Err, ap, refl, sym, ◌∙◌}
use Rattle.values.specs.Answers.{stopped_by}
use Rattle.world.specs.Held.{world_of}
use Rattle.model.specs.Pattern.Patterns.{Matched}
use Rattle.model.specs.Pattern.Steps.{event_of}
use Rattle.match_machine.specs.View.{event_is, pending_of}
use Rattle.instruction_steps.specs.Held.{waiting}
use Rattle.instruction_steps.specs.Matches.{matching_in}
use Rattle.instruction_steps.specs.Stopped.{halted_by}
use Rattle.instruction_steps.proofs.Matching.{matched_goes, matched_halts}
use Rattle.instruction_steps.specs.declared.state.State.{State}
use Rattle.instruction_steps.proofs.Printing.{settled_prints, unsettled_prints}
use Rattle.unit_io.proofs.Serving.{served_on}
use Rattle.instruction_steps.proofs.Asked.{all_took_none, found_io, next_as, no_unit}
use Rattle.instruction_steps.proofs.Stopping.{lacking}
use Rattle.instruction_steps.proofs.state.State.matched.Goals as goal

pub returns-in-Err-clause-served : goal.returns-in-Err-clause-served
returns-in-Err-clause-served g c =
    let ps = c.in-Matched.pending.now in
    let e : event_of c.args.matching.now.search.state ≡ Matched c.in-Matched.start c.in-Matched.end (pending_of ps) = sym c.event.ensures ∙ ap event_is c.in-Matched.is in
    served_on c.in-Err.ensures.served
    (λ io io' a im fs. rw e (matched_halts im fs (record c.args.self.now { assigned = c.assign_all.new.slots }) c.assign_all.new.world io io' c.args.matching.now c.in-Matched.start c.in-Matched.end ps ps refl c.in-Err.fault a))

pub returns-in_err-found-clause-printed : goal.returns-in_err-found-clause-printed
returns-in_err-found-clause-printed g c = λ im fs.
    let s = c.args.self.now in
    let ps = c.in-Matched.pending.now in
    let e : event_of c.args.matching.now.search.state ≡ Matched c.in-Matched.start c.in-Matched.end (pending_of ps) = sym c.event.ensures ∙ ap event_is c.in-Matched.is in
    rw e (settled_prints im (matching_in im c.args.matching.now s) c.args.matching.now.search.state (waiting im fs s) c.in-Matched.start c.in-Matched.end (halted_by c.from_residual.result) _ _ ps ps s.world c.assign_all.new.world refl c.in_default-assign_all.ensures.served.told)

pub returns-in-Err-clause-printed : goal.returns-in-Err-clause-printed
returns-in-Err-clause-printed g c = λ im fs.
    let s = c.args.self.now in
    let ps = c.in-Matched.pending.now in
    let e : event_of c.args.matching.now.search.state ≡ Matched c.in-Matched.start c.in-Matched.end (pending_of ps) = sym c.event.ensures ∙ ap event_is c.in-Matched.is in
    rw e (unsettled_prints im (matching_in im c.args.matching.now s) c.args.matching.now.search.state (waiting im fs s) c.in-Matched.start c.in-Matched.end c.in-Err.fault _ _ ps ps s.world refl c.in-Err.ensures.printed)

pub returns-in_err-found-clause-next : goal.returns-in_err-found-clause-next
returns-in_err-found-clause-next g c im fs = (
  all_took_none (halted_by c.from_residual.result) _ _ (pending_of c.in-Matched.pending.now) c.args.self.now.world c.assign_all.new.world c.in_default-assign_all.ensures.served.told,
  no_unit c.from_residual.result _ (lacking c.from_residual.result c.from_residual.ensures.1),
)

pub returns-in-Err-clause-next : goal.returns-in-Err-clause-next
returns-in-Err-clause-next g c = λ im fs.
    let s = c.args.self.now in
    let ps = c.in-Matched.pending.now in
    let e : event_of c.args.matching.now.search.state ≡ Matched c.in-Matched.start c.in-Matched.end (pending_of ps) = sym c.event.ensures ∙ ap event_is c.in-Matched.is in
    rw e (next_as _ (stopped_by {A = Unit {0}} (Err c.in-Err.fault)) _ _ _ _ (λ io. found_io im (matching_in im c.args.matching.now s) c.args.matching.now.search.state (waiting im fs s) c.in-Matched.start c.in-Matched.end (pending_of ps) (world_of s.world io)) c.in-Err.ensures.next)

pub returns-clause-served : goal.returns-clause-served
returns-clause-served g c =
    let ps = c.in-Matched.pending.now in
    let e : event_of c.args.matching.now.search.state ≡ Matched c.in-Matched.start c.in-Matched.end (pending_of ps) = sym c.event.ensures ∙ ap event_is c.in-Matched.is in
    let new : State = record c.args.self.now { place = c.place-self.result; operands = c.found.new.operands; world = c.assign_all.new.world; assigned = c.assign_all.new.slots } in
    served_on c.in_default-assign_all.ensures.served
    (λ io io' a im fs. rw e (matched_goes im fs c.args.self.now c.assign_all.new.world io io' c.args.matching.now c.in-Matched.start c.in-Matched.end ps ps refl new c.place-self.ensures refl c.in_ok-found.ensures.under refl refl c.in_ok-found.ensures.ok a))
