use Rattle.std.proofs.Common.{ap, ◌∙◌}
use Rattle.model.specs.Laws.Agreement.{first_m}
use Rattle.model.specs.Laws.PrintedBefore.{after_w}
use Rattle.loader.specs.Places.{offset_at}
use Rattle.instruction_steps.proofs.Flowing.{statement_begins}
use Rattle.statement_machine.proofs.Flowing.{statement_stands}
use Rattle.statement_machine.proofs.GivingBack.{collected_same}
use Rattle.statement_machine.proofs.Ranges.{begun_in_range}
use Rattle.statement_machine.proofs.Running.{begun_is}
use Rattle.statement_machine.specs.declared.run.Run.{Run}
use Rattle.joined_steps.proofs.WellFormed.{runnable}
use Rattle.instruction_steps.specs.declared.state.State.{State}
use Rattle.statement_machine.proofs.machine.Machine.new.Goals as goal

pub invariant_of-result : goal.invariant_of-result
invariant_of-result c =
    let im = c.args.program.now in
    let e = c.in_ok-run.ensures.code in
    let rest = c.in_ok-enter_variables.ensures.rest in
    let place = ap (λ (s : State). s.place) rest ∙ c.in_ok-run.ensures.place.0 in
    let ops = ap (λ (s : State). s.operands.top) rest ∙ c.in_ok-run.ensures.place.1 in
    let hs = ap (λ (s : State). s.handlers.top) rest ∙ c.in_ok-run.ensures.place.2 in
    let at = statement_begins im (runnable im c.start-place.ensures.loaded) im.entry c.start-place.result c.start-place.ensures.place in
    let r : Run = record c.in_ok-run.run' { state = record c.enter_variables.new.self { world = c.keep_slots.new.self } } in
    (runnable im c.start-place.ensures.loaded, (rw e.1 tt, rw (e.0, e.1, place, ops, hs) (statement_stands im im.entry _ at)), c.in_ok-form.ensures, c.in_ok-parts.ensures, begun_in_range im r (λ io. begun_is im _ r io at (ap (offset_at im.code) place) e.0 e.1 ops hs (c.keep_slots.ensures.unseen io ∙ c.in_ok-enter_variables.ensures.unseen io ∙ c.in_ok-run.ensures.world io ∙ ap (λ l. after_w io.printed (first_m l io.left)) c.level.ensures)))

pub returns-clause-begun : goal.returns-clause-begun
returns-clause-begun c = λ io.
    let im = c.args.program.now in
    let e = c.in_ok-run.ensures.code in
    let rest = c.in_ok-enter_variables.ensures.rest in
    let place = ap (λ (s : State). s.place) rest ∙ c.in_ok-run.ensures.place.0 in
    let ops = ap (λ (s : State). s.operands.top) rest ∙ c.in_ok-run.ensures.place.1 in
    let hs = ap (λ (s : State). s.handlers.top) rest ∙ c.in_ok-run.ensures.place.2 in
    let at = statement_begins im (runnable im c.start-place.ensures.loaded) im.entry c.start-place.result c.start-place.ensures.place in
    collected_same _ _ (begun_is im _ (record c.in_ok-run.run' { state = record c.enter_variables.new.self { world = c.keep_slots.new.self } }) io at (ap (offset_at im.code) place) e.0 e.1 ops hs (c.keep_slots.ensures.unseen io ∙ c.in_ok-enter_variables.ensures.unseen io ∙ c.in_ok-run.ensures.world io ∙ ap (λ l. after_w io.printed (first_m l io.left)) c.level.ensures))

pub form_of-requires : goal.form_of-requires
form_of-requires c = record { runs = runnable c.args.program.now c.start-place.ensures.loaded }

pub parts_of-requires : goal.parts_of-requires
parts_of-requires c = record { runs = runnable c.args.program.now c.start-place.ensures.loaded }
