use Rattle.std.proofs.Common.{sym, subst}
use Rattle.unit_io.proofs.Serving.{served_on}
use Rattle.model.specs.Language.Calls.{return_of}
use Rattle.model.specs.Machine.Standing.{FramesStand, RunsUpon}
use Rattle.model.specs.Machine.Steps.{go_to_return}
use Rattle.model.specs.Module.Flow.{InGoto}
use Rattle.model.specs.Module.Images.{module_of}
use Rattle.statement_machine.specs.Runs.{Leaves}
use Rattle.instruction_steps.proofs.Telling.{no_records}
use Rattle.operations.proofs.Asked.{takes_on}
use Rattle.instruction_steps.specs.Stopped.{halted_by}
use Rattle.instruction_steps.specs.Asking.{io_at}
use Rattle.statement_machine.proofs.run.Run.enter.Goals as goal

pub returns-clause-served : goal.returns-clause-served
returns-clause-served g c =
    let im = c.args.program.now in
    served_on c.go_to.ensures.served
    (λ io io' l. subst (λ st. Leaves im c.go_to.result c.go_to.new.self io' st)
    (λ i. go_to_return (module_of im) c.args.entry.now (return_of c.args.entry.now) (c.in_ok-open_call.ensures.opened im io i) (c.in_ok-open_call.ensures.entered io i)) l)

pub returns-clause-sound : goal.returns-clause-sound
returns-clause-sound g c h =
    let im = c.args.program.now in
    c.go_to.ensures.sound (subst (λ fs. RunsUpon InGoto fs × FramesStand im fs) (sym (c.in_ok-open_call.ensures.opened im no_records)) (tt, (h.0, h.1)))

pub returns-clause-asked : goal.returns-clause-asked
returns-clause-asked g c =
    let im = c.args.program.now in
    takes_on _ (halted_by c.go_to.result) _ _
    (λ io. sym (λ i. io_at (go_to_return (module_of im) c.args.entry.now (return_of c.args.entry.now) (c.in_ok-open_call.ensures.opened im io i) (c.in_ok-open_call.ensures.entered io i))))
    c.go_to.ensures.asked
