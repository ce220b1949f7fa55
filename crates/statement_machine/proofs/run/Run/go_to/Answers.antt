use Rattle.std.proofs.Common.{ap, sym, subst, Ok}
use Rattle.unit_io.proofs.Serving.{served_on}
use Rattle.instruction_steps.proofs.Stopping.{served_alone}
use Rattle.statement_machine.proofs.Matching.{left_leaves, run_seen}
use Rattle.statement_machine.specs.Runs.{Leaves}
use Rattle.model.specs.Language.Conversions.{Got}
use Rattle.model.proofs.Machine.Standing as laws
use Rattle.world.specs.Held.{world_of}
use Rattle.instruction_steps.specs.Held.{waiting}
use Rattle.statement_machine.proofs.Calling.{returned, went}
use Rattle.instruction_steps.proofs.Telling.{no_records}
use Rattle.operations.proofs.Asked.{takes_on}
use Rattle.instruction_steps.specs.Stopped.{halted_by}
use Rattle.instruction_steps.specs.Asking.{io_at}
use Rattle.statement_machine.proofs.run.Run.go_to.Goals as goal

pub returns-in-None-clause-served : goal.returns-in-None-clause-served
returns-in-None-clause-served g c =
    let im = c.args.program.now in
    let r = c.args.self.now in
    let s = c.goto_entry.new.self in
    served_alone g.U.Units c.args.units.now (Ok tt) tt
    (λ io. left_leaves im (Ok tt) r s io _ c.requires.code (went im r.frames.top c.in_ok-goto_entry.field-0 s io _ c.in-None.is (c.in_ok-goto_entry.ensures.left r.frames.top io)))

pub returns-in-None-clause-sound : goal.returns-in-None-clause-sound
returns-in-None-clause-sound g c h =
    let im = c.args.program.now in
    let r = c.args.self.now in
    let s = c.goto_entry.new.self in
    run_seen im (Ok tt) (record r { state = s }) no_records _
    (left_leaves im (Ok tt) r s no_records _ c.requires.code (went im r.frames.top c.in_ok-goto_entry.field-0 s no_records _ c.in-None.is (c.in_ok-goto_entry.ensures.left r.frames.top no_records)))
    (laws.text_label_stands im c.requires.runnable.complete (Got c.args.label.now) (waiting im r.frames.top r.state) (world_of r.state.world no_records) h.0 h.1)

pub returns-in-Some-clause-served : goal.returns-in-Some-clause-served
returns-in-Some-clause-served g c =
    let im = c.args.program.now in
    let r = c.args.self.now in
    let s = c.goto_entry.new.self in
    served_on c.return_from.ensures.served
    (λ io io' l. subst (λ st. Leaves im c.return_from.result c.return_from.new.self io' st) (sym (returned im r.frames.top c.in_ok-goto_entry.field-0 c.in-Some.kind s io _ c.in-Some.is (c.in_ok-goto_entry.ensures.left r.frames.top io))) (l im))

pub returns-in-Some-clause-asked : goal.returns-in-Some-clause-asked
returns-in-Some-clause-asked g c =
    let im = c.args.program.now in
    let r = c.args.self.now in
    takes_on _ (halted_by c.return_from.result) _ _
    (λ io. ap io_at (returned im r.frames.top c.in_ok-goto_entry.field-0 c.in-Some.kind c.goto_entry.new.self io _ c.in-Some.is (c.in_ok-goto_entry.ensures.left r.frames.top io)))
    (c.return_from.ensures.asked im)
