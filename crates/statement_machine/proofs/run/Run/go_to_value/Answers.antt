use Rattle.std.proofs.Common.{[], ap, sym, subst, Ok, Err}
use Rattle.unit_io.proofs.Serving.{served_on}
use Rattle.instruction_steps.proofs.Stopping.{served_alone}
use Rattle.statement_machine.proofs.Matching.{left_leaves, run_seen}
use Rattle.statement_machine.specs.Runs.{Leaves}
use Rattle.model.specs.Language.Conversions.{to_label}
use Rattle.model.proofs.Machine.Standing as laws
use Rattle.frames.specs.View.{operands_of}
use Rattle.world.specs.Held.{world_of}
use Rattle.instruction_steps.specs.Held.{waiting}
use Rattle.statement_machine.proofs.Calling.{returned, went}
use Rattle.instruction_steps.proofs.Telling.{no_records}
use Rattle.operations.proofs.Asked.{takes_on}
use Rattle.instruction_steps.specs.Stopped.{halted_by}
use Rattle.instruction_steps.specs.Asking.{io_at}
use Rattle.statement_machine.proofs.run.Run.go_to_value.Goals as goal

pub returns-in-Ok-None-clause-served : goal.returns-in-Ok-None-clause-served
returns-in-Ok-None-clause-served g c =
    let im = c.args.program.now in
    let r = c.args.self.now in
    let s = c.goto_value.new.self in
    served_alone g.U.Units c.args.units.now (Ok tt) tt
    (λ io. left_leaves im (Ok tt) r s io _ c.requires.code (went im r.frames.top c.in-Ok-None.field-0 s io _ c.in-Ok-None.field-0-is (c.in-Ok-None.ensures.left 0 r.frames.top io)))

pub returns-in-Ok-None-clause-sound : goal.returns-in-Ok-None-clause-sound
returns-in-Ok-None-clause-sound g c h =
    let im = c.args.program.now in
    let r = c.args.self.now in
    let s = c.goto_value.new.self in
    let waits = waiting im r.frames.top r.state in
    let w = world_of r.state.world no_records in
    run_seen im (Ok tt) (record r { state = s }) no_records _
    (left_leaves im (Ok tt) r s no_records _ c.requires.code (went im r.frames.top c.in-Ok-None.field-0 s no_records _ c.in-Ok-None.field-0-is (c.in-Ok-None.ensures.left 0 r.frames.top no_records)))
    (laws.pop_stands im (operands_of r.state.operands.top) [] w _ c.requires.operands (λ v rest k. laws.text_label_stands im c.requires.runnable.complete (to_label v) waits w h.0 h.1))

pub returns-in-Ok-Some-clause-served : goal.returns-in-Ok-Some-clause-served
returns-in-Ok-Some-clause-served g c =
    let im = c.args.program.now in
    let r = c.args.self.now in
    let s = c.goto_value.new.self in
    served_on c.return_from.ensures.served
    (λ io io' l. subst (λ st. Leaves im c.return_from.result c.return_from.new.self io' st) (sym (returned im r.frames.top c.in-Ok-Some.field-0 c.in-Ok-Some.kind s io _ c.in-Ok-Some.field-0-is (c.in-Ok-Some.ensures.left 0 r.frames.top io))) (l im))

pub returns-in-Err-clause-served : goal.returns-in-Err-clause-served
returns-in-Err-clause-served g c =
    served_alone g.U.Units c.args.units.now (Err c.in-Err.exit) c.in-Err.ensures.stop (λ io. c.in-Err.ensures.left 0 c.args.self.now.frames.top io)

pub returns-in-Ok-Some-clause-asked : goal.returns-in-Ok-Some-clause-asked
returns-in-Ok-Some-clause-asked g c =
    let im = c.args.program.now in
    let r = c.args.self.now in
    takes_on _ (halted_by c.return_from.result) _ _
    (λ io. ap io_at (returned im r.frames.top c.in-Ok-Some.field-0 c.in-Ok-Some.kind c.goto_value.new.self io _ c.in-Ok-Some.field-0-is (c.in-Ok-Some.ensures.left 0 r.frames.top io)))
    (c.return_from.ensures.asked im)
