use Rattle.std.proofs.Common.{ap, sym, subst, refl, Err, ◌∙◌}
use Rattle.frames.specs.View.{operands_of}
use Rattle.unit_io.proofs.Serving.{served_on}
use Rattle.world.specs.Calling.{given_of}
use Rattle.world.specs.Held.{world_of}
use Rattle.instruction_steps.specs.declared.status.Exit.TheVariants as exit
use Rattle.instruction_steps.specs.Held.{Left, handlers_in, waiting}
use Rattle.instruction_steps.proofs.Stopping.{served_alone}
use Rattle.model.specs.Language.Calls.{leave_op}
use Rattle.model.proofs.Machine.Standing.{fail_stands}
use Rattle.world.specs.Calling.{kept_with}
use Rattle.instruction_steps.specs.Calling.{waiting_below}
use Rattle.instruction_steps.proofs.Calling.{ended_is, end_stands, gave_back, gave_none}
use Rattle.instruction_steps.proofs.Flowing.{seen}
use Rattle.instruction_steps.proofs.Operations.{faults, gives, refuses}
use Rattle.instruction_steps.proofs.Telling.{no_records}
use Rattle.instruction_steps.proofs.Asked.{no_unit}
use Rattle.operations.proofs.Asked.{takes_on}
use Rattle.instruction_steps.specs.Stopped.{halted_by}
use Rattle.instruction_steps.specs.Asking.{io_at}
use Rattle.instruction_steps.specs.Calling.{given_by}
use Rattle.instruction_steps.proofs.state.State.end_call.Goals as goal

pub returns-in-Ok-Some-clause-served : goal.returns-in-Ok-Some-clause-served
returns-in-Ok-Some-clause-served g c =
    let s = c.args.self.now in
    let kept = c.args.kept.now in
    let mid = record s { saved = c.leave.new.saved; world = c.leave.new.self } in
    served_on c.resume.ensures.served
    (λ io io' p im fs.
    let o = leave_op c.args.kind (kept_with kept s.saved.items) (world_of s.world io) in
    subst (λ st. Left im fs c.resume.result c.resume.new.self io' st) (sym (ended_is im fs c.args.want_name c.args.place kept s mid refl refl c.in-Ok-Some.ensures.values c.args.kind io))
    (gives o (given_of c.in-Ok-Some.given) (world_of mid.world io) im fs c.resume.result c.resume.new.self io' (handlers_in im mid) (operands_of mid.operands.top) (waiting im fs mid) _
    (gave_back c.in-Ok-Some.field-0 c.in-Ok-Some.given (world_of mid.world io) o c.in-Ok-Some.field-0-is (c.in-Ok-Some.ensures.left io)) (p im fs)))

pub returns-in-Ok-None-clause-served : goal.returns-in-Ok-None-clause-served
returns-in-Ok-None-clause-served g c =
    let s = c.args.self.now in
    let kept = c.args.kept.now in
    let mid = record s { saved = c.leave.new.saved; world = c.leave.new.self } in
    served_alone g.U.Units c.args.units.now c.fail.result c.fail.ensures.stop
    (λ io im fs.
    let o = leave_op c.args.kind (kept_with kept s.saved.items) (world_of s.world io) in
    subst (λ st. Left im fs c.fail.result c.fail.new.self io st) (sym (ended_is im fs c.args.want_name c.args.place kept s mid refl refl c.in-Ok-None.ensures.values c.args.kind io))
    (refuses o (world_of mid.world io) im fs c.fail.result c.fail.new.self io (handlers_in im mid) (operands_of mid.operands.top) (waiting im fs mid) _
    (gave_none c.in-Ok-None.field-0 (world_of mid.world io) o c.in-Ok-None.field-0-is (c.in-Ok-None.ensures.left io)) (c.fail.ensures.left im fs io)))

pub returns-in-Ok-None-clause-sound : goal.returns-in-Ok-None-clause-sound
returns-in-Ok-None-clause-sound g c im fs h =
    let s = c.args.self.now in
    let mid = record s { saved = c.leave.new.saved; world = c.leave.new.self } in
    let m = end_stands im fs c.args.want_name c.args.place c.args.kept.now s mid refl refl c.in-Ok-None.ensures.values h in
    seen im fs c.fail.result c.fail.new.self no_records _ (c.fail.ensures.left im fs no_records)
    (fail_stands im m.0.0 (operands_of mid.operands.top) (handlers_in im mid) (waiting im fs mid) (world_of mid.world no_records) m.0.1 m.0.2 m.1)

pub returns-in-Err-clause-served : goal.returns-in-Err-clause-served
returns-in-Err-clause-served g c =
    let s = c.args.self.now in
    let kept = c.args.kept.now in
    let mid = record s { saved = c.leave.new.saved; world = c.leave.new.self } in
    served_alone g.U.Units c.args.units.now (Err (exit.Fault c.in-Err.fault)) c.in-Err.ensures.stop
    (λ io im fs. faults (leave_op c.args.kind (kept_with kept s.saved.items) (world_of s.world io)) c.in-Err.fault mid io (handlers_in im s) (operands_of s.operands.top) (waiting_below im fs kept s) _ (c.in-Err.ensures.left io))

pub returns-in-Ok-Some-clause-asked : goal.returns-in-Ok-Some-clause-asked
returns-in-Ok-Some-clause-asked g c im fs =
    let s = c.args.self.now in
    let kept = c.args.kept.now in
    let mid = record s { saved = c.leave.new.saved; world = c.leave.new.self } in
    takes_on _ (halted_by c.resume.result) _ _
    (λ io.
    let o = leave_op c.args.kind (kept_with kept s.saved.items) (world_of s.world io) in
    ap io_at (ended_is im fs c.args.want_name c.args.place kept s mid refl refl c.in-Ok-Some.ensures.values c.args.kind io)
    ∙ ap (λ x. io_at (given_by im fs c.args.want_name c.args.place x mid)) (gave_back c.in-Ok-Some.field-0 c.in-Ok-Some.given (world_of mid.world io) o c.in-Ok-Some.field-0-is (c.in-Ok-Some.ensures.left io)))
    (c.resume.ensures.asked im fs)

pub returns-in-Ok-None-clause-asked : goal.returns-in-Ok-None-clause-asked
returns-in-Ok-None-clause-asked g c im fs = no_unit c.fail.result _ c.fail.ensures.stop

pub returns-in-Err-clause-asked : goal.returns-in-Err-clause-asked
returns-in-Err-clause-asked g c im fs = no_unit (Err (exit.Fault c.in-Err.fault)) _ c.in-Err.ensures.stop
