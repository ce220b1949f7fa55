use Rattle.std.proofs.Common.{ap, sym, subst, Err}
use Rattle.unit_io.proofs.Serving.{served_on}
use Rattle.instruction_steps.specs.declared.status.Exit.TheVariants as exit
use Rattle.instruction_steps.proofs.Stopping.{served_alone}
use Rattle.statement_machine.proofs.Matching.{code_stands, left_leaves}
use Rattle.statement_machine.specs.Runs.{Leaves}
use Rattle.model.specs.Language.Primitives.{prim_op}
use Rattle.model.specs.Machine.Steps.{codes_of}
use Rattle.model.proofs.Machine.Standing.{fail_stands}
use Rattle.frames.specs.View.{operands_of}
use Rattle.primitives.specs.declared.outcome.Outcome.TheVariants as outcome
use Rattle.world.specs.Held.{world_of}
use Rattle.instruction_steps.specs.Calling.{arguments_in}
use Rattle.instruction_steps.specs.Held.{handlers_in, waiting}
use Rattle.statement_machine.proofs.Calling.{came_bad, came_by}
use Rattle.instruction_steps.proofs.Flowing.{seen}
use Rattle.instruction_steps.proofs.Keys.{halts}
use Rattle.instruction_steps.proofs.Telling.{no_records}
use Rattle.operations.proofs.Asked.{takes_on}
use Rattle.instruction_steps.proofs.Asked.{no_unit}
use Rattle.instruction_steps.specs.Stopped.{halted_by}
use Rattle.instruction_steps.specs.Asking.{io_at}
use Rattle.statement_machine.proofs.run.Run.call_primitive.Goals as goal

pub returns-in-Ok-Value-clause-served : goal.returns-in-Ok-Value-clause-served
returns-in-Ok-Value-clause-served g c =
    let im = c.args.program.now in
    let r = c.args.self.now in
    served_on c.resume.ensures.served
    (λ io io' p. subst (λ st. Leaves im c.resume.result (record r { state = c.resume.new.self }) io' st)
    (sym (came_by im r.frames.top c.args.want_name c.args.id c.args.next r.state c.as_slice.result.now c.call_prim-outcome.new.world io c.as_slice.ensures.value c.in-Ok-Value.field-0 (outcome.Value c.in-Ok-Value.value) c.in-Ok-Value.field-0-is (c.in-Ok-Value.ensures.answer io)))
    (left_leaves im c.resume.result r c.resume.new.self io' _ c.requires.code (p im r.frames.top)))

pub returns-in-Ok-Name-clause-served : goal.returns-in-Ok-Name-clause-served
returns-in-Ok-Name-clause-served g c =
    let im = c.args.program.now in
    let r = c.args.self.now in
    served_on c.resume-in-Ok-Name.ensures.served
    (λ io io' p. subst (λ st. Leaves im c.resume-in-Ok-Name.result (record r { state = c.resume-in-Ok-Name.new.self }) io' st)
    (sym (came_by im r.frames.top c.args.want_name c.args.id c.args.next r.state c.as_slice.result.now c.call_prim-outcome.new.world io c.as_slice.ensures.value c.in-Ok-Name.field-0 (outcome.Name c.in-Ok-Name.name) c.in-Ok-Name.field-0-is (c.in-Ok-Name.ensures.answer io)))
    (left_leaves im c.resume-in-Ok-Name.result r c.resume-in-Ok-Name.new.self io' _ c.requires.code (p im r.frames.top)))

pub returns-in-Ok-Failure-clause-served : goal.returns-in-Ok-Failure-clause-served
returns-in-Ok-Failure-clause-served g c =
    let im = c.args.program.now in
    let r = c.args.self.now in
    served_alone g.U.Units c.args.units.now c.fail.result c.fail.ensures.stop
    (λ io. subst (λ st. Leaves im c.fail.result (record r { state = c.fail.new.self }) io st)
    (sym (came_by im r.frames.top c.args.want_name c.args.id c.args.next r.state c.as_slice.result.now c.call_prim-outcome.new.world io c.as_slice.ensures.value c.in-Ok-Failure.field-0 outcome.Failure c.in-Ok-Failure.field-0-is (c.in-Ok-Failure.ensures.answer io)))
    (left_leaves im c.fail.result r c.fail.new.self io _ c.requires.code (c.fail.ensures.left im r.frames.top io)))

pub returns-in-Ok-Failure-clause-sound : goal.returns-in-Ok-Failure-clause-sound
returns-in-Ok-Failure-clause-sound g c h =
    let im = c.args.program.now in
    let r = c.args.self.now in
    let s = r.state in
    code_stands im c.fail.result r c.fail.new.self c.requires.code
    (seen im r.frames.top c.fail.result c.fail.new.self no_records _ (c.fail.ensures.left im r.frames.top no_records)
    (fail_stands im h.0.0 (operands_of s.operands.top) (handlers_in im s) (waiting im r.frames.top s) (world_of c.call_prim-outcome.new.world no_records) h.0.1 h.0.2 h.1))

pub returns-in-Ok-Call-clause-served : goal.returns-in-Ok-Call-clause-served
returns-in-Ok-Call-clause-served g c =
    let im = c.args.program.now in
    let r = c.args.self.now in
    served_on c.call_function.ensures.served
    (λ io io' l. subst (λ st. Leaves im c.call_function.result c.call_function.new.self io' st)
    (sym (came_by im r.frames.top c.args.want_name c.args.id c.args.next r.state c.as_slice.result.now c.call_prim-outcome.new.world io c.as_slice.ensures.value c.in-Ok-Call.field-0 (outcome.Call c.in-Ok-Call.name c.in-Ok-Call.arguments) c.in-Ok-Call.field-0-is (c.in-Ok-Call.ensures.answer io))) l)

pub returns-in-Err-clause-served : goal.returns-in-Err-clause-served
returns-in-Err-clause-served g c =
    let im = c.args.program.now in
    let r = c.args.self.now in
    let s = r.state in
    served_alone g.U.Units c.args.units.now (Err (exit.Fault c.in-Err.fault)) c.in-Err.ensures.stop
    (λ io. halts (prim_op codes_of c.args.id (arguments_in s) (world_of s.world io)) c.in-Err.fault (record s { world = c.call_prim-outcome.new.world }) io (handlers_in im s) (operands_of s.operands.top) (waiting im r.frames.top s) _
    (came_bad im r.frames.top c.args.want_name c.args.id c.args.next s c.as_slice.result.now c.call_prim-outcome.new.world io c.as_slice.ensures.value c.in-Err.fault (c.in-Err.ensures.answer io)))

pub returns-in-Ok-Value-clause-asked : goal.returns-in-Ok-Value-clause-asked
returns-in-Ok-Value-clause-asked g c =
    let im = c.args.program.now in
    let r = c.args.self.now in
    takes_on _ (halted_by c.resume.result) _ _
    (λ io. ap io_at (came_by im r.frames.top c.args.want_name c.args.id c.args.next r.state c.as_slice.result.now c.call_prim-outcome.new.world io c.as_slice.ensures.value c.in-Ok-Value.field-0 (outcome.Value c.in-Ok-Value.value) c.in-Ok-Value.field-0-is (c.in-Ok-Value.ensures.answer io)))
    (c.resume.ensures.asked im r.frames.top)

pub returns-in-Ok-Name-clause-asked : goal.returns-in-Ok-Name-clause-asked
returns-in-Ok-Name-clause-asked g c =
    let im = c.args.program.now in
    let r = c.args.self.now in
    takes_on _ (halted_by c.resume-in-Ok-Name.result) _ _
    (λ io. ap io_at (came_by im r.frames.top c.args.want_name c.args.id c.args.next r.state c.as_slice.result.now c.call_prim-outcome.new.world io c.as_slice.ensures.value c.in-Ok-Name.field-0 (outcome.Name c.in-Ok-Name.name) c.in-Ok-Name.field-0-is (c.in-Ok-Name.ensures.answer io)))
    (c.resume-in-Ok-Name.ensures.asked im r.frames.top)

pub returns-in-Ok-Failure-clause-asked : goal.returns-in-Ok-Failure-clause-asked
returns-in-Ok-Failure-clause-asked g c = no_unit c.fail.result _ c.fail.ensures.stop

pub returns-in-Ok-Call-clause-asked : goal.returns-in-Ok-Call-clause-asked
returns-in-Ok-Call-clause-asked g c =
    let im = c.args.program.now in
    let r = c.args.self.now in
    takes_on _ (halted_by c.call_function.result) _ _
    (λ io. ap io_at (came_by im r.frames.top c.args.want_name c.args.id c.args.next r.state c.as_slice.result.now c.call_prim-outcome.new.world io c.as_slice.ensures.value c.in-Ok-Call.field-0 (outcome.Call c.in-Ok-Call.name c.in-Ok-Call.arguments) c.in-Ok-Call.field-0-is (c.in-Ok-Call.ensures.answer io)))
    c.call_function.ensures.asked

pub returns-in-Err-clause-asked : goal.returns-in-Err-clause-asked
returns-in-Err-clause-asked g c = no_unit (Err (exit.Fault c.in-Err.fault)) _ c.in-Err.ensures.stop
