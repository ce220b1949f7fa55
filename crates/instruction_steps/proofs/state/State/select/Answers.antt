use Rattle.std.proofs.Common.{map, ap, sym, ◌∙◌, Err}
use Rattle.frames.specs.View.{operands_of}
use Rattle.unit_io.proofs.Serving.{served_on}
use Rattle.world.specs.Calling.{given_of}
use Rattle.world.specs.Held.{world_of}
use Rattle.values.specs.Values.{value_of}
use Rattle.instruction_steps.specs.declared.status.Exit.TheVariants as exit
use Rattle.instruction_steps.specs.Held.{handlers_in, waiting}
use Rattle.instruction_steps.proofs.Stopping.{served_alone}
use Rattle.model.specs.Language.Calls.{select_op}
use Rattle.values.specs.Answers.{answer_map, op_of}
use Rattle.values.specs.declared.fault.Fault.TheVariants.{Error}
use Rattle.instruction_steps.specs.Calling.{arguments_in}
use Rattle.instruction_steps.proofs.Keys.{halts}
use Rattle.instruction_steps.proofs.Operations.{gives}
use Rattle.operations.proofs.Asked.{takes_on}
use Rattle.instruction_steps.specs.Stopped.{halted_by}
use Rattle.instruction_steps.specs.Asking.{io_at}
use Rattle.instruction_steps.specs.Calling.{given_by}
use Rattle.instruction_steps.proofs.state.State.select.Goals as goal

pub returns-in-Ok-clause-served : goal.returns-in-Ok-clause-served
returns-in-Ok-clause-served g c =
    let s = c.args.self.now in
    served_on c.resume.ensures.served
    (λ io io' p im fs.
    let w = world_of s.world io in
    gives (select_op c.args.name.now (arguments_in s) w) (given_of c.in-Ok.given) w im fs c.resume.result c.resume.new.self io' (handlers_in im s) (operands_of s.operands.top) (waiting im fs s) _
    (ap (λ xs. select_op c.args.name.now (map value_of xs) w) (sym c.as_slice.ensures.value) ∙ sym (c.select.ensures io) ∙ ap (λ r. op_of (answer_map given_of r) w) c.in-Ok.is) (p im fs))

pub returns-in-Err-clause-served : goal.returns-in-Err-clause-served
returns-in-Err-clause-served g c =
    let s = c.args.self.now in
    served_alone g.U.Units c.args.units.now (Err (exit.Fault (Error c.in-Err.code))) tt
    (λ io im fs.
    let w = world_of s.world io in
    halts (select_op c.args.name.now (arguments_in s) w) (Error c.in-Err.code) s io (handlers_in im s) (operands_of s.operands.top) (waiting im fs s) _
    (ap (λ xs. select_op c.args.name.now (map value_of xs) w) (sym c.as_slice.ensures.value) ∙ sym (c.select.ensures io) ∙ ap (λ r. op_of (answer_map given_of r) w) c.in-Err.is))

pub returns-in-Ok-clause-asked : goal.returns-in-Ok-clause-asked
returns-in-Ok-clause-asked g c im fs =
    let s = c.args.self.now in
    takes_on _ (halted_by c.resume.result) _ _
    (λ io.
    let w = world_of s.world io in
    ap (λ o. io_at (given_by im fs c.args.want_name c.args.next o s)) (ap (λ xs. select_op c.args.name.now (map value_of xs) w) (sym c.as_slice.ensures.value) ∙ sym (c.select.ensures io) ∙ ap (λ r. op_of (answer_map given_of r) w) c.in-Ok.is))
    (c.resume.ensures.asked im fs)
