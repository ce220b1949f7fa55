use Rattle.std.proofs.Common.{ap, sym, ◌∙◌}
use Rattle.model.specs.Language.Calls.{as_name}
use Rattle.pattern_compiler.specs.View.{name_of}
use Rattle.frames.specs.View.{operands_of}
use Rattle.values.specs.Answers.{answer_map, op_of}
use Rattle.world.specs.Calling.{given_of}
use Rattle.world.specs.Held.{world_of}
use Rattle.values.specs.declared.fault.Fault.TheVariants.{Error}
use Rattle.instruction_steps.specs.Held.{handlers_in, waiting}
use Rattle.instruction_steps.proofs.Keys.{halts}
use Rattle.instruction_steps.proofs.Operations.{gives}
use Rattle.instruction_steps.proofs.state.State.resume_for_name.Goals as goal

pub returns-in-Ok-clause-left : goal.returns-in-Ok-clause-left
returns-in-Ok-clause-left c im fs io =
    let s = c.args.self.now in
    let w = world_of s.world io in
    gives (as_name (given_of c.args.given) w) (name_of c.in-Ok.name) w im fs c.put_name.result c.put_name.new.self io (handlers_in im s) (operands_of s.operands.top) (waiting im fs s) _
    (sym (c.into_name.ensures w) ∙ ap (λ r. op_of (answer_map name_of r) w) c.in-Ok.is)
    (c.put_name.ensures.left im fs io)

pub returns-in-Err-clause-left : goal.returns-in-Err-clause-left
returns-in-Err-clause-left c im fs io =
    let s = c.args.self.now in
    let w = world_of s.world io in
    halts (as_name (given_of c.args.given) w) (Error c.in-Err.code) s io (handlers_in im s) (operands_of s.operands.top) (waiting im fs s) _
    (sym (c.into_name.ensures w) ∙ ap (λ r. op_of (answer_map name_of r) w) c.in-Err.is)
