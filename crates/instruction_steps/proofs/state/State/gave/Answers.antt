use Rattle.std.proofs.Common.{ap, subst, ◌∙◌, Ok}
use Rattle.std.specs.Prelude.{option_map}
use Rattle.frames.specs.View.{operands_of}
use Rattle.values.specs.Answers.{AnswersOrFails, answer_map}
use Rattle.world.specs.Held.{world_of}
use Rattle.values.specs.Values.{value_of}
use Rattle.instruction_steps.specs.Held.{handlers_in, waiting}
use Rattle.instruction_steps.proofs.Operations.{gives, refuses, faults}
use Rattle.instruction_steps.proofs.Asked.{no_unit, one_quiet, reads_quiet}
use Rattle.unit_io.specs.Service.{ReadsOne}
use Rattle.operations.specs.Asking.{Takes}
use Rattle.values.specs.Answers.{stopped_by}
use Rattle.instruction_steps.proofs.state.State.gave.Goals as goal

pub returns-in-Ok-Some-clause-left : goal.returns-in-Ok-Some-clause-left
returns-in-Ok-Some-clause-left c im fs io o a =
    let s = c.args.self.now in
    gives o (value_of c.in-Ok-Some.value) (world_of s.world io) im fs c.put.result c.put.new.self io (handlers_in im s) (operands_of s.operands.top) (waiting im fs s) _
    (subst (λ r. AnswersOrFails (answer_map (option_map value_of) r) (world_of s.world io) o) (c.in-Ok-Some.is ∙ ap (λ x. Ok x) c.in-Ok-Some.field-0-is) a)
    (c.put.ensures.left im fs io)

pub returns-in-Ok-None-clause-left : goal.returns-in-Ok-None-clause-left
returns-in-Ok-None-clause-left c im fs io o a =
    let s = c.args.self.now in
    refuses o (world_of s.world io) im fs c.fail.result c.fail.new.self io (handlers_in im s) (operands_of s.operands.top) (waiting im fs s) _
    (subst (λ r. AnswersOrFails (answer_map (option_map value_of) r) (world_of s.world io) o) (c.in-Ok-None.is ∙ ap (λ x. Ok x) c.in-Ok-None.field-0-is) a)
    (c.fail.ensures.left im fs io)

pub returns-in-Err-clause-left : goal.returns-in-Err-clause-left
returns-in-Err-clause-left c im fs io o a =
    let s = c.args.self.now in
    faults o c.in-Err.fault s io (handlers_in im s) (operands_of s.operands.top) (waiting im fs s) _
    (subst (λ r. AnswersOrFails (answer_map (option_map value_of) r) (world_of s.world io) o) c.in-Err.is a)

pub returns-in-Ok-Some-clause-asked : goal.returns-in-Ok-Some-clause-asked
returns-in-Ok-Some-clause-asked c may f h = no_unit c.put.result _ c.put.ensures.stop

pub returns-in-Ok-None-clause-asked : goal.returns-in-Ok-None-clause-asked
returns-in-Ok-None-clause-asked c may f h = no_unit c.fail.result _ c.fail.ensures.stop

pub returns-in-Err-clause-asked : goal.returns-in-Err-clause-asked
returns-in-Err-clause-asked c may f h = subst (λ r. Takes may (stopped_by r) f) c.in-Err.is h

pub returns-in-Ok-Some-clause-quiet : goal.returns-in-Ok-Some-clause-quiet
returns-in-Ok-Some-clause-quiet c before after h = reads_quiet c.put.result (stopped_by c.args.answer) before after c.put.ensures.stop h

pub returns-in-Ok-None-clause-quiet : goal.returns-in-Ok-None-clause-quiet
returns-in-Ok-None-clause-quiet c before after h = reads_quiet c.fail.result (stopped_by c.args.answer) before after c.fail.ensures.stop h

pub returns-in-Err-clause-quiet : goal.returns-in-Err-clause-quiet
returns-in-Err-clause-quiet c before after h = one_quiet _ before after (subst (λ r. ReadsOne (stopped_by r) before after) c.in-Err.is h)
