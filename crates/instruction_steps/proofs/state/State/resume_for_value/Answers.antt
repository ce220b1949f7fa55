use Rattle.std.proofs.Common.{false, refl}
use Rattle.std.specs.Prelude.{option_map}
use Rattle.model.specs.Language.Calls.{as_value}
use Rattle.model.specs.Machine.Standing.{given}
use Rattle.model.proofs.Machine.Standing as laws
use Rattle.loader.specs.Places.{offset_at}
use Rattle.frames.specs.View.{operands_of}
use Rattle.unit_io.proofs.Serving.{served_for}
use Rattle.values.specs.Answers.{answer_map, stopped_by}
use Rattle.world.specs.Calling.{given_of}
use Rattle.world.specs.Held.{world_of}
use Rattle.values.specs.Values.{value_of}
use Rattle.instruction_steps.specs.Held.{handlers_in, waiting}
use Rattle.instruction_steps.proofs.Flowing.{seen}
use Rattle.instruction_steps.proofs.Operations.{some_answer_or_failure}
use Rattle.instruction_steps.proofs.Telling.{no_records}
use Rattle.operations.proofs.Asked.{takes_on}
use Rattle.instruction_steps.proofs.Asked.{op_io}
use Rattle.instruction_steps.specs.Asking.{io_at}
use Rattle.instruction_steps.specs.Resuming.{resumed_with}
use Rattle.instruction_steps.proofs.state.State.resume_for_value.Goals as goal

pub returns-clause-served : goal.returns-clause-served
returns-clause-served g c =
    served_for c.returned_value-answer.ensures.served (c.gave.ensures.counts _ _)
    (λ io io' x im fs. c.gave.ensures.left im fs io' (as_value (given_of c.args.given) (world_of c.args.self.now.world io)) x)

pub returns-clause-sound : goal.returns-clause-sound
returns-clause-sound g c im fs h =
    let s = c.args.self.now in
    let o = some_answer_or_failure (answer_map (option_map value_of) c.returned_value-answer.result) (world_of c.returned_value-answer.new.world no_records) in
    seen im fs c.gave.result c.gave.new.self no_records _ (c.gave.ensures.left im fs no_records o.0 o.1)
    (laws.wait_stands im o.0 (offset_at im.code c.args.next) (given false) (handlers_in im s) (operands_of s.operands.top) (waiting im fs s) _ h.0 h.1 (λ v w1. ((h.0.0, h.0.1, h.0.3), h.1)))

pub returns-clause-quiet : goal.returns-clause-quiet
returns-clause-quiet g c = c.gave.ensures.quiet _ _ c.returned_value-answer.ensures.quiet

pub returns-clause-asked : goal.returns-clause-asked
returns-clause-asked g c im fs =
    let s = c.args.self.now in
    c.gave.ensures.asked _ (λ io. io_at (resumed_with im fs false c.args.next c.args.given s io))
    (takes_on _ (stopped_by c.returned_value-answer.result) _ _
    (λ io. op_io (as_value (given_of c.args.given) (world_of s.world io)) (handlers_in im s) (operands_of s.operands.top) (waiting im fs s) _ (λ v w. refl)) c.returned_value-answer.ensures.asked)
