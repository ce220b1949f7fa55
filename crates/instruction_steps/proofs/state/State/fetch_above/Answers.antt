use Rattle.std.proofs.Common.{ap, drop}
use Rattle.std.specs.Prelude.{option_map}
use Rattle.values.specs.Answers.{answer_map, stopped_by}
use Rattle.values.specs.Values.{value_of}
use Rattle.unit_io.proofs.Serving.{served_for}
use Rattle.instruction_steps.proofs.Fetching.{fetched_above, fetch_above_io, fetch_above_sound}
use Rattle.operations.proofs.Asked.{takes_on}
use Rattle.instruction_steps.specs.Asking.{io_at}
use Rattle.model.specs.declared.instr.Instr.TheVariants as op
use Rattle.instruction_steps.specs.Held.{after}
use Rattle.instruction_steps.proofs.state.State.fetch_above.Goals as goal

pub returns-clause-served : goal.returns-clause-served
returns-clause-served g c =
    served_for c.fetch_at-answer.ensures.served (c.gave.ensures.counts _ _)
    (λ io io' x im fs. fetched_above im fs c.args.next c.args.self.now c.gave.new.self c.fetch_at-answer.new.world c.gave.result (record c.args.self.now.operands { top = drop 1 c.args.self.now.operands.top }) c.top_name-named.result.now
    (answer_map (option_map value_of) c.fetch_at-answer.result)
    (ap (λ l. record c.args.self.now.operands { top = l }) c.top_name-named.ensures) (c.gave.ensures.left im fs) io io' x)

pub returns-clause-sound : goal.returns-clause-sound
returns-clause-sound g c im fs h =
    fetch_above_sound im fs c.args.next c.args.self.now c.gave.new.self c.fetch_at-answer.new.world c.gave.result (record c.args.self.now.operands { top = drop 1 c.args.self.now.operands.top }) c.top_name-named.result.now
    (answer_map (option_map value_of) c.fetch_at-answer.result) h
    (ap (λ l. record c.args.self.now.operands { top = l }) c.top_name-named.ensures) (c.gave.ensures.left im fs)

pub returns-clause-quiet : goal.returns-clause-quiet
returns-clause-quiet g c = c.gave.ensures.quiet _ _ c.fetch_at-answer.ensures.quiet

pub returns-clause-asked : goal.returns-clause-asked
returns-clause-asked g c im fs =
    c.gave.ensures.asked _ (λ io. io_at (after im op.FetchK c.args.next fs c.args.self.now io))
    (takes_on _ (stopped_by c.fetch_at-answer.result) _ _ (fetch_above_io im fs c.args.next c.args.self.now c.gave.new.self c.fetch_at-answer.new.world c.gave.result (record c.args.self.now.operands { top = drop 1 c.args.self.now.operands.top }) c.top_name-named.result.now
    (ap (λ l. record c.args.self.now.operands { top = l }) c.top_name-named.ensures)) c.fetch_at-answer.ensures.asked)
