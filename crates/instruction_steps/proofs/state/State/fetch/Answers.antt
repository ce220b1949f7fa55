use Rattle.std.specs.Prelude.{option_map}
use Rattle.values.specs.Answers.{answer_map, stopped_by}
use Rattle.values.specs.Values.{value_of}
use Rattle.unit_io.proofs.Serving.{served_for}
use Rattle.instruction_steps.proofs.Fetching.{fetched, fetch_io, fetch_sound}
use Rattle.operations.proofs.Asked.{takes_on}
use Rattle.instruction_steps.specs.Asking.{io_at}
use Rattle.model.specs.declared.instr.Instr.TheVariants as op
use Rattle.instruction_steps.specs.Held.{after}
use Rattle.instruction_steps.proofs.state.State.fetch.Goals as goal

pub returns-clause-served : goal.returns-clause-served
returns-clause-served g c =
    served_for c.fetch_at-answer.ensures.served (c.gave.ensures.counts _ _)
    (λ io io' x im fs. fetched im fs c.args.next c.args.self.now c.gave.new.self c.fetch_at-answer.new.world c.gave.result c.pop_name-named.new.operands c.pop_name-named.result
    (answer_map (option_map value_of) c.fetch_at-answer.result)
    (c.pop_name-named.ensures) (c.gave.ensures.left im fs) io io' x)

pub returns-clause-sound : goal.returns-clause-sound
returns-clause-sound g c im fs h =
    fetch_sound im fs c.args.next c.args.self.now c.gave.new.self c.fetch_at-answer.new.world c.gave.result c.pop_name-named.new.operands c.pop_name-named.result
    (answer_map (option_map value_of) c.fetch_at-answer.result) h
    (c.pop_name-named.ensures) (c.gave.ensures.left im fs)

pub returns-clause-quiet : goal.returns-clause-quiet
returns-clause-quiet g c = c.gave.ensures.quiet _ _ c.fetch_at-answer.ensures.quiet

pub returns-clause-asked : goal.returns-clause-asked
returns-clause-asked g c im fs =
    c.gave.ensures.asked _ (λ io. io_at (after im op.Fetch c.args.next fs c.args.self.now io))
    (takes_on _ (stopped_by c.fetch_at-answer.result) _ _ (fetch_io im fs c.args.next c.args.self.now c.gave.new.self c.fetch_at-answer.new.world c.gave.result c.pop_name-named.new.operands c.pop_name-named.result c.pop_name-named.ensures) c.fetch_at-answer.ensures.asked)
