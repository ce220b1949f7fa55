use Rattle.values.specs.Values.{value_of}
use Rattle.instruction_steps.proofs.Keys.{key_is_put, key_halts}
use Rattle.instruction_steps.proofs.state.State.keyword.Goals as goal

pub returns-in-Ok-clause-left : goal.returns-in-Ok-clause-left
returns-in-Ok-clause-left c im fs io =
    key_is_put im fs c.args.id c.args.next c.args.self.now c.put.new.self io (value_of c.in-Ok.value) c.put.result (c.in-Ok.ensures.value io) (c.put.ensures.left im fs io)

pub returns-in-Err-clause-left : goal.returns-in-Err-clause-left
returns-in-Err-clause-left c im fs io =
    key_halts im fs c.args.id c.args.next c.args.self.now io c.in-Err.fault (c.in-Err.ensures.value io)
