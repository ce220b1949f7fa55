use Rattle.values.specs.Values.{value_of}
use Rattle.world.specs.Held.{world_of}
use Rattle.primitives.proofs.Associations.{was_detached}
use Rattle.primitives.proofs.units.detach.Goals as goal

pub returns-clause-answer : goal.returns-clause-answer
returns-clause-answer c io =
    was_detached (value_of c.args.variable.now) (value_of c.null.result) (value_of c.null.result) c.in_ok-name.name (world_of c.args.world.now io) _ c.in_ok-name.ensures.variable c.null.ensures (c.in_ok-detach.ensures.set io)
