use Rattle.values.specs.Values.{value_of}
use Rattle.world.specs.Held.{world_of}
use Rattle.primitives.proofs.Associations.{reads_now}
use Rattle.primitives.proofs.units.input.Goals as goal

pub returns-clause-answer : goal.returns-clause-answer
returns-clause-answer c io =
    reads_now (value_of c.args.variable.now) (value_of c.args.unit.now) (value_of c.null.result) c.in_ok-name.name (world_of c.args.world.now io) _ c.in_ok-name.ensures.variable c.null.ensures c.in_ok-unit.unit c.in_ok-unit.ensures (c.in_ok-read_from.ensures.set io)
