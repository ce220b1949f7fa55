use Rattle.std.proofs.Common.{ap}
use Rattle.world.proofs.Variables.{reads_set}
use Rattle.world.proofs.world.World.read_from.Goals as goal

pub returns-clause-set : goal.returns-clause-set
returns-clause-set c = reads_set c.args.self.now c.set_units.new.self c.args.name.now c.args.unit c.units-input.result.1 c.set_units.result (ap (λ p. p.1) c.units-input.ensures) c.set_units.ensures.set
