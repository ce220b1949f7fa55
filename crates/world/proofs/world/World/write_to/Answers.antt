use Rattle.std.proofs.Common.{ap}
use Rattle.world.proofs.Variables.{writes_set}
use Rattle.world.proofs.world.World.write_to.Goals as goal

pub returns-clause-set : goal.returns-clause-set
returns-clause-set c = writes_set c.args.self.now c.set_units.new.self c.args.name.now c.args.unit c.units-input.result.0 c.set_units.result (ap (λ p. p.0) c.units-input.ensures) c.set_units.ensures.set
