use Rattle.world.proofs.Variables.{named_inserted}
use Rattle.world.proofs.world.World.put.Goals as goal

pub invariant_of-self-2 : goal.invariant_of-self-2
invariant_of-self-2 c = (named_inserted c.self.inside.variables.entries c.insert.new.self.entries c.self.inside.names.items c.in-Ok.name c.args.variable c.in_ok-_old.ensures.entries c.self.invariant.0, c.self.invariant.1)
