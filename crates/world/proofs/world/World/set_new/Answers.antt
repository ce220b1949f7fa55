use Rattle.world.proofs.Variables.{named_inserted}
use Rattle.world.proofs.world.World.set_new.Goals as goal

pub invariant_of-self-2 : goal.invariant_of-self-2
invariant_of-self-2 c = (named_inserted c.self.inside.variables.entries c.insert.new.self.entries c.self.inside.names.items c.in_ok-clone.field-0 _ c.in_ok-_none.ensures.entries c.self.invariant.0, c.self.invariant.1)
