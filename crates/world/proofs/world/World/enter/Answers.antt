use Rattle.std.proofs.Common.{ap, sym, rules}
use Rattle.world.specs.Held.{WorldView}
use Rattle.world.proofs.Variables.{named_inserted, put_last}
use Rattle.world.proofs.world.World.enter.Goals as goal

pub returns-clause-slot : goal.returns-clause-slot
returns-clause-slot c =
    put_last c.self.inside.variables.entries c.args.self.now.variables c.insert.new.self.entries c.args.name.now c.in_ok-clone.field-0 _ c.in-Ok-try_from.slot
    (ap {A = WorldView} (λ h. h.variables) c.self.view_is) (sym c.in_default.ensures.there) c.in_ok-clone.ensures.cases c.in_ok-_none.ensures.entries (search rules)

pub invariant_of-self-2 : goal.invariant_of-self-2
invariant_of-self-2 c = (named_inserted c.self.inside.variables.entries c.insert.new.self.entries c.self.inside.names.items c.in_ok-clone.field-0 _ c.in_ok-_none.ensures.entries c.self.invariant.0, c.self.invariant.1)
