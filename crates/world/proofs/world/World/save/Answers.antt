use Rattle.std.proofs.Common.{ap, subst, sym}
use Rattle.world.specs.Held.{WorldView, StandsIn}
use Rattle.world.proofs.Variables.{named_still, put_in_slot}
use Rattle.world.proofs.world.World.save.Goals as goal

pub returns-clause-set : goal.returns-clause-set
returns-clause-set c io =
    let stands = subst (StandsIn c.args.name.now c.in-Some.at) (sym (ap {A = WorldView} (λ h. h.variables) c.self.view_is)) c.in-Some.ensures.entry in
    let found = c.in-Some-get_index_mut in
    put_in_slot c.self.inside.variables c.self.inside.heap c.self.inside.functions c.self.inside.keywords c.self.inside.level c.self.inside.names.items c.args.self.now c.args.name.now c.in-Some.at found.variable.now c.replace.new.self c.args.value c.self.view_is c.get_index_mut.ensures.unique stands found.ensures.value c.replace.ensures.set io

pub invariant_of-self : goal.invariant_of-self
invariant_of-self c = (named_still c.self.inside.variables c.self.inside.names.items c.in-Some.at c.replace.new.self c.self.invariant.0, c.self.invariant.1)
