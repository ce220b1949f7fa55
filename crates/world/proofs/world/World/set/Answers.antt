use Rattle.std.proofs.Common.{◌≡◌, Some, ap, subst, sym, slice_get, ◌∙◌}
use Rattle.std.specs.Map.{values_of}
use Rattle.world.specs.Held.{WorldView, StandsIn, output_in}
use Rattle.world.proofs.Variables.{held_there, named_still, put_in_slot}
use Rattle.world.proofs.world.World.set.Goals as goal

pub returns-clause-set : goal.returns-clause-set
returns-clause-set c io =
    let stands = subst (StandsIn c.args.name.now c.in-Some.at) (sym (ap {A = WorldView} (λ h. h.variables) c.self.view_is)) c.in-Some.ensures.entry in
    let found = c.in-Some-get_index_mut in
    put_in_slot c.self.inside.variables c.self.inside.heap c.self.inside.functions c.self.inside.keywords c.self.inside.level c.self.inside.names.items c.args.self.now c.args.name.now c.in-Some.at found.variable.now c.set.new.self c.args.value c.self.view_is c.get_index_mut.ensures.unique stands found.ensures.value c.set.ensures io

pub returns-clause-output : goal.returns-clause-output
returns-clause-output c =
    let same = ap {A = WorldView} (λ h. h.variables) c.self.view_is in
    let there = subst (λ vs. Some c.in-Some-get_index_mut.variable.now ≡ slice_get (values_of vs) c.in-Some.at) same c.in-Some-get_index_mut.ensures.value in
    ap (λ v. v.output) c.set.ensures
    ∙ sym (ap output_in (held_there c.args.self.now.variables c.args.name.now c.in-Some.at c.in-Some-get_index_mut.variable.now c.in-Some.ensures.entry there))

pub invariant_of-self : goal.invariant_of-self
invariant_of-self c = (named_still c.self.inside.variables c.self.inside.names.items c.in-Some.at c.set.new.self c.self.invariant.0, c.self.invariant.1)
