use Rattle.std.proofs.Common.{ap, refl, slice_get, subst, sym, ◌∙◌}
use Rattle.std.specs.Map.{values_of}
use Rattle.indexmap.specs.IndexMap.{with_value_at}
use Rattle.world.specs.Held.{WorldView, StandsIn}
use Rattle.values.specs.Values.{value_of}
use Rattle.world.proofs.Variables.{assigned_plain, named_still, others_at, plain_still, put_in_slot, silent_still}
use Rattle.world.proofs.world.World.set_plain.Goals as goal

pub returns-clause-set : goal.returns-clause-set
returns-clause-set c name plain io =
    let w = c.self.inside in
    assigned_plain c.args.self.now (record { variables = (with_value_at w.variables c.args.slot c.set.new.self).entries; objects = w.heap; functions = w.functions; keys = w.keywords; level = w.level; names = w.names.items }) name c.args.slot (value_of c.args.value) plain
    (λ x stands io. put_in_slot w.variables w.heap w.functions w.keywords w.level w.names.items c.args.self.now x c.args.slot c.in-Some.variable.now c.set.new.self c.args.value c.self.view_is
    c.get_index_mut.ensures.unique (subst (StandsIn x c.args.slot) (sym (ap {A = WorldView} (λ h. h.variables) c.self.view_is)) stands) c.in-Some.ensures.value c.set.ensures io)
    io

pub returns-clause-others : goal.returns-clause-others
returns-clause-others c name other at plain next =
    let w = c.self.inside in
    plain_still w.variables c.args.self.now _ name other c.args.slot at c.in-Some.variable.now c.set.new.self c.args.value (ap {A = WorldView} (λ h. h.variables) c.self.view_is) refl
    c.get_index_mut.ensures.unique c.in-Some.ensures.value c.set.ensures plain next

pub returns-clause-silent : goal.returns-clause-silent
returns-clause-silent c =
    let w = c.self.inside in
    silent_still w.variables c.args.self.now (record { variables = (with_value_at w.variables c.args.slot c.set.new.self).entries; objects = w.heap; functions = w.functions; keys = w.keywords; level = w.level; names = w.names.items }) c.args.slot c.in-Some.variable.now c.set.new.self c.args.value (ap {A = WorldView} (λ h. h.variables) c.self.view_is) refl
    c.get_index_mut.ensures.unique c.in-Some.ensures.value c.set.ensures

pub returns-clause-apart : goal.returns-clause-apart
returns-clause-apart c at u apart (v, there, is) =
    let es = c.self.inside.variables.entries in
    let before = ap {A = WorldView} (λ h. h.variables) c.self.view_is in
    (v, others_at es c.args.slot at c.set.new.self apart ∙ ap (λ l. slice_get (values_of l) at) before ∙ there, is)

pub invariant_of-self-2 : goal.invariant_of-self-2
invariant_of-self-2 c = (named_still c.self.inside.variables c.self.inside.names.items c.args.slot c.set.new.self c.self.invariant.0, c.self.invariant.1)
