use Rattle.std.proofs.Common.{◌+◌, ◌++◌, ap, drop, take, subst, sym}
use Rattle.model.specs.Language.Values.{Str}
use Rattle.indexmap.specs.IndexMap.{with_value_at}
use Rattle.world.specs.Held.{StandsIn, WorldView}
use Rattle.values.specs.declared.value.Value.TheVariants.{String}
use Rattle.world.proofs.Variables.{assigned_plain, holds_there, named_still, put_in_slot}
use Rattle.world.proofs.world.World.take_byte.Goals as goal

pub returns-clause-set : goal.returns-clause-set
returns-clause-set c = λ u name holds within few plain io.
    let w = c.self.inside in
    let h = c.args.self.now in
    let old = c.in-Some.found.now in
    let left = take c.args.place u ++ drop (c.args.place + 1) u in
    let before = ap {A = WorldView} (λ h. h.variables) c.self.view_is in
    let held = holds_there h w.variables.entries c.args.slot old (String u) before c.in-Some.ensures.value holds in
    assigned_plain h (record { variables = (with_value_at w.variables c.args.slot c.take_byte.new.self).entries; objects = w.heap; functions = w.functions; keys = w.keywords; level = w.level; names = w.names.items }) name c.args.slot (Str left) plain
    (λ y stands io. put_in_slot w.variables w.heap w.functions w.keywords w.level w.names.items h y c.args.slot old c.take_byte.new.self (String left) c.self.view_is
    c.get_index_mut.ensures.unique (subst (StandsIn y c.args.slot) (sym before) stands) c.in-Some.ensures.value (c.take_byte.ensures u held within few) io)
    io

pub invariant_of-self-2 : goal.invariant_of-self-2
invariant_of-self-2 c = (named_still c.self.inside.variables c.self.inside.names.items c.args.slot c.take_byte.new.self c.self.invariant.0, c.self.invariant.1)
