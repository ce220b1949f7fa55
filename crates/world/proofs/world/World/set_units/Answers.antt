use Rattle.std.proofs.Common.{ap, bytes_eq, sym, is_some, ◌∙◌}
use Rattle.indexmap.specs.IndexMap.{insert_entry}
use Rattle.values.specs.declared.variable.Variable.{Variable}
use Rattle.world.proofs.Variables.{named_inserted, units_there}
use Rattle.world.proofs.world.World.set_units.Goals as goal

pub returns-in-Some-clause-set : goal.returns-in-Some-clause-set
returns-in-Some-clause-set c io =
    let at = sym c.in-Some.ensures.value in
    let written = c.get_mut.follows.holds c.set_units.new.self in
    units_there c.self.inside.variables.entries _ c.self.inside.heap c.self.inside.functions c.self.inside.keywords c.self.inside.level c.self.inside.names.items c.args.self.now c.args.name.now c.in-Some.variable.now c.set_units.new.self c.args.input c.args.output
    c.self.view_is c.set_units.ensures at ((written.3 (ap is_some at)).0) io

pub invariant_of-self-2 : goal.invariant_of-self-2
invariant_of-self-2 c =
    let key = c.in_ok-clone.field-0 in
    let it : Variable = c.on_units-variable.result in (
      named_inserted c.self.inside.variables.entries c.insert.new.self.entries c.self.inside.names.items key it
          (c.in_ok-_none.ensures.entries ∙ ap (λ m. insert_entry bytes_eq m.entries key it) c.get_mut.follows.holds-at-none) c.self.invariant.0,
      c.self.invariant.1,
    )
