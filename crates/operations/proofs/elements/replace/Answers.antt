use Rattle.std.proofs.Common.{ap, rules, sym, ◌∙◌}
use Rattle.pattern_compiler.specs.declared.instr.Name.TheVariants as name
use Rattle.values.specs.Values.{value_of}
use Rattle.operations.proofs.Placed.{integer_set, key_set, name_set}
use Rattle.operations.proofs.elements.replace.Goals as goal

pub returns-in-Integer-clause-set : goal.returns-in-Integer-clause-set
returns-in-Integer-clause-set c e =
    let at = name.Element c.in-Element.object c.in-Element.index in
    name_set c.args.name.now at (value_of c.args.value.now) c.args.world.now c.put_integer.new.world c.in-Element.is
    (integer_set at c.args.value.now c.in-Integer.n _ c.args.world.now c.put_integer.new.world c.in-Integer.is (search rules) (c.put_integer.ensures.set e))

pub returns-in_default-clause-set : goal.returns-in_default-clause-set
returns-in_default-clause-set c e = name_set c.args.name.now (name.Element c.in-Element.object c.in-Element.index) (value_of c.args.value.now) c.args.world.now c.put_at.new.world c.in-Element.is (c.put_at.ensures.set e)

pub returns-in-IntegerKey-clause-set : goal.returns-in-IntegerKey-clause-set
returns-in-IntegerKey-clause-set c e =
    key_set c.args.name.now c.in-IntegerKey.object c.in-IntegerKey.key _ (value_of c.args.value.now) c.args.world.now c.put_at-in-IntegerKey.new.world c.in-IntegerKey.is (search rules) (c.put_at-in-IntegerKey.ensures.set e)

pub returns-in-Ok-clause-set : goal.returns-in-Ok-clause-set
returns-in-Ok-clause-set c e =
    name_set c.args.name.now (name.StringKey c.in-StringKey.object c.in-Ok.key) (value_of c.args.value.now) c.args.world.now c.put_at-in-StringKey.new.world (c.in-StringKey.is ∙ ap (name.StringKey c.in-StringKey.object) (sym c.in-Ok.ensures.cases))
    (c.put_at-in-StringKey.ensures.set e)
