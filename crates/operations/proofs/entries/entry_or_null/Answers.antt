use Rattle.std.proofs.Common.{Some, ap, sym, ◌∙◌}
use Rattle.operations.proofs.TableValues.{entry_held, null_held}
use Rattle.operations.proofs.entries.entry_or_null.Goals as goal

pub returns-in-Some-entry-clause-there : goal.returns-in-Some-entry-clause-there
returns-in-Some-entry-clause-there c key at = entry_held c.args.world.now c.objects-in-Some.result.now c.objects-in-Some.ensures c.args.object key c.in-Some.index c.in-Some-entry.value.now (sym at ∙ c.in-Some.is) c.in-Some-entry.ensures

pub returns-in-Some-Table-clause-absent : goal.returns-in-Some-Table-clause-absent
returns-in-Some-Table-clause-absent c same key at =
    null_held c.args.world.now c.objects.result.now c.objects.ensures c.args.object key c.kind.result c.kind.ensures (c.in-Some-Table.is ∙ ap Some c.in-Some-Table.field-0-is) (sym at ∙ c.in-None.is)
