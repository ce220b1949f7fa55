use Rattle.std.proofs.Common.{[], ap, ◌∙◌, sym, Some}
use Rattle.std.specs.Prelude.{option_map, option_copied, unwrap_or}
use Rattle.model.specs.Language.Values.{Str}
use Rattle.aggregates.specs.Keys.{key_of}
use Rattle.values.specs.Values.{value_of}
use Rattle.operations.proofs.Objects.{entry_got}
use Rattle.operations.proofs.elements.entry.Goals as goal

pub returns-in-Some-clause-value : goal.returns-in-Some-clause-value
returns-in-Some-clause-value c io =
    entry_got c.args.world.now c.objects-objects.result.now io c.args.object (key_of c.args.key) c.kind.result c.get.result _ c.objects-objects.ensures c.kind.ensures (c.in-Some-Table.is ∙ ap Some c.in-Some-Table.field-0-is) c.get.ensures
    (ap value_of c.in_ok-clone-in-Some.ensures.cases ∙ ap (λ o. unwrap_or (option_map value_of (option_copied o)) (Str [])) (sym c.in-Some.is))

pub returns-clause-value : goal.returns-clause-value
returns-clause-value c io =
    entry_got c.args.world.now c.objects-objects.result.now io c.args.object (key_of c.args.key) c.kind.result c.get.result _ c.objects-objects.ensures c.kind.ensures (c.in-Some-Table.is ∙ ap Some c.in-Some-Table.field-0-is) c.get.ensures
    (c.null.ensures ∙ ap (λ o. unwrap_or (option_map value_of (option_copied o)) (Str [])) (sym c.in-None.is))
