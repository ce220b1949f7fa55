use Rattle.std.proofs.Common.{ap, map, ◌∙◌}
use Rattle.model.specs.Language.Aggregates.{field_values}
use Rattle.values.specs.Values.{value_of}
use Rattle.operations.proofs.Recorded.{constructed}
use Rattle.operations.proofs.records.construct.Goals as goal

pub returns-clause-made : goal.returns-clause-made
returns-clause-made c io =
    constructed c.args.world.now.variables c.objects_mut.result.now c.new_record.new.self c.args.world.now.functions c.args.world.now.keys c.args.world.now.level c.args.world.now.names c.args.world.now io
    c.args.type_name.now c.in_ok-clone.field-0 c.args.fields c.fit_to_fields.new.arguments.items (map value_of c.args.arguments.now.items) c.in_ok-number.number
    (ap (λ os. record c.args.world.now { objects = os }) c.objects_mut.ensures.held) c.in_ok-number.ensures.number c.in_ok-number.ensures.made c.in_ok-clone.ensures.cases
    (c.in_ok-fit_to_fields.ensures ∙ ap (λ fs. field_values fs (map value_of c.args.arguments.now.items)) c.as_slice.ensures)
