use Rattle.std.proofs.Common.{Some, ap, sym, ◌∙◌}
use Rattle.std.specs.Option.{option_copied}
use Rattle.std.specs.Prelude.{option_map}
use Rattle.values.specs.Functions.{function_of}
use Rattle.operations.proofs.Recorded.{field_named}
use Rattle.operations.proofs.records.field_place.Goals as goal

pub returns : goal.returns
returns c =
    field_named c.args.world.now c.objects.result.now c.in-Some.name.now c.args.object c.args.slot c.field.result c.objects.ensures c.field.ensures
    c.in-Some.ensures (λ io.
    sym (c.held_function.ensures.function io)
    ∙ ap (λ r. option_map function_of (option_copied r)) c.in-Some-Field.is
    ∙ ap (λ f. Some (function_of f)) c.in-Some-Field.field-0-is)
