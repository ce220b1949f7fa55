use Rattle.std.proofs.Common.{sym, ap, ◌∙◌}
use Rattle.model.specs.Language.Aggregates.{field_op, named_field}
use Rattle.world.specs.Held.{world_of}
use Rattle.values.specs.Values.{value_of}
use Rattle.operations.proofs.Recorded.{field_is}
use Rattle.operations.proofs.records.field_named.Goals as goal

pub returns-in-Some : goal.returns-in-Some
returns-in-Some c io =
    let w = world_of c.args.world.now io in
    sym (
    ap (λ v. field_op c.args.field.now (value_of v) w) c.in-Object.is
    ∙ field_is c.args.world.now c.objects.result.now io c.args.field.now c.in-Object.object c.field.result c.objects.ensures c.field.ensures
    ∙ ap (λ r. named_field c.in-Object.object r w) c.in-Some.is
    )

pub returns-in-None : goal.returns-in-None
returns-in-None c io =
    let w = world_of c.args.world.now io in
    sym (
    ap (λ v. field_op c.args.field.now (value_of v) w) c.in-Object.is
    ∙ field_is c.args.world.now c.objects.result.now io c.args.field.now c.in-Object.object c.field.result c.objects.ensures c.field.ensures
    ∙ ap (λ r. named_field c.in-Object.object r w) c.in-None.is
    )
