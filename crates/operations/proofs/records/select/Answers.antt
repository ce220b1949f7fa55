use Rattle.std.proofs.Common.{ap, ◌∙◌}
use Rattle.model.specs.Language.Aggregates.{field_op}
use Rattle.model.specs.Language.Calls.{AName}
use Rattle.model.specs.Language.Conversions.{Gives, then_op}
use Rattle.world.specs.Held.{world_of}
use Rattle.operations.proofs.records.select.Goals as goal

pub returns : goal.returns
returns c io =
    ap (λ o. then_op o (λ n w. Gives (AName n) w)) (c.in_ok-name.ensures io ∙ ap (λ v. field_op c.args.field.now v (world_of c.args.world.now io)) c.argument.ensures)
