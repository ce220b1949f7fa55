use Rattle.std.proofs.Common.{ap, sym, ◌∙◌}
use Rattle.model.specs.Language.Aggregates.{type_of}
use Rattle.values.specs.Values.{value_of}
use Rattle.world.specs.Held.{world_of}
use Rattle.primitives.proofs.functions.type_name.Goals as goal

pub returns-in-Object : goal.returns-in-Object
returns-in-Object c io = c.object_type.ensures io ∙ ap (λ v. type_of (world_of c.args.world.now io) (value_of v)) (sym c.in-Object.is)
