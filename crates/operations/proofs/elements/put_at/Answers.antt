use Rattle.std.proofs.Common.{ap, slice_get, sym, ◌∙◌}
use Rattle.model.specs.Language.Operators.{put_object}
use Rattle.aggregates.specs.Objects.{stored_at}
use Rattle.world.specs.Held.{world_of}
use Rattle.values.specs.Values.{value_of}
use Rattle.operations.proofs.elements.put_at.Goals as goal

pub returns-clause-set : goal.returns-clause-set
returns-clause-set c e io =
    let w = world_of c.args.world.now io in
    ap (λ v. put_object c.args.object (stored_at c.args.place (value_of v) (slice_get w.objects c.args.object)) w) (sym c.in-Ok.ensures.cases) ∙ c.in-Ok-store.ensures.stored io
