use Rattle.std.proofs.Common.{ap, ◌∙◌}
use Rattle.model.specs.Language.Aggregates.{copy_op}
use Rattle.values.specs.Values.{value_of}
use Rattle.world.specs.Held.{world_of}
use Rattle.operations.proofs.Made.{was_copied}
use Rattle.operations.proofs.making.copy.Goals as goal

pub returns-clause-made : goal.returns-clause-made
returns-clause-made c io =
    ap (λ x. copy_op (value_of x) (world_of c.args.world.now io)) c.in-Object.is
    ∙ was_copied c.args.world.now.variables c.objects_mut.result.now c.copy_array.new.self c.args.world.now.functions c.args.world.now.keys c.args.world.now.level c.args.world.now.names c.args.world.now io c.in-Object.object c.in_ok-copy.field-0
    (ap (λ os. record c.args.world.now { objects = os }) c.objects_mut.ensures.held) c.in_ok-copy.ensures.number c.in_ok-copy.ensures.made c.in-Some.copy c.in-Some.is
