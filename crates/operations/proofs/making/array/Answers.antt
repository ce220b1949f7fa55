use Rattle.std.proofs.Common.{ap}
use Rattle.operations.proofs.Made.{was_filled}
use Rattle.operations.proofs.making.array.Goals as goal

pub returns-clause-made : goal.returns-clause-made
returns-clause-made c io =
    was_filled c.args.world.now.variables c.objects_mut.result.now c.new_array.new.self c.args.world.now.functions c.args.world.now.keys c.args.world.now.level c.args.world.now.names c.args.world.now io c.in_ok-array.field-0 c.args.bounds.items c.args.value.now
    (ap (λ os. record c.args.world.now { objects = os }) c.objects_mut.ensures.held) c.in_ok-array.ensures.number c.in_ok-array.ensures.made c.in-Some.array c.in-Some.is
