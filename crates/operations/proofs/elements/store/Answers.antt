use Rattle.std.proofs.Common.{ap}
use Rattle.operations.proofs.Objects.{was_stored, not_stored}
use Rattle.operations.proofs.elements.store.Goals as goal

pub returns-then-branch-clause-stored : goal.returns-then-branch-clause-stored
returns-then-branch-clause-stored c io =
    was_stored c.args.world.now.variables c.objects_mut.result.now c.set.new.self c.args.world.now.functions c.args.world.now.keys c.args.world.now.level c.args.world.now.names c.args.world.now io c.args.object c.args.place c.args.value c.in_ok-set.field-0 (ap (λ os. record c.args.world.now { objects = os }) c.objects_mut.ensures.held) c.in_ok-set.ensures.stored c.if-branch.true

pub returns-clause-stored : goal.returns-clause-stored
returns-clause-stored c io =
    not_stored c.args.world.now.variables c.objects_mut.result.now c.set.new.self c.args.world.now.functions c.args.world.now.keys c.args.world.now.level c.args.world.now.names c.args.world.now io c.args.object c.args.place c.args.value c.in_ok-set.field-0 (ap (λ os. record c.args.world.now { objects = os }) c.objects_mut.ensures.held) c.in_ok-set.ensures.stored c.if-branch.false (c.in_ok-set.ensures.nowhere c.if-branch.false)
