use Rattle.std.proofs.Common.{ap}
use Rattle.operations.proofs.Placed.{entry_assigned}
use Rattle.operations.proofs.elements.put_in_entry.Goals as goal

pub returns-clause-set : goal.returns-clause-set
returns-clause-set c q name is io =
    entry_assigned c.args.world.now.variables c.objects_mut.result.now c.put_entry-stored.new.self c.args.world.now.functions c.args.world.now.keys c.args.world.now.level c.args.world.now.names c.args.world.now c.args.object c.args.value c.put_entry-stored.result (ap (λ os. record c.args.world.now { objects = os }) c.objects_mut.ensures.held) c.args.index name is
    c.put_entry-stored.ensures.stored q io
