use Rattle.std.proofs.Common.{[], ap}
use Rattle.model.specs.Language.Values.{TableOf}
use Rattle.operations.proofs.Made.{made}
use Rattle.operations.proofs.making.table.Goals as goal

pub returns-clause-made : goal.returns-clause-made
returns-clause-made c io =
    made c.args.world.now.variables c.objects_mut.result.now c.new_table.new.self c.args.world.now.functions c.args.world.now.keys c.args.world.now.level c.args.world.now.names c.args.world.now io (TableOf []) c.in_ok-table.table (ap (λ os. record c.args.world.now { objects = os }) c.objects_mut.ensures.held) c.in_ok-table.ensures.number c.in_ok-table.ensures.made
