use Rattle.values.specs.Functions.{function_at}
use Rattle.values.proofs.Tables.{named_there}
use Rattle.values.proofs.functions.FunctionTable.get.Goals as goal

pub returns-clause-named : goal.returns-clause-named
returns-clause-named c = named_there c.args.name.now c.find.result (function_at c.args.name.now c.self.inside.functions.entries) c.find.ensures (c.self.invariant c.args.name.now)
