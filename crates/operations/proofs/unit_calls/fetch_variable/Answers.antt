use Rattle.std.proofs.Common.{Some, refl, rules}
use Rattle.std.specs.Prelude.{option_map}
use Rattle.values.specs.Answers.{answer_map}
use Rattle.values.specs.Values.{value_of}
use Rattle.operations.proofs.UnitCalls.{unit_served}
use Rattle.operations.proofs.unit_calls.fetch_variable.Goals as goal

pub returns-clause-served : goal.returns-clause-served
returns-clause-served g c =
    unit_served c.args.name.now c.in-Some-reads.unit c.args.world.now c.read.new.world c.in-Some.variable.now (Some c.in-Some-reads.unit) (answer_map (option_map value_of) c.read.result) (search rules) (search rules) refl c.read.ensures.served
