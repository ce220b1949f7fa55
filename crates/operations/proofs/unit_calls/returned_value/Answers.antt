use Rattle.std.proofs.Common.{ap}
use Rattle.model.specs.Language.Calls.{as_value}
use Rattle.values.specs.Answers.{stopped_by}
use Rattle.operations.specs.Asking.{io_after}
use Rattle.world.specs.Calling.{given_of}
use Rattle.world.specs.Held.{world_of}
use Rattle.operations.proofs.Asked.{takes_on}
use Rattle.unit_io.proofs.Serving.{served_on}
use Rattle.operations.proofs.unit_calls.returned_value.Goals as goal

pub returns-in-Name-clause-asked : goal.returns-in-Name-clause-asked
returns-in-Name-clause-asked g c =
    takes_on _ (stopped_by c.fetch.result) _ _ (λ io. ap (λ x. io_after (as_value (given_of x) (world_of c.args.world.now io))) c.in-Name.is) c.fetch.ensures.asked

pub returns-in-Name-clause-served : goal.returns-in-Name-clause-served
returns-in-Name-clause-served g c = served_on c.fetch.ensures.served (λ io io' p. rw c.in-Name.is p)
