use Rattle.operations.proofs.Placed.{entry_fetched}
use Rattle.operations.proofs.elements.entry_at.Goals as goal

pub returns : goal.returns
returns c name is = entry_fetched c.args.world.now c.objects.result.now c.objects.ensures c.args.object c.args.index name c.in-Some.value.now is c.in-Some.ensures
