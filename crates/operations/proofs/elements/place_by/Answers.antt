use Rattle.operations.proofs.Naming.{placed_for}
use Rattle.operations.proofs.elements.place_by.Goals as goal

pub returns : goal.returns
returns c = placed_for c.args.world.now c.objects.result.now c.args.object c.objects.ensures c.args.subscripts.now c.place.result c.place.ensures
