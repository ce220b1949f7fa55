use Rattle.std.proofs.Common.{sym}
use Rattle.aggregates.specs.Keys.{key_of}
use Rattle.operations.proofs.Placed.{key_indexed}
use Rattle.operations.proofs.elements.index_by.Goals as goal

pub returns : goal.returns
returns c = key_indexed c.args.world.now c.objects.result.now c.objects.ensures c.args.object (key_of c.args.key.now) c.in-Some.index (sym c.in-Some.ensures)
