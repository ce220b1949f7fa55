use Rattle.std.proofs.Common.{sym}
use Rattle.model.specs.Language.Values.{StringAt}
use Rattle.operations.proofs.Placed.{key_indexed}
use Rattle.operations.proofs.elements.index_by_text.Goals as goal

pub returns : goal.returns
returns c = key_indexed c.args.world.now c.objects.result.now c.objects.ensures c.args.object (StringAt c.args.text.now) c.in-Some.index (sym c.in-Some.ensures)
