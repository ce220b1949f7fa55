use Rattle.std.proofs.Common.{rules}
use Rattle.operations.proofs.Placed.{array_named}
use Rattle.operations.proofs.elements.named.Goals as goal

pub returns : goal.returns
returns c =
    array_named c.args.world.now c.objects.result.now c.objects.ensures c.in-Object.object c.in-Some.index c.args.base.now c.args.subscript.now c.in-Integer.n _
    c.in-Object.is c.in-Integer.is (search rules) c.in-Some.ensures
