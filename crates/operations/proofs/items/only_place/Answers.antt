use Rattle.std.proofs.Common.{rules}
use Rattle.operations.proofs.Naming.{only_integer, placed_value}
use Rattle.operations.proofs.items.only_place.Goals as goal

pub returns-in-Integer : goal.returns-in-Integer
returns-in-Integer c =
    placed_value c.args.world.now c.objects.result.now c.args.object c.objects.ensures c.args.subscripts.now c.in-Integer.n _
    (only_integer c.args.subscripts.now c.subscript-item.result c.in-Integer.n c.in-len1.len_at_least c.in-len1.len_below c.subscript-item.is c.in-Integer.is)
    (search rules) c.place_of_one.result c.place_of_one.ensures
