use Rattle.std.proofs.Common.{rules, w64}
use Rattle.std.proofs.lemmas.Int.{to_z-of_z}
use Rattle.operations.proofs.Placed.{element_holds}
use Rattle.operations.proofs.elements.element_in.Goals as goal

pub returns : goal.returns
returns c =
    element_holds c.args.world.now c.objects.result.now c.objects.ensures c.args.object c.args.subscript _ c.in-Some.value.now
    (to_z-of_z w64 c.args.subscript (search rules)) c.in-Some.ensures
