use Rattle.std.proofs.Common.{[], ◌∷◌, refl, rules}
use Rattle.values.specs.declared.value.Value.TheVariants as value
use Rattle.operations.proofs.Naming.{placed_value}
use Rattle.operations.proofs.elements.place_in.Goals as goal

pub returns : goal.returns
returns c =
    placed_value c.args.world.now c.objects.result.now c.args.object c.objects.ensures (value.Integer c.args.subscript ∷ []) c.args.subscript _ refl (search rules) c.place_of_one.result
    c.place_of_one.ensures
