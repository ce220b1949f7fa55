use Rattle.std.proofs.Common.{ap, refl, sym, true}
use Rattle.aggregates.specs.declared.place.ElementPlace.TheVariants as place
use Rattle.operations.proofs.Objects.{was_stored}
use Rattle.operations.proofs.elements.put_written.Goals as goal

pub returns-clause-set : goal.returns-clause-set
returns-clause-set c h io =
    was_stored c.args.world.now.variables c.objects_mut.result.now c.put_written.new.self c.args.world.now.functions c.args.world.now.keys c.args.world.now.level c.args.world.now.names c.args.world.now io c.args.object (place.Element c.args.index) c.args.value true (ap (λ os. record c.args.world.now { objects = os }) c.objects_mut.ensures.held) (sym (c.put_written.ensures.stored h)) refl
