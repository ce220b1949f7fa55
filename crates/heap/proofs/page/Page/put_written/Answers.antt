use Rattle.std.proofs.Common.{length, Some, ap, arith, sym, true, ◌∙◌}
use Rattle.model.specs.Language.Operators.{with_element}
use Rattle.aggregates.specs.Made.{object_of}
use Rattle.heap.proofs.Objects.{objects_long, objects_same, objects_stored}
use Rattle.heap.proofs.page.Page.put_written.Goals as goal

pub returns-clause-stored : goal.returns-clause-stored
returns-clause-stored g c is =
    sym (objects_stored c.self.inside.objects.items c.args.self.now c.args.object c.put_written-stored.new.self c.index_mut.result.now true (with_element c.args.index c.args.value)
    c.self.view_is (omega arith) (sym (c.put_written-stored.ensures.stored is) ∙ ap (λ y. with_element c.args.index c.args.value (Some (object_of y))) c.index_mut.ensures.value))

pub returns-clause-nowhere : goal.returns-clause-nowhere
returns-clause-nowhere g c e =
    objects_same c.self.inside.objects.items c.args.object c.put_written-stored.new.self c.index_mut.result.now (omega arith) (c.put_written-stored.ensures.nowhere e ∙ ap object_of c.index_mut.ensures.value) ∙ c.self.view_is

pub returns-clause-long : goal.returns-clause-long
returns-clause-long g c = objects_long c.self.inside.objects.items c.args.object c.put_written-stored.new.self ∙ ap length c.self.view_is
