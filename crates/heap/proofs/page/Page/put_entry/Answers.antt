use Rattle.std.proofs.Common.{length, ◌≡◌, Some, ap, arith, slice_get, sym, ◌∙◌}
use Rattle.model.specs.Language.Operators.{with_value_for}
use Rattle.aggregates.specs.Made.{object_of}
use Rattle.aggregates.specs.Objects.{index_in}
use Rattle.heap.proofs.Objects.{objects_long, objects_at, objects_same, objects_stored}
use Rattle.heap.proofs.page.Page.put_entry.Goals as goal

pub returns-clause-stored : goal.returns-clause-stored
returns-clause-stored g c key is =
    let xs = c.self.inside.objects.items in
    let k = c.args.object in
    let here = c.index_mut.result.now in
    let there : slice_get c.args.self.now k ≡ Some (object_of here) =
    sym (ap (λ ys. slice_get ys k) c.self.view_is) ∙ objects_at xs k here (omega arith) ∙ ap (λ y. Some (object_of y)) (sym c.index_mut.ensures.value) in
    objects_stored xs c.args.self.now k c.put_entry-stored.new.self here c.put_entry-stored.result (with_value_for key c.args.value) c.self.view_is (omega arith)
    (c.put_entry-stored.ensures.stored key (ap (index_in key) (sym there) ∙ is) ∙ ap (λ y. with_value_for key c.args.value (Some (object_of y))) c.index_mut.ensures.value)

pub returns-clause-nowhere : goal.returns-clause-nowhere
returns-clause-nowhere g c e =
    objects_same c.self.inside.objects.items c.args.object c.put_entry-stored.new.self c.index_mut.result.now (omega arith) (c.put_entry-stored.ensures.nowhere e ∙ ap object_of c.index_mut.ensures.value) ∙ c.self.view_is

pub returns-clause-long : goal.returns-clause-long
returns-clause-long g c = objects_long c.self.inside.objects.items c.args.object c.put_entry-stored.new.self ∙ ap length c.self.view_is
