use Rattle.std.proofs.Common.{length, ap, ◌∙◌, Some, arith}
use Rattle.aggregates.specs.Objects.{stored_at}
use Rattle.aggregates.specs.Made.{object_of}
use Rattle.heap.proofs.Objects.{objects_long, objects_stored, objects_same, on_err}
use Rattle.heap.proofs.page.Page.set.Goals as goal

pub returns-clause-stored : goal.returns-clause-stored
returns-clause-stored g c =
    objects_stored c.self.inside.objects.items c.args.self.now c.args.object c.set.new.self c.index_mut.result.now c.in_ok-stored.stored (stored_at c.args.place c.args.value)
    c.self.view_is (omega arith) (c.in_ok-stored.ensures.stored ∙ ap (λ y. stored_at c.args.place c.args.value (Some (object_of y))) c.index_mut.ensures.value)

pub returns-clause-nowhere : goal.returns-clause-nowhere
returns-clause-nowhere g c e =
    objects_same c.self.inside.objects.items c.args.object c.set.new.self c.index_mut.result.now (omega arith) (c.in_ok-stored.ensures.nowhere e ∙ ap object_of c.index_mut.ensures.value) ∙ c.self.view_is

pub returns-in_err-stored-clause-refused : goal.returns-in_err-stored-clause-refused
returns-in_err-stored-clause-refused g c =
    on_err _ (objects_same c.self.inside.objects.items c.args.object c.set.new.self c.index_mut.result.now (omega arith) (c.in_err-stored.ensures.refused ∙ ap object_of c.index_mut.ensures.value) ∙ c.self.view_is)

pub returns-clause-long : goal.returns-clause-long
returns-clause-long g c = objects_long c.self.inside.objects.items c.args.object c.set.new.self ∙ ap length c.self.view_is

pub returns-in_err-stored-clause-long : goal.returns-in_err-stored-clause-long
returns-in_err-stored-clause-long g c = objects_long c.self.inside.objects.items c.args.object c.set.new.self ∙ ap length c.self.view_is
