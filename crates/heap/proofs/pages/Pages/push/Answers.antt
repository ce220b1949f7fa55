use Rattle.std.proofs.Common.{◌≡◌, ◌+◌, ◌++◌, ◌∷◌, [], ap, arith, ◌∙◌}
use Rattle.std.specs.Prelude.{take}
use Rattle.model.specs.Machine.Living.{no_object}
use Rattle.aggregates.specs.Made.{object_of}
use Rattle.heap.specs.Paged.{paged}
use Rattle.heap.proofs.Objects.{on_err}
use Rattle.heap.proofs.pages.Pages.push.Goals as goal

pub returns-in_err-put_behind-clause-refused : goal.returns-in_err-put_behind-clause-refused
returns-in_err-put_behind-clause-refused g c =
    on_err _ (ap (take c.self.inside.count) c.in_err-put_behind.ensures.refused ∙ c.make_room.ensures.kept ∙ c.self.view_is)

pub returns-clause-made : goal.returns-clause-made
returns-clause-made g c =
    let next : c.in-Some.next ≡ c.self.inside.count + 1 = omega arith in
    ap (λ k. take k (paged no_object 512 c.put_behind.new.pages.items)) next ∙ c.in_ok-put_behind.ensures.made
    ∙ ap (λ os. os ++ object_of c.args.object ∷ []) (c.make_room.ensures.kept ∙ c.self.view_is)
