use Rattle.std.proofs.Common.{[], ◌∷◌, ◌++◌, length, ap, arith, ◌∙◌}
use Rattle.model.specs.Language.Values.{TableOf}
use Rattle.model.specs.Machine.Living.{no_object}
use Rattle.heap.specs.Made.{objects_of}
use Rattle.heap.specs.Paged.{whole}
use Rattle.aggregates.specs.declared.object.Object.TheVariants as o
use Rattle.heap.proofs.Objects.{objects_push}
use Rattle.heap.proofs.Paging.{append_long, padded_more}
use Rattle.heap.proofs.page.Page.hold_more.Goals as goal

pub loop-place-preserved : goal.loop-place-preserved
loop-place-preserved g c =
    let xs = c.loop-place.self-inside.objects.items in
    let long = ap length c.in_ok-push.ensures.items in
    let more = append_long xs (o.Table c.new.result ∷ []) in (
      ap (λ ys. whole (objects_of ys)) c.in_ok-push.ensures.items ∙ ap whole (objects_push xs (o.Table c.new.result)) ∙ ap (λ es. whole (objects_of xs ++ TableOf es ∷ [])) c.new.ensures
          ∙ padded_more no_object 512 (objects_of xs) ∙ c.loop-place.invariant.0,
      omega (arith, long, more, c.loop-place.invariant.1),
    )
