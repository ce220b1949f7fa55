use Rattle.std.proofs.Common.{◌≡◌, ◌<◌, length, ap, arith, ◌∙◌}
use Rattle.std.specs.Prelude.{slice_set}
use Rattle.model.specs.Machine.Living.{no_object}
use Rattle.aggregates.specs.Made.{object_of}
use Rattle.heap.specs.Made.{objects_of}
use Rattle.heap.specs.Paged.{whole}
use Rattle.heap.proofs.Objects.{objects_length, objects_push, objects_set}
use Rattle.heap.proofs.Paging.{padded_push, padded_set}
use Rattle.heap.proofs.page.Page.place.Goals as goal

pub returns-then-place-len-clause-placed : goal.returns-then-place-len-clause-placed
returns-then-place-len-clause-placed g c =
    let xs = c.self.inside.objects.items in
    let o = object_of c.args.object in
    let long = objects_length xs in
    let at : length (objects_of xs) ≡ c.args.place = omega (arith, long) in
    ap (λ ys. whole (objects_of ys)) c.in_ok-push.ensures.made ∙ ap whole (objects_push xs c.args.object) ∙ padded_push no_object 512 (objects_of xs) o
    ∙ ap (λ n. slice_set (whole (objects_of xs)) n o) at ∙ ap (λ p. slice_set (whole p) c.args.place o) c.self.view_is

pub returns-clause-placed : goal.returns-clause-placed
returns-clause-placed g c =
    let ys = c.self-2.inside.objects.items in
    let o = object_of c.args.object in
    let long = objects_length ys in
    let is = ap length c.self-2.view_is in
    let lt : c.args.place < length (objects_of ys) = omega (arith, is, c.in_ok-hold.ensures.held) in
    ap whole (objects_set ys c.args.place c.args.object) ∙ padded_set no_object 512 c.args.place (objects_of ys) o lt
    ∙ ap (λ p. slice_set (whole p) c.args.place o) c.self-2.view_is ∙ ap (λ w. slice_set w c.args.place o) c.hold.ensures.same
