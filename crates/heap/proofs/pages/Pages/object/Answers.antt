use Rattle.std.proofs.Common.{◌≡◌, ◌<◌, ◌/◌, ◌%◌, length, Some, ap, arith, sym, ◌∙◌, option_map}
use Rattle.std.specs.Option.{option_copied}
use Rattle.std.specs.Prelude.{slice_get, slice_index_or}
use Rattle.model.specs.Machine.Living.{no_object}
use Rattle.aggregates.specs.Made.{object_of}
use Rattle.heap.proofs.Paging.{item_at, number_is, padded_gap, padded_some}
use Rattle.heap.proofs.pages.Pages.object.Goals as goal

pub returns-in-Some : goal.returns-in-Some
returns-in-Some g c =
    let ps = c.self.inside.pages.items in
    let n = c.self.inside.count in
    let k = c.args.number in
    let p = c.index.result.now in
    let lt : k < n = omega arith in
    let less : k % 512 < 512 = omega arith in
    let there : k / 512 < length ps = omega arith in
    let at : slice_index_or ps (k / 512) p ≡ p = sym c.index.ensures in
    let here = ap (λ r. option_map object_of (option_copied r)) (sym c.in-Some.is) ∙ c.object.ensures in
    sym (padded_some no_object 512 (k % 512) p (object_of c.in-Some.object.now) less (sym here))
    ∙ sym (item_at no_object n (k / 512) (k % 512) k ps p p lt (number_is k) less there at) ∙ ap (λ os. slice_get os k) c.self.view_is

pub returns-in-None : goal.returns-in-None
returns-in-None g c =
    let ps = c.self.inside.pages.items in
    let n = c.self.inside.count in
    let k = c.args.number in
    let p = c.index.result.now in
    let lt : k < n = omega arith in
    let less : k % 512 < 512 = omega arith in
    let there : k / 512 < length ps = omega arith in
    let at : slice_index_or ps (k / 512) p ≡ p = sym c.index.ensures in
    let none = ap (λ r. option_map object_of (option_copied r)) (sym c.in-None.is) ∙ c.object.ensures in
    ap Some c.self.invariant.0 ∙ sym (padded_gap no_object 512 (k % 512) p less (sym none))
    ∙ sym (item_at no_object n (k / 512) (k % 512) k ps p p lt (number_is k) less there at) ∙ ap (λ os. slice_get os k) c.self.view_is
