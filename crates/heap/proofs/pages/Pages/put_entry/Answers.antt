use Rattle.std.proofs.Common.{◌≡◌, ◌<◌, ◌/◌, ◌%◌, length, ap, arith, sym, ◌∙◌}
use Rattle.std.specs.Prelude.{slice_get, slice_index_or}
use Rattle.model.specs.Language.Operators.{with_value_for}
use Rattle.model.specs.Machine.Living.{no_object}
use Rattle.aggregates.specs.Objects.{index_in}
use Rattle.heap.specs.Objects.{put_at}
use Rattle.heap.proofs.Paging.{all_kept, entry_held, item_at, item_stored, number_is, stored_in_page}
use Rattle.heap.proofs.pages.Pages.put_entry.Goals as goal

pub returns-clause-stored : goal.returns-clause-stored
returns-clause-stored g c key is =
    let ps = c.self.inside.pages.items in
    let n = c.self.inside.count in
    let k = c.args.number in
    let p = c.index_mut.result.now in
    let q = c.put_entry-stored.new.self in
    let f = with_value_for key c.args.value in
    let lt : k < n = omega arith in
    let less : k % 512 < 512 = omega arith in
    let there : k / 512 < length ps = omega arith in
    let at : slice_index_or ps (k / 512) p ≡ p = sym c.index_mut.ensures.value in
    let found = ap (index_in key) (sym (item_at no_object n (k / 512) (k % 512) k ps p p lt (number_is k) less there at)) ∙ ap (λ os. index_in key (slice_get os k)) c.self.view_is ∙ is in
    let held = entry_held 512 (k % 512) p key c.args.index less found in
    item_stored no_object n (k / 512) (k % 512) k ps p q p c.put_entry-stored.result f lt (number_is k) less there at
    (stored_in_page no_object 512 (k % 512) p q c.put_entry-stored.result f less held.0 (c.put_entry-stored.ensures.stored key held.1))
    ∙ ap (λ os. put_at k (f (slice_get os k)) os) c.self.view_is

pub returns-clause-long : goal.returns-clause-long
returns-clause-long g c = all_kept no_object c.self.inside.count (c.args.number / 512) c.self.inside.pages.items c.put_entry-stored.new.self (omega arith) ∙ ap length c.self.view_is
