use Rattle.std.proofs.Common.{◌≡◌, ◌<◌, ◌/◌, ◌%◌, length, ap, arith, sym, ◌∙◌}
use Rattle.std.specs.Prelude.{slice_get, slice_index_or, slice_set, take}
use Rattle.std.proofs.lemmas.List.{length-set}
use Rattle.model.specs.Machine.Living.{no_object}
use Rattle.aggregates.specs.Objects.{stored_at}
use Rattle.heap.specs.Objects.{put_at}
use Rattle.heap.specs.Paged.{padded}
use Rattle.heap.proofs.Objects.{on_err}
use Rattle.heap.proofs.Paging.{all_kept, item_stored, number_is, page_same, set_here, stored_in_page}
use Rattle.heap.proofs.pages.Pages.set.Goals as goal

pub returns-in_err-hold-clause-refused : goal.returns-in_err-hold-clause-refused
returns-in_err-hold-clause-refused g c =
    on_err _ (ap (take c.self.inside.count) (page_same no_object 512 c.self.inside.pages.items (c.args.number / 512) c.index_mut.result.now c.hold.new.self (c.hold.ensures.same ∙ ap (padded no_object 512) c.index_mut.ensures.value)) ∙ c.self.view_is)

pub returns-in_err-stored-clause-refused : goal.returns-in_err-stored-clause-refused
returns-in_err-stored-clause-refused g c =
    let ps = slice_set c.self.inside.pages.items (c.args.number / 512) c.hold.new.self in
    on_err _ (ap (take c.self.inside.count)
    (page_same no_object 512 ps (c.args.number / 512) c.index_mut-2.result.now c.set.new.self (ap (padded no_object 512) (c.in_err-stored.ensures.refused ∙ c.index_mut-2.ensures.value))
    ∙ page_same no_object 512 c.self.inside.pages.items (c.args.number / 512) c.index_mut.result.now c.hold.new.self (c.hold.ensures.same ∙ ap (padded no_object 512) c.index_mut.ensures.value)) ∙ c.self.view_is)

pub returns-clause-stored : goal.returns-clause-stored
returns-clause-stored g c =
    let ps = c.self.inside.pages.items in
    let qs = slice_set ps (c.args.number / 512) c.hold.new.self in
    let n = c.self.inside.count in
    let k = c.args.number in
    let p = c.index_mut-2.result.now in
    let q = c.set.new.self in
    let f = stored_at c.args.place c.args.value in
    let lt : k < n = omega arith in
    let less : k % 512 < 512 = omega arith in
    let long = length-set ps (k / 512) c.hold.new.self in
    let there : k / 512 < length qs = omega (arith, long) in
    let at : slice_index_or qs (k / 512) p ≡ p = sym c.index_mut-2.ensures.value in
    let same = page_same no_object 512 ps (k / 512) c.index_mut.result.now c.hold.new.self (c.hold.ensures.same ∙ ap (padded no_object 512) c.index_mut.ensures.value) in
    let first : k / 512 < length ps = omega arith in
    let is = ap length (sym (set_here ps (k / 512) c.hold.new.self p first) ∙ at) in
    let held : k % 512 < length p = omega (arith, is, c.in_ok-hold.ensures.held) in
    item_stored no_object n (k / 512) (k % 512) k qs p q p c.in_ok-stored.stored f lt (number_is k) less there at
    (stored_in_page no_object 512 (k % 512) p q c.in_ok-stored.stored f less held c.in_ok-stored.ensures.stored)
    ∙ ap (λ os. put_at k (f (slice_get os k)) os) (ap (take n) same ∙ c.self.view_is)

pub returns-clause-nowhere : goal.returns-clause-nowhere
returns-clause-nowhere g c e =
    let ps = slice_set c.self.inside.pages.items (c.args.number / 512) c.hold.new.self in
    ap (take c.self.inside.count)
    (page_same no_object 512 ps (c.args.number / 512) c.index_mut-2.result.now c.set.new.self (ap (padded no_object 512) (c.in_ok-stored.ensures.nowhere e ∙ c.index_mut-2.ensures.value))
    ∙ page_same no_object 512 c.self.inside.pages.items (c.args.number / 512) c.index_mut.result.now c.hold.new.self (c.hold.ensures.same ∙ ap (padded no_object 512) c.index_mut.ensures.value)) ∙ c.self.view_is

pub returns-in_err-hold-clause-long : goal.returns-in_err-hold-clause-long
returns-in_err-hold-clause-long g c = all_kept no_object c.self.inside.count (c.args.number / 512) c.self.inside.pages.items c.hold.new.self (omega arith) ∙ ap length c.self.view_is

pub returns-in_err-stored-clause-long : goal.returns-in_err-stored-clause-long
returns-in_err-stored-clause-long g c =
    let ps = c.self.inside.pages.items in
    let long = length-set ps (c.args.number / 512) c.hold.new.self in
    all_kept no_object c.self.inside.count (c.args.number / 512) (slice_set ps (c.args.number / 512) c.hold.new.self) c.set.new.self (omega (arith, long))
    ∙ all_kept no_object c.self.inside.count (c.args.number / 512) ps c.hold.new.self (omega arith) ∙ ap length c.self.view_is

pub returns-clause-long : goal.returns-clause-long
returns-clause-long g c =
    let ps = c.self.inside.pages.items in
    let long = length-set ps (c.args.number / 512) c.hold.new.self in
    all_kept no_object c.self.inside.count (c.args.number / 512) (slice_set ps (c.args.number / 512) c.hold.new.self) c.set.new.self (omega (arith, long))
    ∙ all_kept no_object c.self.inside.count (c.args.number / 512) ps c.hold.new.self (omega arith) ∙ ap length c.self.view_is
