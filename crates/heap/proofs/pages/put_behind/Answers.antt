use Rattle.std.proofs.Common.{◌≡◌, ◌<◌, ◌/◌, ◌%◌, length, ap, arith, sym, ◌∙◌}
use Rattle.std.specs.Prelude.{Err, Ok, OnErr, OnOk, Result, slice_index_or}
use Rattle.model.specs.Machine.Living.{no_object}
use Rattle.aggregates.specs.Made.{object_of}
use Rattle.heap.specs.Paged.{padded}
use Rattle.heap.proofs.Paging.{item_more, number_is, page_same}
use Rattle.heap.proofs.pages.put_behind.Goals as goal

-- what holds of a result, and what follows of it
of_ok : {A E : Type 0} {P Q : Type 0} (r : Result A E) → (P → Q) → OnOk r P → OnOk r Q
of_ok (Ok a) f p = f p
of_ok (Err e) f p = p

of_err : {A E : Type 0} {P Q : Type 0} (r : Result A E) → (P → Q) → OnErr r P → OnErr r Q
of_err (Ok a) f p = p
of_err (Err e) f p = f p

pub returns-clause-made : goal.returns-clause-made
returns-clause-made g c =
    let ps = c.args.pages.now.items in
    let k = c.args.count in
    let p = c.index_mut.result.now in
    let less : k % 512 < 512 = omega arith in
    let there : k / 512 < length ps = omega arith in
    let at : slice_index_or ps (k / 512) p ≡ p = sym c.index_mut.ensures.value in
    of_ok c.place.result (item_more no_object k (k / 512) (k % 512) ps p c.place.new.self p (object_of c.args.object) (number_is k) less there at) c.place.ensures.placed

pub returns-clause-refused : goal.returns-clause-refused
returns-clause-refused g c =
    of_err c.place.result (λ same. page_same no_object 512 c.args.pages.now.items (c.args.count / 512) c.index_mut.result.now c.place.new.self (same ∙ ap (padded no_object 512) c.index_mut.ensures.value)) c.place.ensures.refused
