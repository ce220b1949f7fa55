use Rattle.std.proofs.Common.{◌≡◌, ◌<◌, ◌/◌, ◌%◌, length, true, false, ap, arith, sym, subst, ◌∙◌}
use Rattle.std.specs.Prelude.{slice_set, slice_index_or, take}
use Rattle.heap.specs.Marked.{marked_by, HasMarked, MarksView, marks_in}
use Rattle.heap.specs.Paged.{paged}
use Rattle.heap.proofs.Marking.{marked_here, one_marked}
use Rattle.heap.proofs.Paging.{item_set, marked_at, number_is}
use Rattle.heap.proofs.marks.Marks.mark.Goals as goal

pub returns-then-is_set-clause-marked : goal.returns-then-is_set-clause-marked
returns-then-is_set-clause-marked c =
    let n = c.args.number in
    let ps = c.self.inside.pages.items in
    let p = c.index.result.now in
    let lt : n < c.self.inside.count = omega arith in
    let less : n % 512 < 512 = omega arith in
    let there : n / 512 < length ps = omega arith in
    ap (λ m. marks_in m n) (sym c.self.view_is)
    ∙ marked_at c.self.inside.count (n / 512) (n % 512) n ps p p lt (number_is n) less there (sym c.index.ensures) ∙ sym c.is_set.ensures ∙ c.if-is_set.true

pub returns-clause-marked : goal.returns-clause-marked
returns-clause-marked c =
    let n = c.args.number in
    let ps = c.self.inside.pages.items in
    let count = c.self.inside.count in
    let p = c.index_mut.result.now in
    let lt : n < count = omega arith in
    let less : n % 512 < 512 = omega arith in
    let there : n / 512 < length ps = omega arith in
    let set = item_set false count (n / 512) (n % 512) n ps p p lt (number_is n) less there (sym c.index_mut.ensures.value) c.set.new.self true c.in_ok-set.ensures in
    ap (λ bs. marked_by bs n) set ∙ marked_here (take count (paged false 512 ps)) n

pub returns-clause-grown : goal.returns-clause-grown
returns-clause-grown c =
    let n = c.args.number in
    let ps = c.self.inside.pages.items in
    let count = c.self.inside.count in
    let p = c.index_mut.result.now in
    let q = c.set.new.self in
    let lt : n < count = omega arith in
    let less : n % 512 < 512 = omega arith in
    let there : n / 512 < length ps = omega arith in
    let at : slice_index_or ps (n / 512) p ≡ p = sym c.index_mut.ensures.value in
    let set = item_set false count (n / 512) (n % 512) n ps p p lt (number_is n) less there at q true c.in_ok-set.ensures in
    let was : MarksView = record { marked = take count (paged false 512 ps); waiting = c.self.inside.waiting.items } in
    let bs = take count (paged false 512 (slice_set ps (n / 512) q)) in
    subst (λ (m : MarksView). HasMarked m (record { marked = bs; waiting = c.push.new.self.items })) c.self.view_is
    (subst (λ ms. HasMarked was (record { marked = ms; waiting = c.push.new.self.items })) (sym set)
    (subst (λ ws. HasMarked was (record { marked = slice_set was.marked n true; waiting = ws })) (sym c.in_ok-push.ensures.items) (one_marked was n)))
