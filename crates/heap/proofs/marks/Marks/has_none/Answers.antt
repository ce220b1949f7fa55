use Rattle.std.proofs.Common.{◌≡◌, ◌<◌, ◌/◌, ◌+◌, length, false, ap, arith, sym, ◌∙◌}
use Rattle.std.specs.Prelude.{slice_index_or}
use Rattle.heap.specs.Marked.{marks_in}
use Rattle.heap.proofs.Paging.{marked_at, start, start_is}
use Rattle.heap.proofs.marks.Marks.has_none.Goals as goal

pub returns : goal.returns
returns c is j less =
    let first = c.args.first in
    let k = c.args.index in
    let n = c.in-Some.number in
    let i = n / 512 in
    let ps = c.self.inside.pages.items in
    let p = c.index.result.now in
    let s = start_is i in
    let same : first + (k + j) ≡ n + j = omega (arith, c.in-Some.ensures) in
    let lt : n + j < c.self.inside.count = omega arith in
    let at : n + j ≡ start 512 i + j = omega (arith, s) in
    let there : i < length ps = omega arith in
    ap (marks_in c.args.self.now) same ∙ ap (λ m. marks_in m (n + j)) (sym c.self.view_is)
    ∙ marked_at c.self.inside.count i j (n + j) ps p p lt at less there (sym c.index.ensures) ∙ ap (λ q. slice_index_or q j false) (c.is_empty.ensures is)
