use Rattle.std.proofs.Common.{◌*◌, ◌≤◌, List, Bool, ℕ, false, ap, arith, ◌∙◌}
use Rattle.std.specs.Prelude.{replicate, take}
use Rattle.heap.specs.Marked.{MarksView}
use Rattle.heap.specs.Paged.{paged}
use Rattle.heap.proofs.Paging.{none_set}
use Rattle.heap.proofs.marks.Marks.none.Goals as goal

abbrev view_of : List Bool → List ℕ → MarksView
view_of bs ws = record { marked = bs; waiting = ws }

pub returns : goal.returns
returns c =
    let n = c.args.count in
    let m = c.loop-page._page in
    let le : n ≤ 512 * m = omega arith in
    ap (λ bs. view_of bs c.new-2.result.items) (ap (λ ps. take n (paged false 512 ps)) c.loop-page.invariant.items ∙ none_set n m le) ∙ ap (view_of (replicate n false)) c.new-2.ensures.items
