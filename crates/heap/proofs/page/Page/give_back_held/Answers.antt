use Rattle.std.proofs.Common.{◌≡◌, ◌+◌, ℕ, ap, arith, ◌∙◌}
use Rattle.heap.specs.Marked.{marks_in}
use Rattle.heap.specs.Paged.{whole}
use Rattle.heap.proofs.Clearing.{padded_cleared, page_dropped}
use Rattle.heap.proofs.page.Page.give_back_held.Goals as goal

pub returns-then-has_none : goal.returns-then-has_none
returns-then-has_none g c =
    let zero : (j : ℕ) → j ≡ 0 + j = λ j. omega arith in
    ap whole c.new.ensures ∙ page_dropped 512 (λ j. marks_in c.args.marks.now (c.args.first + j)) c.args.self.now
    (λ j lt. ap (λ k. marks_in c.args.marks.now (c.args.first + k)) (zero j) ∙ c.has_none.ensures c.if-has_none.true j lt)

pub returns : goal.returns
returns g c = ap whole c.clear.ensures ∙ padded_cleared 512 (λ j. marks_in c.args.marks.now (c.args.first + j)) c.args.self.now
