use Rattle.std.proofs.Common.{◌≡◌, ◌<◌, ◌≤◌, ◌/◌, ◌%◌, ◌+◌, length, ap, arith, sym, ◌∙◌}
use Rattle.heap.specs.Marked.{marks_in}
use Rattle.heap.proofs.Paging.{marked_at, marked_past, number_is}
use Rattle.heap.proofs.marks.Marks.is_marked.Goals as goal

pub returns-in_default : goal.returns-in_default
returns-in_default c =
    let past : c.self.inside.count ≤ c.args.first + c.args.index = omega arith in
    sym (ap (λ m. marks_in m (c.args.first + c.args.index)) (sym c.self.view_is) ∙ marked_past c.self.inside.count (c.args.first + c.args.index) c.self.inside.pages.items c.self.invariant past)

pub returns : goal.returns
returns c =
    let n = c.in-Some.number in
    let is : n ≡ c.args.first + c.args.index = omega arith in
    let ps = c.self.inside.pages.items in
    let p = c.index.result.now in
    let lt : n < c.self.inside.count = omega arith in
    let less : n % 512 < 512 = omega arith in
    let there : n / 512 < length ps = omega arith in
    c.is_set.ensures
    ∙ sym (ap (λ m. marks_in m n) (sym c.self.view_is) ∙ marked_at c.self.inside.count (n / 512) (n % 512) n ps p p lt (number_is n) less there (sym c.index.ensures)) ∙ ap (marks_in c.args.self.now) is
