use Rattle.std.proofs.Common.{◌+◌, ◌≤◌, ℕ, length, sym, ap, ◌∙◌, arith}
use Rattle.heap.specs.Marked.{marks_in}
use Rattle.heap.proofs.Objects.{objects_length}
use Rattle.heap.proofs.Clearing.{none_cleared, all_cleared}
use Rattle.heap.proofs.page.Page.clear.Goals as goal

pub returns : goal.returns
returns g c =
    let os = c.args.self.now in
    let m = λ (j : ℕ). marks_in c.args.marks.now (c.args.first + j) in
    let same = objects_length c.self.inside.objects.items in
    let is = ap length c.self.view_is in
    let all : length os ≤ c.loop-place.place = omega (arith, same, is) in
    c.loop-place.invariant.cleared os (sym (none_cleared m os)) ∙ all_cleared c.loop-place.place m os all
