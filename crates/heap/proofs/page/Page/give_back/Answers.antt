use Rattle.std.proofs.Common.{◌+◌, ◌≤◌, length, ap, arith}
use Rattle.heap.specs.Marked.{marks_in}
use Rattle.heap.proofs.Objects.{objects_length}
use Rattle.heap.proofs.Clearing.{nothing_held}
use Rattle.heap.proofs.page.Page.give_back.Goals as goal

pub returns-then-len-eq0 : goal.returns-then-len-eq0
returns-then-len-eq0 g c =
    let xs = c.self.inside.objects.items in
    let same = objects_length xs in
    let is = ap length c.self.view_is in
    let none : length c.args.self.now ≤ 0 = omega (arith, same, is, c.len.ensures, c.if-len-eq0.true) in
    nothing_held 512 (λ j. marks_in c.args.marks.now (c.args.first + j)) c.args.self.now none
