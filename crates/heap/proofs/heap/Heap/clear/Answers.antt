use Rattle.std.proofs.Common.{◌≡◌, ◌+◌, ◌++◌, ℕ, length, ap, arith, refl, sym, ◌∙◌}
use Rattle.model.specs.Machine.Living.{cleared}
use Rattle.heap.specs.Marked.{marks_in}
use Rattle.heap.proofs.Clearing.{cleared_append, cleared_long, cleared_same}
use Rattle.heap.proofs.heap.Heap.clear.Goals as goal

pub clear-requires-2 : goal.clear-requires-2
clear-requires-2 g c =
    let long = ap length c.clear.ensures ∙ cleared_long (λ j. marks_in c.args.marks.now (0 + j)) c.self.inside.first in
    omega (arith, long, c.self.invariant)

pub invariant_of-self : goal.invariant_of-self
invariant_of-self g c =
    let marks = c.args.marks.now in
    let first = ap length c.clear.ensures ∙ cleared_long (λ j. marks_in marks (0 + j)) c.self.inside.first in
    let rest = ap length c.clear-2.ensures ∙ cleared_long (λ j. marks_in marks (c.count.result + j)) c.self.inside.rest in
    omega (arith, first, rest, c.self.invariant)

pub returns : goal.returns
returns g c =
    let marks = c.args.marks.now in
    let xs = c.self.inside.first in
    let ys = c.self.inside.rest in
    let long = ap length c.clear.ensures ∙ cleared_long (λ j. marks_in marks (0 + j)) xs in
    let zero : (j : ℕ) → 0 + j ≡ j = λ j. omega arith in
    let count : c.count.result ≡ length xs = omega (arith, long) in
    ap (λ zs. zs ++ c.clear-2.new.self) (c.clear.ensures ∙ cleared_same (λ j. marks_in marks (0 + j)) (marks_in marks) xs (λ j lt. ap (marks_in marks) (zero j)))
    ∙ ap (λ zs. cleared (marks_in marks) xs ++ zs) (c.clear-2.ensures ∙ cleared_same (λ j. marks_in marks (c.count.result + j)) (λ j. marks_in marks (length xs + j)) ys (λ j lt. ap (λ n. marks_in marks (n + j)) count))
    ∙ sym (cleared_append (marks_in marks) (λ j. marks_in marks (length xs + j)) xs ys (λ k lt. refl)) ∙ ap (cleared (marks_in marks)) c.self.view_is
