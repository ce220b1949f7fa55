use Rattle.std.proofs.Common.{◌≡◌, ◌+◌, ◌*◌, ◌≤◌, suc, length, ap, arith, subst, ◌∙◌, ℕ}
use Rattle.std.specs.Prelude.{slice_set, take}
use Rattle.model.specs.Machine.Living.{cleared, no_object}
use Rattle.heap.specs.Marked.{marks_in}
use Rattle.heap.specs.Paged.{paged, whole}
use Rattle.heap.proofs.Clearing.{PagesCleared, cleared_taken, page_cleared, pages_cleared, pages_done, pages_length}
use Rattle.heap.proofs.Paging.{start, start_is, taken_long}
use Rattle.heap.proofs.pages.Pages.clear.Goals as goal

pub overflow_add-first : goal.overflow_add-first
overflow_add-first g c =
    let ps = c.self.inside.pages.items in
    let m = λ (j : ℕ). marks_in c.args.marks.now (c.args.first + j) in
    let long = pages_length 512 c.loop-page.page m ps c.loop-page.self-inside.pages.items c.loop-page.invariant.0 in
    let all = taken_long no_object c.self.inside.count ps c.self.invariant.1 in
    let is = ap length c.self.view_is in
    omega (arith, long, all, is, c.self.invariant.2)

pub loop-page-preserved : goal.loop-page-preserved
loop-page-preserved g c =
    let i = c.loop-page.page in
    let first = c.args.first in
    let marks = c.args.marks.now in
    let s = start_is i in
    let same : (j : ℕ) → first + (start 512 i + j) ≡ (first + 512 * i) + j = λ j. omega (arith, s) in
    let long = pages_length 512 i (λ j. marks_in marks (first + j)) c.self.inside.pages.items c.loop-page.self-inside.pages.items c.loop-page.invariant.0 in
    let next : suc i ≡ i + 1 = omega arith in (
      subst (λ n. PagesCleared 512 n (λ j. marks_in marks (first + j)) c.self.inside.pages.items (slice_set c.loop-page.self-inside.pages.items i c.give_back.new.self)) next
          (page_cleared 512 i (λ j. marks_in marks (first + j)) (λ j. marks_in marks ((first + 512 * i) + j)) c.self.inside.pages.items c.loop-page.self-inside.pages.items c.index_mut.result.now c.give_back.new.self
          (omega (arith, long)) (λ j. ap (marks_in marks) (same j)) c.loop-page.invariant.0 (c.give_back.ensures ∙ ap (λ p. cleared (λ j. marks_in marks ((first + 512 * i) + j)) (whole p)) c.index_mut.ensures.value)),
      c.loop-page.invariant.1,
      c.loop-page.invariant.2,
    )

pub returns : goal.returns
returns g c =
    let ps = c.self.inside.pages.items in
    let qs = c.loop-page.self-inside.pages.items in
    let m = λ (j : ℕ). marks_in c.args.marks.now (c.args.first + j) in
    let n = c.self.inside.count in
    let long = pages_length 512 c.loop-page.page m ps qs c.loop-page.invariant.0 in
    let all : length ps ≤ c.loop-page.page = omega (arith, long) in
    let every = pages_cleared 512 m ps qs (pages_done 512 c.loop-page.page m ps qs all c.loop-page.invariant.0) in
    ap (λ k. take k (paged no_object 512 qs)) c.loop-page.invariant.1 ∙ ap (take n) every ∙ cleared_taken n m (paged no_object 512 ps) ∙ ap (cleared m) c.self.view_is
