use Rattle.std.proofs.Common.{◌≡◌, ◌+◌, ◌-◌, ◌<◌, ℕ, length, ap, ◌∙◌, arith}
use Rattle.heap.specs.Made.{objects_of}
use Rattle.heap.specs.Marked.{marks_in}
use Rattle.heap.proofs.Clearing.{kept_on, cleared_on, set_length}
use Rattle.heap.proofs.page.Page.clear_part.Goals as goal
use Rattle.heap.proofs.page.Page.clear_part.Goals.{then-is_unmarked, else-is_unmarked}

pub is_unmarked-requires : goal.is_unmarked-requires
is_unmarked-requires g c is =
    let first = c.args.first in
    let place = c.args.place in
    let i = c.loop-i.i in
    let less : i - place < 512 = omega arith in
    let at : first + i ≡ first + (place + (i - place)) = omega arith in
    ap (marks_in c.args.marks.now) at ∙ c.has_none-none.ensures is (i - place) less

pub loop-i-preserved : goal.loop-i-preserved
loop-i-preserved g c =
    let xs = c.loop-i.self-inside.objects.items in
    let ys = c.if-is_unmarked.self-inside.objects.items in
    let i = c.loop-i.i in
    let m = λ (j : ℕ). marks_in c.args.marks.now (c.args.first + j) in
    elim c.if-is_unmarked.branch [
      | then-is_unmarked w ↦ record {
        cleared = λ os h. cleared_on xs ys i w.clear.new.self m os (ap (λ s. objects_of s.objects.items) w.self-inside-is) w.clear.ensures (c.is_unmarked.ensures.unmarked w.if-is_unmarked.true) (c.loop-i.invariant.cleared os h);
        long = ap (λ s. length s.objects.items) w.self-inside-is ∙ set_length xs i w.clear.new.self ∙ c.loop-i.invariant.long;
      }
      | else-is_unmarked w ↦ record {
        cleared = λ os h. kept_on xs ys i m os (ap (λ s. objects_of s.objects.items) w.self-inside-is) (c.is_unmarked.ensures.marked w.if-is_unmarked.false) (c.loop-i.invariant.cleared os h);
        long = ap (λ s. length s.objects.items) w.self-inside-is ∙ c.loop-i.invariant.long;
      }
    ]
