use Rattle.std.proofs.Common.{◌≡◌, ◌<◌, ◌+◌, ◌-◌, length, true, ap, arith, sym, ◌∙◌}
use Rattle.std.specs.Prelude.{slice_get}
use Rattle.model.specs.Language.Operators.{with_element}
use Rattle.heap.specs.Objects.{put_at}
use Rattle.heap.proofs.Paging.{stored_before, stored_behind}
use Rattle.heap.proofs.heap.Heap.put_written.Goals as goal

pub returns-then-object-count-clause-stored : goal.returns-then-object-count-clause-stored
returns-then-object-count-clause-stored g c is =
    let xs = c.self.inside.first in
    let ys = c.self.inside.rest in
    let k = c.args.object in
    let lt : k < length xs = omega arith in
    let f = with_element c.args.index c.args.value in
    sym (stored_before xs ys c.put_written.new.self k true f lt (sym (c.put_written.ensures.stored is)) ∙ ap (λ os. put_at k (f (slice_get os k)) os) c.self.view_is)

pub returns-clause-stored : goal.returns-clause-stored
returns-clause-stored g c is =
    let xs = c.self.inside.first in
    let ys = c.self.inside.rest in
    let k = c.args.object in
    let j = k - c.count-2.result in
    let at : k ≡ length xs + j = omega arith in
    let f = with_element c.args.index c.args.value in
    sym (stored_behind xs ys c.put_written-2.new.self k j true f at (sym (c.put_written-2.ensures.stored is)) ∙ ap (λ os. put_at k (f (slice_get os k)) os) c.self.view_is)

pub invariant_of-self : goal.invariant_of-self
invariant_of-self g c = let long = c.put_written.ensures.long in omega (arith, long, c.self.invariant)

pub invariant_of-self-2 : goal.invariant_of-self-2
invariant_of-self-2 g c = let long = c.put_written-2.ensures.long in omega (arith, long, c.self.invariant)
