use Rattle.std.proofs.Common.{◌≡◌, ◌<◌, ◌+◌, ◌-◌, length, ap, arith, sym, ◌∙◌}
use Rattle.std.specs.Prelude.{slice_get}
use Rattle.model.specs.Language.Operators.{with_value_for}
use Rattle.aggregates.specs.Objects.{index_in}
use Rattle.heap.specs.Objects.{put_at}
use Rattle.heap.proofs.Paging.{get_before, get_behind, stored_before, stored_behind}
use Rattle.heap.proofs.heap.Heap.put_entry.Goals as goal

pub returns-then-object-count-clause-stored : goal.returns-then-object-count-clause-stored
returns-then-object-count-clause-stored g c key is =
    let xs = c.self.inside.first in
    let ys = c.self.inside.rest in
    let k = c.args.object in
    let lt : k < length xs = omega arith in
    let f = with_value_for key c.args.value in
    let found = ap (index_in key) (sym (get_before xs ys k lt)) ∙ ap (λ os. index_in key (slice_get os k)) c.self.view_is ∙ is in
    stored_before xs ys c.put_entry.new.self k c.put_entry.result f lt (c.put_entry.ensures.stored key found) ∙ ap (λ os. put_at k (f (slice_get os k)) os) c.self.view_is

pub returns-clause-stored : goal.returns-clause-stored
returns-clause-stored g c key is =
    let xs = c.self.inside.first in
    let ys = c.self.inside.rest in
    let k = c.args.object in
    let j = k - c.count-2.result in
    let at : k ≡ length xs + j = omega arith in
    let f = with_value_for key c.args.value in
    let found = ap (index_in key) (sym (get_behind xs ys k j at)) ∙ ap (λ os. index_in key (slice_get os k)) c.self.view_is ∙ is in
    stored_behind xs ys c.put_entry-2.new.self k j c.put_entry-2.result f at (c.put_entry-2.ensures.stored key found) ∙ ap (λ os. put_at k (f (slice_get os k)) os) c.self.view_is

pub invariant_of-self : goal.invariant_of-self
invariant_of-self g c = let long = c.put_entry.ensures.long in omega (arith, long, c.self.invariant)

pub invariant_of-self-2 : goal.invariant_of-self-2
invariant_of-self-2 g c = let long = c.put_entry-2.ensures.long in omega (arith, long, c.self.invariant)
