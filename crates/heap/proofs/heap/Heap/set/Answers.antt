use Rattle.std.proofs.Common.{◌≡◌, ◌<◌, ◌+◌, ◌-◌, length, ap, arith, ◌∙◌}
use Rattle.std.specs.Prelude.{IfOk, Ok, Err, Result, slice_get}
use Rattle.aggregates.specs.Objects.{stored_at}
use Rattle.heap.specs.Objects.{put_at}
use Rattle.heap.proofs.Paging.{stored_before, stored_behind}
use Rattle.heap.proofs.heap.Heap.set.Goals as goal

-- what holds of a value that is there, and what follows of it
of_ok : {A E : Type 0} (P Q : A → Type 0) (r : Result A E) → ((a : A) → P a → Q a) → IfOk r P → IfOk r Q
of_ok P Q (Ok a) f p = f a p
of_ok P Q (Err e) f p = p

pub returns-then-object-count-clause-stored : goal.returns-then-object-count-clause-stored
returns-then-object-count-clause-stored g c =
    let xs = c.self.inside.first in
    let ys = c.self.inside.rest in
    let k = c.args.object in
    let lt : k < length xs = omega arith in
    let f = stored_at c.args.place c.args.value in
    of_ok _ _ c.set.result (λ b e. stored_before xs ys c.set.new.self k b f lt e ∙ ap (λ os. put_at k (f (slice_get os k)) os) c.self.view_is) c.set.ensures.stored

pub returns-clause-stored : goal.returns-clause-stored
returns-clause-stored g c =
    let xs = c.self.inside.first in
    let ys = c.self.inside.rest in
    let k = c.args.object in
    let j = k - c.count-2.result in
    let at : k ≡ length xs + j = omega arith in
    let f = stored_at c.args.place c.args.value in
    of_ok _ _ c.set-2.result (λ b e. stored_behind xs ys c.set-2.new.self k j b f at e ∙ ap (λ os. put_at k (f (slice_get os k)) os) c.self.view_is) c.set-2.ensures.stored

pub invariant_of-self : goal.invariant_of-self
invariant_of-self g c = let long = c.set.ensures.long in omega (arith, long, c.self.invariant)

pub invariant_of-self-2 : goal.invariant_of-self-2
invariant_of-self-2 g c = let long = c.set-2.ensures.long in omega (arith, long, c.self.invariant)
