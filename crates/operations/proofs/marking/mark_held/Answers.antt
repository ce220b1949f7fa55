use Rattle.std.proofs.Common.{arith, sym, subst, ◌∙◌, ◌+◌}
use Rattle.std.specs.Prelude.{slice_get}
use Rattle.std.proofs.lemmas.Option.{none-some}
use Rattle.heap.specs.Made.{values_in}
use Rattle.heap.specs.Marked.{HasMarked, MarksView}
use Rattle.heap.proofs.Marking.{marked_on}
use Rattle.operations.specs.Marking.{LivesAt}
use Rattle.world.proofs.Reaching.{AllBelow, below_next, held_next, some_same}
use Rattle.values.proofs.Living.{LivesBy}
use Rattle.operations.proofs.Reached.{lives_at}
use Rattle.operations.proofs.marking.mark_held.Goals as goal
use Rattle.operations.proofs.marking.mark_held.Goals.{in-Some+in_ok-mark, in_default}

pub loop-index-preserved : goal.loop-index-preserved
loop-index-preserved c =
    let i = c.loop-index.index in
    let vs = values_in (slice_get c.objects-objects.result.now c.args.object) in
    let first = c.args.marks.now in
    let old = c.loop-index.marks in
    elim c.match-value.branch [
      | in-Some+in_ok-mark w ↦
          let new = w.mark.new.marks in
          let lives : AllBelow (LivesBy new) (i + 1) vs = held_next (λ v. v) old new vs i c.loop-index.invariant.lives w.in_ok-mark.ensures.grown (λ x e. subst (LivesBy new) (some_same w.in-Some.value.now x (w.in-Some.ensures ∙ e)) w.in_ok-mark.ensures.lives) in
          record {
            lives = subst (λ (m : MarksView). AllBelow (LivesBy m) (i + 1) vs) (sym w.marks-is) lives;
            grown = subst (λ (m : MarksView). HasMarked first m) (sym w.marks-is) (marked_on first old new c.loop-index.invariant.grown w.in_ok-mark.ensures.grown);
          }
      | in_default w ↦
          record {
            lives = subst (λ (m : MarksView). AllBelow (LivesBy m) (i + 1) vs) (sym w.marks-is) (below_next (LivesBy old) i vs (λ x e. absurd (none-some x (w.in_default.ensures ∙ e))) c.loop-index.invariant.lives);
            grown = subst (λ (m : MarksView). HasMarked first m) (sym w.marks-is) c.loop-index.invariant.grown;
          }
    ]

pub returns-clause-lives : goal.returns-clause-lives
returns-clause-lives c =
    subst (λ os. LivesAt (record c.args.world.now { objects = os }) c.args.object c.loop-index.marks) c.objects-objects.ensures
    (lives_at c.objects-objects.result.now c.args.object c.held-index-end.result c.loop-index.index c.loop-index.marks c.held-index-end.ensures (omega (arith, c.loop-index-test.false)) c.loop-index.invariant.lives)
