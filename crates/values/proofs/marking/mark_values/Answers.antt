use Rattle.std.proofs.Common.{arith}
use Rattle.std.proofs.lemmas.List.Elements.{All-weaker}
use Rattle.heap.proofs.Marking.{marked_on}
use Rattle.heap.specs.Marked.{marks_in}
use Rattle.model.specs.Machine.Living.{ValueLives}
use Rattle.values.specs.Values.{value_of}
use Rattle.values.proofs.Living.{LivesBy, all_map, all_next, all_taken, lives_on}
use Rattle.values.proofs.marking.mark_values.Goals as goal

pub loop-value-preserved : goal.loop-value-preserved
loop-value-preserved c =
    let old = c.loop-value.marks in
    let new = c.mark.new.marks in
    let more = c.in_ok-mark.ensures.grown in
    record {
      lives = all_next (LivesBy new) c.args.values.now c.loop-value.value-index c.value-item.result c.loop-value-test.true c.value-item.is (All-weaker (LivesBy old) (LivesBy new) (lives_on old new more) _ c.loop-value.invariant.lives) c.in_ok-mark.ensures.lives;
      grown = marked_on c.args.marks.now old new c.loop-value.invariant.grown more;
    }

pub returns-clause-lives : goal.returns-clause-lives
returns-clause-lives c =
    all_map (ValueLives (marks_in c.loop-value.marks)) value_of c.args.values.now (all_taken (LivesBy c.loop-value.marks) c.args.values.now c.loop-value.value-index (omega (arith, c.loop-value-test.false)) c.loop-value.invariant.lives)
