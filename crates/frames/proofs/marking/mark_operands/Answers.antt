use Rattle.std.proofs.Common.{arith, subst}
use Rattle.std.specs.List.{AllByRecursion}
use Rattle.std.proofs.lemmas.List.Elements.{All-weaker}
use Rattle.heap.proofs.Marking.{marked_on}
use Rattle.heap.specs.Marked.{marks_in}
use Rattle.model.specs.Machine.Living.{OperandLives}
use Rattle.values.proofs.Living.{all_map, all_next, all_taken}
use Rattle.frames.specs.View.{operand_of}
use Rattle.frames.specs.declared.operand.Operand.{Operand}
use Rattle.frames.proofs.Reaching.{all_reverse, operand_on}
use Rattle.frames.proofs.marking.mark_operands.Goals as goal

pub loop-operand-preserved : goal.loop-operand-preserved
loop-operand-preserved c =
    let old = c.loop-operand.marks in
    let new = c.mark.new.marks in
    let more = c.in_ok-mark.ensures.grown in
    record {
      lives = all_next (λ (x : Operand). OperandLives (marks_in new) (operand_of x)) c.as_slice-items.result.now c.loop-operand.operand-index c.operand-item.result c.loop-operand-test.true c.operand-item.is
          (All-weaker (λ (x : Operand). OperandLives (marks_in old) (operand_of x)) (λ (x : Operand). OperandLives (marks_in new) (operand_of x)) (λ x h. operand_on old new more (operand_of x) h) _ c.loop-operand.invariant.lives)
          c.in_ok-mark.ensures.lives;
      grown = marked_on c.args.marks.now old new c.loop-operand.invariant.grown more;
    }

pub returns-clause-lives : goal.returns-clause-lives
returns-clause-lives c =
    let marks = marks_in c.loop-operand.marks in
    let items = c.as_slice-items.result.now in
    let lives : AllByRecursion (λ (x : Operand). OperandLives marks (operand_of x)) items = all_taken (λ (x : Operand). OperandLives marks (operand_of x)) items c.loop-operand.operand-index (omega (arith, c.loop-operand-test.false)) c.loop-operand.invariant.lives in
    all_map (OperandLives marks) operand_of _ (subst (AllByRecursion (λ (x : Operand). OperandLives marks (operand_of x))) c.as_slice-items.ensures (all_reverse (λ (x : Operand). OperandLives marks (operand_of x)) items lives))
