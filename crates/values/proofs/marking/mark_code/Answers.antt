use Rattle.std.proofs.Common.{arith, subst}
use Rattle.std.proofs.lemmas.List.Elements.{All-weaker}
use Rattle.heap.proofs.Marking.{marked_on}
use Rattle.heap.specs.Marked.{marks_in}
use Rattle.model.specs.Machine.Living.{CodeLives, InstrLives}
use Rattle.pattern_compiler.specs.View.{instr_of}
use Rattle.pattern_compiler.specs.declared.instr.Instr.{Instr}
use Rattle.values.proofs.Living.{all_map, all_next, all_taken, instr_on}
use Rattle.values.proofs.marking.mark_code.Goals as goal

pub loop-instr-preserved : goal.loop-instr-preserved
loop-instr-preserved c =
    let old = c.loop-instr.marks in
    let new = c.mark_instr.new.marks in
    let more = c.in_ok-mark_instr.ensures.grown in
    record {
      lives = all_next (λ (i : Instr). InstrLives (marks_in new) (instr_of i)) c.as_slice-instrs.result.now c.loop-instr.instr-index c.instr-item.result c.loop-instr-test.true c.instr-item.is
          (All-weaker (λ (i : Instr). InstrLives (marks_in old) (instr_of i)) (λ (i : Instr). InstrLives (marks_in new) (instr_of i)) (λ i h. instr_on old new more (instr_of i) h) _ c.loop-instr.invariant.lives)
          c.in_ok-mark_instr.ensures.lives;
      grown = marked_on c.args.marks.now old new c.loop-instr.invariant.grown more;
    }

pub returns-clause-lives : goal.returns-clause-lives
returns-clause-lives c =
    let marks = marks_in c.loop-instr.marks in
    let instrs = c.as_slice-instrs.result.now in
    subst (CodeLives marks) c.as_slice-instrs.ensures
    (all_map (InstrLives marks) instr_of instrs (all_taken (λ (i : Instr). InstrLives marks (instr_of i)) instrs c.loop-instr.instr-index (omega (arith, c.loop-instr-test.false)) c.loop-instr.invariant.lives))
