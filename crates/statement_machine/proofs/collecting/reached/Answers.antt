use Rattle.std.proofs.Common.{List, map, subst}
use Rattle.heap.specs.Marked.{marks_in}
use Rattle.model.specs.Machine.Living.{ValuesLive}
use Rattle.values.specs.Values.{value_of}
use Rattle.values.specs.declared.value.Value.{Value}
use Rattle.statement_machine.proofs.GivingBack.{state_lives}
use Rattle.statement_machine.proofs.collecting.reached.Goals as goal

pub returns-then-branch : goal.returns-then-branch
returns-then-branch c =
    let saved = c.mark_values.new.marks in
    state_lives c.args.state.now c.mark_variables.new.marks c.mark_operands.new.marks saved c.mark_reached.new.marks c.in_ok-mark_variables.ensures.lives c.in_ok-mark_operands.ensures.grown c.in_ok-mark_operands.ensures.lives
    c.in_ok-mark_values.ensures.grown
    (subst (λ (vs : List Value). ValuesLive (marks_in saved) (map value_of vs)) c.as_slice.ensures.value c.in_ok-mark_values.ensures.lives)
    c.in_ok-mark_reached.ensures.grown (c.in_ok-mark_reached.ensures.lives c.if-branch.true)
