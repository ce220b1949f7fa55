use Rattle.std.proofs.Common.{ap, false, sym, ◌∙◌}
use Rattle.frames.specs.Stacked.{Stacked}
use Rattle.frames.specs.declared.operand.Operand.{Operand}
use Rattle.instruction_steps.specs.Calling.{given_by}
use Rattle.instruction_steps.specs.Held.{state_of}
use Rattle.instruction_steps.proofs.state.State.put_record.Goals as goal

pub returns-clause-made : goal.returns-clause-made
returns-clause-made c im fs io =
    let s = c.args.self.now in
    let next = c.args.next in
    let mid = record s { arguments = c.construct.new.arguments; world = c.construct.new.world } in
    ap (λ o. given_by im fs false next o s) (c.in_ok-made.ensures.made io)
    ∙ ap (λ (l : Stacked Operand). state_of im fs (record mid { place = next; operands = l }) io) (sym c.in_ok-push.ensures.ok)
