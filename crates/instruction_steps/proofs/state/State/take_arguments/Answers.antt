use Rattle.std.proofs.Common.{ap, refl, sym}
use Rattle.frames.specs.Stacked.{Stacked}
use Rattle.frames.specs.declared.operand.Operand.{Operand}
use Rattle.instruction_steps.proofs.Calling.{taken_kinds}
use Rattle.instruction_steps.proofs.state.State.take_arguments.Goals as goal

pub returns-clause-taken : goal.returns-clause-taken
returns-clause-taken c =
    let same = c.in_ok-pop_values.ensures.operands in (
      taken_kinds c.args.count c.args.self.now.operands.top c.pop_values.new.operands.top c.pop_values.new.values.items (ap (λ (l : Stacked Operand). l.top) same) c.in_ok-pop_values.ensures.count,
      sym (ap (λ (l : Stacked Operand). l.under) same),
      refl,
      refl,
      refl,
    )
