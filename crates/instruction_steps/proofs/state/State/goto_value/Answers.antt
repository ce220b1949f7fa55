use Rattle.std.proofs.Common.{[], refl, sym, ap, subst}
use Rattle.model.specs.Language.Calls.{return_of}
use Rattle.model.specs.Machine.Steps.{go_to_return}
use Rattle.model.specs.Module.Images.{module_of}
use Rattle.world.specs.Held.{world_of}
use Rattle.frames.specs.Stacked.{Stacked}
use Rattle.frames.specs.declared.operand.Operand.{Operand}
use Rattle.instruction_steps.specs.Calling.{GoesTo}
use Rattle.instruction_steps.specs.Held.{waiting}
use Rattle.instruction_steps.proofs.Flowing.{last_operand}
use Rattle.instruction_steps.proofs.Going.{by_label, by_none}
use Rattle.instruction_steps.proofs.state.State.goto_value.Goals as goal

pub pop_value-requires : goal.pop_value-requires
pop_value-requires c = ([], c.requires.operands)

pub goto_label-requires-clause-operands : goal.goto_label-requires-clause-operands
goto_label-requires-clause-operands c = last_operand c.args.self.now.operands.top c.pop_value.new.operands.top _ _ (ap (λ (l : Stacked Operand). l.top) c.pop_value.ensures) c.requires.operands

pub returns-in-Ok-clause-left : goal.returns-in-Ok-clause-left
returns-in-Ok-clause-left c next fs io =
    subst (λ st. GoesTo c.args.program.now fs c.goto_label.result c.goto_label.new.self io st) (sym (by_label c.args.program.now fs next c.args.self.now (record c.args.self.now { operands = c.pop_value.new.operands }) c.pop_value.result io c.pop_value.ensures c.in-Ok.label c.in-Ok.ensures.label))
    (subst (λ l. GoesTo c.args.program.now fs c.goto_label.result c.goto_label.new.self io (go_to_return (module_of c.args.program.now) l (return_of l) (waiting c.args.program.now fs (record c.args.self.now { operands = c.pop_value.new.operands })) (world_of c.args.self.now.world io))) c.as_slice.ensures (c.goto_label.ensures.left fs io))

pub returns-in-Err-clause-left : goal.returns-in-Err-clause-left
returns-in-Err-clause-left c next fs io =
    by_none c.args.program.now fs next c.args.self.now (record c.args.self.now { operands = c.pop_value.new.operands }) c.pop_value.result io c.pop_value.ensures c.in-Err.fault refl c.in-Err.ensures.label
