use Rattle.std.proofs.Common.{[], ◌∷◌, ap, refl, sym}
use Rattle.frames.specs.Stacked.{Stacked}
use Rattle.frames.specs.View.{operands_of}
use Rattle.frames.specs.declared.operand.Operand.{Operand}
use Rattle.model.specs.Machine.Steps.{pop_many}
use Rattle.instruction_steps.proofs.Named.{was_named}
use Rattle.instruction_steps.proofs.state.State.item_of_one.Goals as goal

pub returns-clause-named : goal.returns-clause-named
returns-clause-named c im fs next io =
    let new = record c.args.self.now { operands = c.pop_value-base.new.operands } in
    let taken = c.pop_value-subscript.ensures in
    was_named im fs 1 next c.args.self.now new io c.pop_value-subscript.new.operands (c.pop_value-subscript.result ∷ []) (c.pop_value-subscript.result ∷ []) c.pop_value-base.result c.item.result
    refl (λ w k. ap (λ (l : Stacked Operand). pop_many 1 (operands_of l.top) [] w k) taken) (sym (ap (λ (l : Stacked Operand). l.under) taken)) c.pop_value-base.ensures refl refl refl (c.item.ensures.name io)
