use Rattle.std.proofs.Common.{ap, refl, sym}
use Rattle.frames.specs.Stacked.{Stacked}
use Rattle.frames.specs.declared.operand.Operand.{Operand}
use Rattle.instruction_steps.proofs.Named.{subscripts_first, base_next, was_named}
use Rattle.instruction_steps.proofs.state.State.item.Goals as goal

pub pop_values-requires : goal.pop_values-requires
pop_values-requires c = subscripts_first c.args.count c.args.self.now.operands.top c.requires

pub pop_value-base-requires : goal.pop_value-base-requires
pop_value-base-requires c =
    base_next c.args.count c.args.self.now.operands.top c.pop_values.new.operands.top c.pop_values.new.values.items c.requires (ap (λ (l : Stacked Operand). l.top) c.in_ok-pop_values.ensures.operands) c.in_ok-pop_values.ensures.count

pub returns-clause-named : goal.returns-clause-named
returns-clause-named c im fs next io =
    let new = record c.args.self.now { operands = c.pop_value-base.new.operands; arguments = c.pop_values.new.values } in
    was_named im fs c.args.count next c.args.self.now new io c.pop_values.new.operands c.pop_values.new.values.items c.as_slice.result.now c.pop_value-base.result c.item.result
    c.as_slice.ensures.value c.in_ok-pop_values.ensures.pops (sym (ap (λ (l : Stacked Operand). l.under) c.in_ok-pop_values.ensures.operands)) c.pop_value-base.ensures refl refl refl (c.item.ensures.name io)

pub returns-then-count-eq1-clause-named : goal.returns-then-count-eq1-clause-named
returns-then-count-eq1-clause-named c im fs next io = rw c.if-count-eq1.true (c.item_of_one.ensures.named im fs next io)
