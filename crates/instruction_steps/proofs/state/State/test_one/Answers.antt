use Rattle.std.proofs.Common.{[], ◌∷◌, ap, refl, sym}
use Rattle.frames.specs.Kinds.{kinds_of}
use Rattle.frames.specs.Stacked.{Stacked}
use Rattle.frames.specs.declared.operand.Operand.{Operand}
use Rattle.world.specs.Held.{world_of}
use Rattle.values.specs.Values.{value_of}
use Rattle.instruction_steps.proofs.Tests.{one_taken, test_left, test_stays}
use Rattle.instruction_steps.proofs.Telling.{no_records}
use Rattle.instruction_steps.proofs.state.State.test_one.Goals as goal

pub returns-clause-left : goal.returns-clause-left
returns-clause-left c im fs io =
    let s = c.args.self.now in
    let a = c.pop_value-first.result in
    let vs = value_of a ∷ [] in
    test_left im fs c.args.id 1 c.args.next s c.tested.new.self c.pop_value-first.new.operands io vs c.holds-answer.result c.tested.result
    (one_taken s.operands c.pop_value-first.new.operands a c.pop_value-first.ensures)
    (sym (ap (λ (l : Stacked Operand). l.under) c.pop_value-first.ensures))
    (c.holds-answer.ensures vs (world_of s.world io) refl (sym c.null.ensures))
    (c.tested.ensures.left im fs io)

pub returns-clause-sound : goal.returns-clause-sound
returns-clause-sound c im fs h =
    test_stays im fs c.args.next 1 c.args.self.now c.tested.new.self c.pop_value-first.new.operands c.holds-answer.result c.tested.result
    (ap (λ (l : Stacked Operand). kinds_of l.top) c.pop_value-first.ensures)
    (sym (ap (λ (l : Stacked Operand). l.under) c.pop_value-first.ensures))
    (c.tested.ensures.left im fs no_records) h
