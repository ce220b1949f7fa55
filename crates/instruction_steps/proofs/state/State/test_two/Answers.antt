use Rattle.std.proofs.Common.{[], ◌∷◌, ap, refl, sym, ◌∙◌}
use Rattle.model.specs.Module.Flow.{V}
use Rattle.frames.specs.Kinds.{kinds_of}
use Rattle.frames.specs.Stacked.{Stacked}
use Rattle.frames.specs.declared.operand.Operand.{Operand}
use Rattle.world.specs.Held.{world_of}
use Rattle.values.specs.Values.{value_of}
use Rattle.instruction_steps.proofs.Tests.{test_left, test_stays, two_taken}
use Rattle.instruction_steps.proofs.Telling.{no_records}
use Rattle.instruction_steps.proofs.state.State.test_two.Goals as goal

pub returns-clause-left : goal.returns-clause-left
returns-clause-left c im fs io =
    let s = c.args.self.now in
    let a = c.pop_value-first.result in
    let b = c.pop_value-second.result in
    let under = λ (l : Stacked Operand). l.under in
    let vs = value_of a ∷ value_of b ∷ [] in
    test_left im fs c.args.id 2 c.args.next s c.tested.new.self c.pop_value-first.new.operands io vs c.holds-answer.result c.tested.result
    (two_taken s.operands c.pop_value-second.new.operands c.pop_value-first.new.operands a b c.pop_value-second.ensures c.pop_value-first.ensures)
    (sym (ap under c.pop_value-second.ensures ∙ ap under c.pop_value-first.ensures))
    (c.holds-answer.ensures vs (world_of s.world io) refl refl)
    (c.tested.ensures.left im fs io)

pub returns-clause-sound : goal.returns-clause-sound
returns-clause-sound c im fs h =
    let s = c.args.self.now in
    let under = λ (l : Stacked Operand). l.under in
    let kinds = λ (l : Stacked Operand). kinds_of l.top in
    test_stays im fs c.args.next 2 s c.tested.new.self c.pop_value-first.new.operands c.holds-answer.result c.tested.result
    (ap kinds c.pop_value-second.ensures ∙ ap (λ ks. V ∷ ks) (ap kinds c.pop_value-first.ensures))
    (sym (ap under c.pop_value-second.ensures ∙ ap under c.pop_value-first.ensures))
    (c.tested.ensures.left im fs no_records) h
