use Rattle.model.specs.declared.instr.Instr.TheVariants.{Elem}
use Rattle.instruction_steps.specs.Held.{after}
use Rattle.instruction_steps.proofs.Named.{on_named, on_none}
use Rattle.instruction_steps.proofs.state.State.element.Goals as goal

pub returns-in-Ok-Some-clause-left : goal.returns-in-Ok-Some-clause-left
returns-in-Ok-Some-clause-left c im fs io =
    on_named im fs c.args.next c.in-Ok-Some.field-0 c.in-Ok-Some.name c.item.new.self c.put_name.new.self io c.put_name.result (after im (Elem c.args.count) c.args.next fs c.args.self.now io)
    c.in-Ok-Some.field-0-is (c.in-Ok-Some.ensures.named im fs c.args.next io) (c.put_name.ensures.left im fs io)

pub returns-in-Ok-None-clause-left : goal.returns-in-Ok-None-clause-left
returns-in-Ok-None-clause-left c im fs io =
    on_none im fs c.args.next c.in-Ok-None.field-0 c.item.new.self c.fail.new.self io c.fail.result (after im (Elem c.args.count) c.args.next fs c.args.self.now io)
    c.in-Ok-None.field-0-is (c.in-Ok-None.ensures.named im fs c.args.next io) (c.fail.ensures.left im fs io)

pub returns-in-Err-clause-left : goal.returns-in-Err-clause-left
returns-in-Err-clause-left c im fs io =
    c.in-Err.ensures.named im fs c.args.next io
