use Rattle.std.proofs.Common.{subst}
use Rattle.model.specs.Language.Calls.{return_of}
use Rattle.model.specs.Machine.Steps.{go_to_return}
use Rattle.model.specs.Module.Images.{module_of}
use Rattle.world.specs.Held.{world_of}
use Rattle.instruction_steps.specs.Calling.{GoesTo}
use Rattle.instruction_steps.specs.Held.{waiting}
use Rattle.instruction_steps.proofs.Called.{labelled}
use Rattle.instruction_steps.proofs.state.State.goto_entry.Goals as goal

pub returns-in-Some-clause-left : goal.returns-in-Some-clause-left
returns-in-Some-clause-left c fs io =
    labelled c.args.program.now c.requires.runnable c.args.label.now c.in-Some.place c.in-Some.ensures fs c.args.self.now io c.requires.operands c.requires.handlers

pub returns-in-None-clause-left : goal.returns-in-None-clause-left
returns-in-None-clause-left c fs io =
    let im = c.args.program.now in
    let s = c.args.self.now in
    subst (λ l. GoesTo im fs c.goto_label.result c.goto_label.new.self io (go_to_return (module_of im) l (return_of l) (waiting im fs s) (world_of s.world io))) c.as_slice.ensures (c.goto_label.ensures.left fs io)
