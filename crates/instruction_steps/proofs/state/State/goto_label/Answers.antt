use Rattle.std.proofs.Common.{◌∙◌, List, [], Err, ap, subst, sym}
use Rattle.model.specs.Machine.Steps.{Run, go_to_known, to_stmt}
use Rattle.model.specs.Module.Images.{module_of}
use Rattle.frames.specs.View.{operands_of, handlers_of}
use Rattle.frames.specs.declared.handler.Handler.{Handler}
use Rattle.frames.specs.declared.operand.Operand.{Operand}
use Rattle.loader.specs.Places.{offset_at}
use Rattle.world.specs.Held.{world_of}
use Rattle.instruction_steps.specs.Calling.{GoesTo}
use Rattle.instruction_steps.specs.Held.{waiting}
use Rattle.instruction_steps.proofs.Flowing.{statement_begins}
use Rattle.instruction_steps.proofs.Going.{leaves_not}
use Rattle.instruction_steps.proofs.state.State.goto_label.Goals as goal

pub returns-in_default-label-clause-left : goal.returns-in_default-label-clause-left
returns-in_default-label-clause-left c fs io =
    let im = c.args.program.now in
    let s = c.args.self.now in
    let waits = waiting im fs s in
    let w = world_of s.world io in
    subst (λ st. GoesTo im fs (Err c.no_label.result) s io st)
    (sym (leaves_not im c.args.label.now _ waits w (sym c.named.ensures ∙ c.in_default.is) ∙ ap (λ x. go_to_known (module_of im) x waits w) (sym c.label.ensures ∙ c.in_default-label.is)))
    (c.no_label.ensures.left im fs 0 io)

pub returns-clause-left : goal.returns-clause-left
returns-clause-left c fs io =
    let im = c.args.program.now in
    let s = c.args.self.now in
    let waits = waiting im fs s in
    let w = world_of s.world io in
    let at = offset_at im.code c.in-Some-statement.place in
    leaves_not im c.args.label.now _ waits w (sym c.named.ensures ∙ c.in_default.is)
    ∙ ap (λ x. go_to_known (module_of im) x waits w) (sym c.label.ensures ∙ c.in-Some-label.is)
    ∙ ap (λ o. to_stmt (module_of im) o waits w) (statement_begins im c.requires.runnable c.in-Some-label.number c.in-Some-statement.place (sym c.statement.ensures ∙ c.in-Some-statement.is))
    ∙ ap (λ (ops : List Operand). Run at (operands_of ops) [] waits w) (sym c.requires.operands)
    ∙ ap (λ (hs : List Handler). Run at (operands_of s.operands.top) (handlers_of (offset_at im.code) hs) waits w) (sym c.requires.handlers)
