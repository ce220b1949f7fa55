use Rattle.std.proofs.Common.{◌≡◌, Some, sym, ap, ◌∙◌, subst}
use Rattle.model.specs.Machine.Steps.{Run, fail_to}
use Rattle.frames.specs.Frames.{frames_of}
use Rattle.frames.specs.Stacked.{Stacked}
use Rattle.frames.specs.View.{operands_of, handlers_of}
use Rattle.frames.specs.Failing.{caught_at}
use Rattle.frames.specs.declared.handler.Handler.{Handler}
use Rattle.frames.specs.declared.operand.Operand.{Operand}
use Rattle.loader.specs.Places.{offset_at}
use Rattle.world.specs.Held.{world_of}
use Rattle.instruction_steps.specs.Held.{waiting}
use Rattle.instruction_steps.proofs.state.State.fail.Goals as goal

pub returns-in-Some-Statement-clause-left : goal.returns-in-Some-Statement-clause-left
returns-in-Some-Statement-clause-left c im fs io =
    let s = c.args.self.now in
    let w = world_of s.world io in
    let w1 = world_of c.count_failure.new.self io in
    let o = offset_at im.code in
    let to = o c.in-Some-Statement.target in
    let waits = waiting im fs s in
    let new_ops = c.fail.new.operands in
    let new_hs = c.fail.new.handlers in
    let ops = operands_of new_ops.top in
    let hs = handlers_of o new_hs.top in
    subst (λ x. fail_to (handlers_of o s.handlers.top) (operands_of s.operands.top) waits w ≡ caught_at o (Some x) ops hs waits w) c.in-Some-Statement.field-0-is (c.in-Some-Statement.ensures.leads o waits w)
    ∙ ap (λ v. Run to ops hs waits v) (sym (c.count_failure.ensures.counted io))
    ∙ ap (λ us. Run to ops hs (frames_of o fs us s.handlers.under s.saved.items) w1) (sym (ap (λ (l : Stacked Operand). l.under) c.in-Some-Statement.ensures.operands))
    ∙ ap (λ us. Run to ops hs (frames_of o fs new_ops.under us s.saved.items) w1) (sym (ap (λ (l : Stacked Handler). l.under) c.in-Some-Statement.ensures.handlers))

pub returns-in-Some-Try-clause-left : goal.returns-in-Some-Try-clause-left
returns-in-Some-Try-clause-left c im fs io =
    let s = c.args.self.now in
    let w = world_of s.world io in
    let o = offset_at im.code in
    let to = o c.in-Some-Try.target in
    let waits = waiting im fs s in
    let new_ops = c.fail.new.operands in
    let new_hs = c.fail.new.handlers in
    let ops = operands_of new_ops.top in
    let hs = handlers_of o new_hs.top in
    subst (λ x. fail_to (handlers_of o s.handlers.top) (operands_of s.operands.top) waits w ≡ caught_at o (Some x) ops hs waits w) c.in-Some-Try.field-0-is (c.in-Some-Try.ensures.leads o waits w)
    ∙ ap (λ us. Run to ops hs (frames_of o fs us s.handlers.under s.saved.items) w) (sym (ap (λ (l : Stacked Operand). l.under) c.in-Some-Try.ensures.operands))
    ∙ ap (λ us. Run to ops hs (frames_of o fs new_ops.under us s.saved.items) w) (sym (ap (λ (l : Stacked Handler). l.under) c.in-Some-Try.ensures.handlers))
