use Rattle.std.proofs.Common.{refl, subst, Ok}
use Rattle.frames.specs.View.{operands_of}
use Rattle.values.specs.Answers.{AnswersAs, done}
use Rattle.world.specs.Held.{world_of}
use Rattle.instruction_steps.specs.Held.{handlers_in, waiting}
use Rattle.instruction_steps.proofs.Keys.{halts}
use Rattle.instruction_steps.proofs.Operations.{gives}
use Rattle.instruction_steps.proofs.state.State.went.Goals as goal

pub returns-in-Ok-clause-left : goal.returns-in-Ok-clause-left
returns-in-Ok-clause-left c im fs io o a =
    let s = c.args.self.now in
    gives o (record {}) (world_of s.world io) im fs (Ok tt) (record s { place = c.args.next }) io (handlers_in im s) (operands_of s.operands.top) (waiting im fs s) _ (subst (λ r. AnswersAs (done r) (world_of s.world io) o) c.in-Ok.is a) refl

pub returns-in-Err-clause-left : goal.returns-in-Err-clause-left
returns-in-Err-clause-left c im fs io o a =
    let s = c.args.self.now in
    halts o c.in-Err.fault s io (handlers_in im s) (operands_of s.operands.top) (waiting im fs s) _ (subst (λ r. AnswersAs (done r) (world_of s.world io) o) c.in-Err.is a)
