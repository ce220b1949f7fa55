use Rattle.std.proofs.Common.{ap}
use Rattle.unit_io.proofs.Serving.{served_on}
use Rattle.model.specs.Language.Calls.{construct_op}
use Rattle.world.specs.Held.{world_of}
use Rattle.world.specs.declared.calls.Given.TheVariants as given
use Rattle.operations.proofs.Asked.{takes_on}
use Rattle.instruction_steps.specs.Stopped.{halted_by}
use Rattle.instruction_steps.specs.Asking.{io_at}
use Rattle.instruction_steps.specs.Calling.{arguments_in, given_by}
use Rattle.instruction_steps.proofs.Calling.{given_gives}
use Rattle.instruction_steps.proofs.state.State.construct.Goals as goal

pub returns-clause-served : goal.returns-clause-served
returns-clause-served g c =
    let s = c.args.self.now in
    served_on c.resume.ensures.served
    (λ io io' p im fs. given_gives im fs c.args.want_name c.args.next (construct_op c.args.name.now c.args.fields (arguments_in s) (world_of s.world io)) s c.resume.new.self io' (given.Value c.in_ok-made.made) (world_of c.construct.new.world io) c.resume.result
    (c.in_ok-made.ensures.made io) (p im fs))

pub returns-clause-asked : goal.returns-clause-asked
returns-clause-asked g c im fs =
    let s = c.args.self.now in
    takes_on _ (halted_by c.resume.result) _ _
    (λ io. ap (λ o. io_at (given_by im fs c.args.want_name c.args.next o s)) (c.in_ok-made.ensures.made io))
    (c.resume.ensures.asked im fs)
