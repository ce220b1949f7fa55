use Rattle.std.proofs.Common.{ap, sym, subst}
use Rattle.unit_io.proofs.Serving.{served_on}
use Rattle.statement_machine.specs.Runs.{Leaves}
use Rattle.instruction_steps.proofs.Calling.{caller_stands}
use Rattle.statement_machine.proofs.Calling.{primitive_is}
use Rattle.statement_machine.proofs.Matching.{code_stands, left_leaves}
use Rattle.instruction_steps.proofs.Stopping.{served_alone}
use Rattle.statement_machine.proofs.Tests.{as_call, as_primitive}
use Rattle.operations.proofs.Asked.{takes_on}
use Rattle.instruction_steps.proofs.Asked.{no_unit}
use Rattle.instruction_steps.specs.Stopped.{halted_by}
use Rattle.instruction_steps.specs.Asking.{io_at}
use Rattle.statement_machine.proofs.run.Run.primitive.Goals as goal

pub returns-clause-served : goal.returns-clause-served
returns-clause-served g c =
    let im = c.args.program.now in
    let r = c.args.self.now in
    served_on c.call_primitive.ensures.served
    (λ io io' l. subst (λ st. Leaves im c.call_primitive.result c.call_primitive.new.self io' st)
    (sym (primitive_is im r.frames.top c.args.count r.state c.take_arguments.new.self c.in_ok-take_arguments.ensures.taken c.args.want_name c.args.id c.args.next io c.in_ok-take_arguments.ensures.pops)) l)

pub returns-clause-sound : goal.returns-clause-sound
returns-clause-sound g c h =
    let r = c.args.self.now in
    c.call_primitive.ensures.sound (caller_stands c.args.program.now r.frames.top c.args.count r.state c.take_arguments.new.self c.in_ok-take_arguments.ensures.taken c.args.want_name c.args.next h)

pub returns-then-count-eq2-clause-served : goal.returns-then-count-eq2-clause-served
returns-then-count-eq2-clause-served g c =
    let im = c.args.program.now in
    let r = c.args.self.now in
    let t = c.test_two in
    served_alone g.U.Units c.args.units.now t.result t.ensures.stop
    (λ io. left_leaves im t.result r t.new.self io _ c.requires.code
    (as_primitive im r.frames.top c.args.want_name c.args.id c.args.count 2 c.args.next r.state t.new.self io t.result c.if-not-want_name.true c.if-count-eq2.true (t.ensures.left im r.frames.top io)))

pub returns-then-count-eq2-clause-sound : goal.returns-then-count-eq2-clause-sound
returns-then-count-eq2-clause-sound g c h =
    let im = c.args.program.now in
    let r = c.args.self.now in
    let t = c.test_two in
    code_stands im t.result r t.new.self c.requires.code
    (t.ensures.sound im r.frames.top (as_call im r.frames.top c.args.want_name c.args.count 2 c.args.next r.state c.if-not-want_name.true c.if-count-eq2.true h))

pub returns-then-count-eq1-clause-served : goal.returns-then-count-eq1-clause-served
returns-then-count-eq1-clause-served g c =
    let im = c.args.program.now in
    let r = c.args.self.now in
    let t = c.test_one in
    served_alone g.U.Units c.args.units.now t.result t.ensures.stop
    (λ io. left_leaves im t.result r t.new.self io _ c.requires.code
    (as_primitive im r.frames.top c.args.want_name c.args.id c.args.count 1 c.args.next r.state t.new.self io t.result c.if-not-want_name.true c.if-count-eq1.true (t.ensures.left im r.frames.top io)))

pub returns-then-count-eq1-clause-sound : goal.returns-then-count-eq1-clause-sound
returns-then-count-eq1-clause-sound g c h =
    let im = c.args.program.now in
    let r = c.args.self.now in
    let t = c.test_one in
    code_stands im t.result r t.new.self c.requires.code
    (t.ensures.sound im r.frames.top (as_call im r.frames.top c.args.want_name c.args.count 1 c.args.next r.state c.if-not-want_name.true c.if-count-eq1.true h))

pub returns-clause-asked : goal.returns-clause-asked
returns-clause-asked g c =
    let im = c.args.program.now in
    let r = c.args.self.now in
    takes_on _ (halted_by c.call_primitive.result) _ _
    (λ io. ap io_at (primitive_is im r.frames.top c.args.count r.state c.take_arguments.new.self c.in_ok-take_arguments.ensures.taken c.args.want_name c.args.id c.args.next io c.in_ok-take_arguments.ensures.pops))
    c.call_primitive.ensures.asked

pub returns-then-count-eq2-clause-asked : goal.returns-then-count-eq2-clause-asked
returns-then-count-eq2-clause-asked g c = no_unit c.test_two.result _ c.test_two.ensures.stop

pub returns-then-count-eq1-clause-asked : goal.returns-then-count-eq1-clause-asked
returns-then-count-eq1-clause-asked g c = no_unit c.test_one.result _ c.test_one.ensures.stop
