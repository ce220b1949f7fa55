use Rattle.std.proofs.Common.{true, false, ap, subst, sym}
use Rattle.model.specs.Language.Calls.{AValue}
use Rattle.model.proofs.Machine.Standing as laws
use Rattle.unit_io.proofs.Serving.{served_on}
use Rattle.world.specs.Calling.{given_of}
use Rattle.world.specs.Held.{world_of}
use Rattle.values.specs.Values.{value_of}
use Rattle.instruction_steps.specs.Held.{Left, waiting}
use Rattle.instruction_steps.specs.Resuming.{CallerStands, caller_in, resumed_with}
use Rattle.instruction_steps.proofs.Flowing.{seen}
use Rattle.instruction_steps.proofs.Stopping.{served_alone}
use Rattle.instruction_steps.proofs.Telling.{no_records}
use Rattle.instruction_steps.proofs.Asked.{no_unit}
use Rattle.operations.proofs.Asked.{takes_on}
use Rattle.instruction_steps.specs.Stopped.{halted_by}
use Rattle.instruction_steps.specs.Asking.{io_at}
use Rattle.instruction_steps.proofs.state.State.resume.Goals as goal

pub returns-then-want_name-clause-served : goal.returns-then-want_name-clause-served
returns-then-want_name-clause-served g c =
    served_alone g.U.Units c.args.units.now c.resume_for_name.result c.resume_for_name.ensures.stop
    (λ io im fs. subst (λ b. Left im fs c.resume_for_name.result c.resume_for_name.new.self io (resumed_with im fs b c.args.next c.args.given c.args.self.now io)) (sym c.if-want_name.true) (c.resume_for_name.ensures.left im fs io))

pub returns-then-want_name-clause-sound : goal.returns-then-want_name-clause-sound
returns-then-want_name-clause-sound g c im fs h =
    let s = c.args.self.now in
    let stands = subst (λ b. CallerStands im fs b c.args.next s) c.if-want_name.true h in
    seen im fs c.resume_for_name.result c.resume_for_name.new.self no_records _ (c.resume_for_name.ensures.left im fs no_records)
    (laws.resume_stands im true (caller_in im true c.args.next s) (waiting im fs s) (given_of c.args.given) (world_of s.world no_records) stands.0 stands.1)

pub returns-in-Value-clause-served : goal.returns-in-Value-clause-served
returns-in-Value-clause-served g c =
    served_alone g.U.Units c.args.units.now c.put.result c.put.ensures.stop
    (λ io im fs. subst (λ b. Left im fs c.put.result c.put.new.self io (resumed_with im fs b c.args.next c.args.given c.args.self.now io)) (sym c.if-want_name.false)
    (subst (λ x. Left im fs c.put.result c.put.new.self io (resumed_with im fs false c.args.next x c.args.self.now io)) (sym c.in-Value.is) (c.put.ensures.left im fs io)))

pub returns-in-Value-clause-sound : goal.returns-in-Value-clause-sound
returns-in-Value-clause-sound g c im fs h =
    let s = c.args.self.now in
    let stands = subst (λ b. CallerStands im fs b c.args.next s) c.if-want_name.false h in
    seen im fs c.put.result c.put.new.self no_records _ (c.put.ensures.left im fs no_records)
    (laws.resume_stands im false (caller_in im false c.args.next s) (waiting im fs s) (AValue (value_of c.in-Value.value)) (world_of s.world no_records) stands.0 stands.1)

pub returns-in_default-clause-served : goal.returns-in_default-clause-served
returns-in_default-clause-served g c =
    served_on c.resume_for_value.ensures.served
    (λ io io' p im fs. subst (λ b. Left im fs c.resume_for_value.result c.resume_for_value.new.self io' (resumed_with im fs b c.args.next c.args.given c.args.self.now io)) (sym c.if-want_name.false) (p im fs))

pub returns-in_default-clause-sound : goal.returns-in_default-clause-sound
returns-in_default-clause-sound g c im fs h =
    c.resume_for_value.ensures.sound im fs (subst (λ b. CallerStands im fs b c.args.next c.args.self.now) c.if-want_name.false h)

pub returns-then-want_name-clause-asked : goal.returns-then-want_name-clause-asked
returns-then-want_name-clause-asked g c im fs = no_unit c.resume_for_name.result _ c.resume_for_name.ensures.stop

pub returns-in-Value-clause-asked : goal.returns-in-Value-clause-asked
returns-in-Value-clause-asked g c im fs = no_unit c.put.result _ c.put.ensures.stop

pub returns-in_default-clause-asked : goal.returns-in_default-clause-asked
returns-in_default-clause-asked g c im fs =
    takes_on _ (halted_by c.resume_for_value.result) _ _ (λ io. ap (λ b. io_at (resumed_with im fs b c.args.next c.args.given c.args.self.now io)) c.if-want_name.false) (c.resume_for_value.ensures.asked im fs)
