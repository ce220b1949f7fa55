use Rattle.std.proofs.Common.{ap, ◌∙◌}
use Rattle.model.specs.Machine.Steps.{At}
use Rattle.model.specs.declared.instr.Instr.TheVariants as op
use Rattle.loader.specs.Places.{offset_at}
use Rattle.instruction_steps.proofs.Flowing.{above}
use Rattle.unit_io.proofs.Serving.{kept_quiet, served_on}
use Rattle.operations.proofs.Asked.{asks_printing, asks_taking}
use Rattle.instruction_steps.specs.Stopped.{halted_by}
use Rattle.instruction_steps.specs.Asking.{io_at}
use Rattle.instruction_steps.specs.Held.{after}
use Rattle.instruction_steps.proofs.state.State.execute_with.Goals as goal

pub fetch-requires : goal.fetch-requires
fetch-requires g c =
    let to = offset_at c.args.program.now.code c.args.next in
    above c.args.program.now c.requires.runnable c.args.self.now c.args.next c.requires.fits op.Fetch (c.requires.there ∙ ap (λ i. At i to) c.in-Fetch.is) (λ a. a)

pub fetch_above-requires : goal.fetch_above-requires
fetch_above-requires g c =
    let to = offset_at c.args.program.now.code c.args.next in
    above c.args.program.now c.requires.runnable c.args.self.now c.args.next c.requires.fits op.FetchK (c.requires.there ∙ ap (λ i. At i to) c.in-FetchK.is) (λ a. a)

pub assign-requires : goal.assign-requires
assign-requires g c =
    let to = offset_at c.args.program.now.code c.args.next in
    above c.args.program.now c.requires.runnable c.args.self.now c.args.next c.requires.fits op.Assign (c.requires.there ∙ ap (λ i. At i to) c.in-Assign.is) (λ a. a)

pub splice-requires : goal.splice-requires
splice-requires g c =
    let to = offset_at c.args.program.now.code c.args.next in
    above c.args.program.now c.requires.runnable c.args.self.now c.args.next c.requires.fits op.Splice (c.requires.there ∙ ap (λ i. At i to) c.in-Splice.is) (λ a. a)

pub returns-in-Fetch-clause-served : goal.returns-in-Fetch-clause-served
returns-in-Fetch-clause-served g c = served_on c.fetch.ensures.served (λ io io' p fs. rw c.in-Fetch.is (p c.args.program.now fs))

pub returns-in-FetchK-clause-served : goal.returns-in-FetchK-clause-served
returns-in-FetchK-clause-served g c = served_on c.fetch_above.ensures.served (λ io io' p fs. rw c.in-FetchK.is (p c.args.program.now fs))

pub returns-in-Assign-clause-served : goal.returns-in-Assign-clause-served
returns-in-Assign-clause-served g c = served_on c.assign.ensures.served (λ io io' p fs. rw c.in-Assign.is (p c.args.program.now fs))

pub returns-in-Splice-clause-served : goal.returns-in-Splice-clause-served
returns-in-Splice-clause-served g c = served_on c.splice.ensures.served (λ io io' p fs. rw c.in-Splice.is (p c.args.program.now fs))

pub returns-in-Fetch-clause-sound : goal.returns-in-Fetch-clause-sound
returns-in-Fetch-clause-sound g c fs sound =
    let to = offset_at c.args.program.now.code c.args.next in
    c.fetch.ensures.sound c.args.program.now fs (c.requires.runnable, sound, c.requires.there ∙ ap (λ i. At i to) c.in-Fetch.is)

pub returns-in-FetchK-clause-sound : goal.returns-in-FetchK-clause-sound
returns-in-FetchK-clause-sound g c fs sound =
    let to = offset_at c.args.program.now.code c.args.next in
    c.fetch_above.ensures.sound c.args.program.now fs (c.requires.runnable, sound, c.requires.there ∙ ap (λ i. At i to) c.in-FetchK.is)

pub returns-in-Assign-clause-sound : goal.returns-in-Assign-clause-sound
returns-in-Assign-clause-sound g c fs sound =
    let to = offset_at c.args.program.now.code c.args.next in
    c.assign.ensures.sound c.args.program.now fs (c.requires.runnable, sound, c.requires.there ∙ ap (λ i. At i to) c.in-Assign.is)

pub returns-in-Splice-clause-sound : goal.returns-in-Splice-clause-sound
returns-in-Splice-clause-sound g c fs sound =
    let to = offset_at c.args.program.now.code c.args.next in
    c.splice.ensures.sound c.args.program.now fs (c.requires.runnable, sound, c.requires.there ∙ ap (λ i. At i to) c.in-Splice.is)

pub returns-in-Fetch-clause-asked : goal.returns-in-Fetch-clause-asked
returns-in-Fetch-clause-asked g c fs =
    let im = c.args.program.now in
    asks_taking _ (halted_by c.fetch.result) _ _ (λ io. ap (λ i. io_at (after im i c.args.next fs c.args.self.now io)) c.in-Fetch.is) (c.fetch.ensures.asked im fs)

pub returns-in-FetchK-clause-asked : goal.returns-in-FetchK-clause-asked
returns-in-FetchK-clause-asked g c fs =
    let im = c.args.program.now in
    asks_taking _ (halted_by c.fetch_above.result) _ _ (λ io. ap (λ i. io_at (after im i c.args.next fs c.args.self.now io)) c.in-FetchK.is) (c.fetch_above.ensures.asked im fs)

pub returns-in-Assign-clause-asked : goal.returns-in-Assign-clause-asked
returns-in-Assign-clause-asked g c fs =
    let im = c.args.program.now in
    asks_printing _ (halted_by c.assign.result) _ _ (λ io. ap (λ i. io_at (after im i c.args.next fs c.args.self.now io)) c.in-Assign.is) (c.assign.ensures.asked im fs)

pub returns-in-Splice-clause-asked : goal.returns-in-Splice-clause-asked
returns-in-Splice-clause-asked g c fs =
    let im = c.args.program.now in
    asks_printing _ (halted_by c.splice.result) _ _ (λ io. ap (λ i. io_at (after im i c.args.next fs c.args.self.now io)) c.in-Splice.is) (c.splice.ensures.asked im fs)

pub returns-in-Assign-clause-quiet : goal.returns-in-Assign-clause-quiet
returns-in-Assign-clause-quiet g c = kept_quiet (halted_by c.assign.result) _ _ c.assign.ensures.quiet

pub returns-in-Splice-clause-quiet : goal.returns-in-Splice-clause-quiet
returns-in-Splice-clause-quiet g c = kept_quiet (halted_by c.splice.result) _ _ c.splice.ensures.quiet
