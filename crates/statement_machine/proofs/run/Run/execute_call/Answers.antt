use Rattle.std.proofs.Common.{ap, ◌∙◌}
use Rattle.std.proofs.lemmas.Option.{slice_get_within}
use Rattle.model.specs.Module.Flow.{Shape}
use Rattle.model.specs.Machine.Steps.{At}
use Rattle.model.specs.declared.instr.Instr.TheVariants as op
use Rattle.model.proofs.Machine.Standing as laws
use Rattle.frames.specs.View.{operands_of}
use Rattle.loader.specs.Places.{offset_at}
use Rattle.instruction_steps.specs.Held.{after, handlers_in, waiting}
use Rattle.instruction_steps.proofs.Flowing.{above, asks, label_needs}
use Rattle.statement_machine.proofs.Matching.{code_now, fits, for_no_match, goto_now}
use Rattle.unit_io.proofs.Serving.{served_on}
use Rattle.operations.proofs.Asked.{takes_on}
use Rattle.instruction_steps.specs.Stopped.{halted_by}
use Rattle.instruction_steps.specs.Asking.{io_at}
use Rattle.statement_machine.proofs.run.Run.execute_call.Goals as goal

pub go_to_value-requires-clause-operands : goal.go_to_value-requires-clause-operands
go_to_value-requires-clause-operands g c =
    let im = c.args.program.now in
    let r = c.args.self.now in
    (label_needs im c.requires.runnable r.state c.args.next (fits im r c.requires.code c.requires.stands) (c.requires.there.0 ∙ ap (λ i. At i (offset_at im.code c.args.next)) c.in-GotoV.is)).0

pub go_to_value-requires-clause-handlers : goal.go_to_value-requires-clause-handlers
go_to_value-requires-clause-handlers g c =
    let im = c.args.program.now in
    let r = c.args.self.now in
    (label_needs im c.requires.runnable r.state c.args.next (fits im r c.requires.code c.requires.stands) (c.requires.there.0 ∙ ap (λ i. At i (offset_at im.code c.args.next)) c.in-GotoV.is)).1

pub return_from-requires-clause-upon : goal.return_from-requires-clause-upon
return_from-requires-clause-upon g c =
    let im = c.args.program.now in
    let r = c.args.self.now in
    let a = asks im c.requires.runnable r.state c.args.next (fits im r c.requires.code c.requires.stands) (op.Return c.in-Return.kind) (c.requires.there.0 ∙ ap (λ i. At i (offset_at im.code c.args.next)) c.in-Return.is) in
    for_no_match im r.frames.top r.state (goto_now im r c.requires.code c.requires.stands (ap (λ (x : Shape). x.mode) a)).0

pub go_to_value-requires-clause-upon : goal.go_to_value-requires-clause-upon
go_to_value-requires-clause-upon g c =
    let im = c.args.program.now in
    let r = c.args.self.now in
    let a = asks im c.requires.runnable r.state c.args.next (fits im r c.requires.code c.requires.stands) op.GotoV (c.requires.there.0 ∙ ap (λ i. At i (offset_at im.code c.args.next)) c.in-GotoV.is) in
    for_no_match im r.frames.top r.state (goto_now im r c.requires.code c.requires.stands (ap (λ (x : Shape). x.mode) a)).0

pub returns-in-GotoV-clause-sound : goal.returns-in-GotoV-clause-sound
returns-in-GotoV-clause-sound g c =
    let im = c.args.program.now in
    let r = c.args.self.now in
    let a = asks im c.requires.runnable r.state c.args.next (fits im r c.requires.code c.requires.stands) op.GotoV (c.requires.there.0 ∙ ap (λ i. At i (offset_at im.code c.args.next)) c.in-GotoV.is) in
    c.go_to_value.ensures.sound (goto_now im r c.requires.code c.requires.stands (ap (λ (x : Shape). x.mode) a))

pub call-requires-clause-string : goal.call-requires-clause-string
call-requires-clause-string g c =
    let im = c.args.program.now in
    let r = c.args.self.now in
    let there = (c.requires.there.0 ∙ ap (λ i. At i (offset_at im.code c.args.next)) c.in-CallV.is) in
    let part = c.requires.runnable.complete.parts (offset_at im.code r.state.place) (offset_at im.code c.args.next) (op.CallV c.in-CallV.number c.in-CallV.count) there in
    slice_get_within im.strings c.in-CallV.number part.0 part.1

pub call-requires-clause-operands : goal.call-requires-clause-operands
call-requires-clause-operands g c =
    let im = c.args.program.now in
    let r = c.args.self.now in
    above im c.requires.runnable r.state c.args.next (fits im r c.requires.code c.requires.stands) (op.CallV c.in-CallV.number c.in-CallV.count) (c.requires.there.0 ∙ ap (λ i. At i (offset_at im.code c.args.next)) c.in-CallV.is) (λ a. a)

pub returns-in-CallV-clause-served : goal.returns-in-CallV-clause-served
returns-in-CallV-clause-served g c = served_on c.call.ensures.served (λ io io' l. rw c.in-CallV.is l)

pub returns-in-CallV-clause-sound : goal.returns-in-CallV-clause-sound
returns-in-CallV-clause-sound g c =
    let im = c.args.program.now in
    let r = c.args.self.now in
    let s = r.state in
    let st = code_now im r c.requires.code c.requires.stands in
    let there = (c.requires.there.0 ∙ ap (λ i. At i (offset_at im.code c.args.next)) c.in-CallV.is) in
    c.call.ensures.sound
    (λ rest e. laws.value_caller im c.requires.runnable.complete (offset_at im.code s.place) (offset_at im.code c.args.next) (operands_of s.operands.top) (handlers_in im s) (waiting im r.frames.top s) st.0 st.1 c.in-CallV.number c.in-CallV.count there rest e, st.1)

pub call-requires-in-CallN-clause-string : goal.call-requires-in-CallN-clause-string
call-requires-in-CallN-clause-string g c =
    let im = c.args.program.now in
    let r = c.args.self.now in
    let there = (c.requires.there.0 ∙ ap (λ i. At i (offset_at im.code c.args.next)) c.in-CallN.is) in
    let part = c.requires.runnable.complete.parts (offset_at im.code r.state.place) (offset_at im.code c.args.next) (op.CallN c.in-CallN.number c.in-CallN.count) there in
    slice_get_within im.strings c.in-CallN.number part.0 part.1

pub call-requires-in-CallN-clause-operands : goal.call-requires-in-CallN-clause-operands
call-requires-in-CallN-clause-operands g c =
    let im = c.args.program.now in
    let r = c.args.self.now in
    above im c.requires.runnable r.state c.args.next (fits im r c.requires.code c.requires.stands) (op.CallN c.in-CallN.number c.in-CallN.count) (c.requires.there.0 ∙ ap (λ i. At i (offset_at im.code c.args.next)) c.in-CallN.is) (λ a. a)

pub returns-in-CallN-clause-served : goal.returns-in-CallN-clause-served
returns-in-CallN-clause-served g c = served_on c.call-in-CallN.ensures.served (λ io io' l. rw c.in-CallN.is l)

pub returns-in-CallN-clause-sound : goal.returns-in-CallN-clause-sound
returns-in-CallN-clause-sound g c =
    let im = c.args.program.now in
    let r = c.args.self.now in
    let s = r.state in
    let st = code_now im r c.requires.code c.requires.stands in
    let there = (c.requires.there.0 ∙ ap (λ i. At i (offset_at im.code c.args.next)) c.in-CallN.is) in
    c.call-in-CallN.ensures.sound
    (λ rest e. laws.name_caller im c.requires.runnable.complete (offset_at im.code s.place) (offset_at im.code c.args.next) (operands_of s.operands.top) (handlers_in im s) (waiting im r.frames.top s) st.0 st.1 c.in-CallN.number c.in-CallN.count there rest e, st.1)

pub primitive-requires-clause-operands : goal.primitive-requires-clause-operands
primitive-requires-clause-operands g c =
    let im = c.args.program.now in
    let r = c.args.self.now in
    above im c.requires.runnable r.state c.args.next (fits im r c.requires.code c.requires.stands) (op.PrimV c.in-PrimV.id c.in-PrimV.count) (c.requires.there.0 ∙ ap (λ i. At i (offset_at im.code c.args.next)) c.in-PrimV.is) (λ a. a)

pub returns-in-PrimV-clause-served : goal.returns-in-PrimV-clause-served
returns-in-PrimV-clause-served g c = served_on c.primitive.ensures.served (λ io io' l. rw c.in-PrimV.is l)

pub returns-in-PrimV-clause-sound : goal.returns-in-PrimV-clause-sound
returns-in-PrimV-clause-sound g c =
    let im = c.args.program.now in
    let r = c.args.self.now in
    let s = r.state in
    let st = code_now im r c.requires.code c.requires.stands in
    let there = (c.requires.there.0 ∙ ap (λ i. At i (offset_at im.code c.args.next)) c.in-PrimV.is) in
    c.primitive.ensures.sound
    (λ rest e. laws.value_primitive im c.requires.runnable.complete (offset_at im.code s.place) (offset_at im.code c.args.next) (operands_of s.operands.top) (handlers_in im s) (waiting im r.frames.top s) st.0 st.1 c.in-PrimV.id c.in-PrimV.count there rest e, st.1)

pub primitive-requires-in-PrimN-clause-operands : goal.primitive-requires-in-PrimN-clause-operands
primitive-requires-in-PrimN-clause-operands g c =
    let im = c.args.program.now in
    let r = c.args.self.now in
    above im c.requires.runnable r.state c.args.next (fits im r c.requires.code c.requires.stands) (op.PrimN c.in-PrimN.id c.in-PrimN.count) (c.requires.there.0 ∙ ap (λ i. At i (offset_at im.code c.args.next)) c.in-PrimN.is) (λ a. a)

pub returns-in-PrimN-clause-served : goal.returns-in-PrimN-clause-served
returns-in-PrimN-clause-served g c = served_on c.primitive-in-PrimN.ensures.served (λ io io' l. rw c.in-PrimN.is l)

pub returns-in-PrimN-clause-sound : goal.returns-in-PrimN-clause-sound
returns-in-PrimN-clause-sound g c =
    let im = c.args.program.now in
    let r = c.args.self.now in
    let s = r.state in
    let st = code_now im r c.requires.code c.requires.stands in
    let there = (c.requires.there.0 ∙ ap (λ i. At i (offset_at im.code c.args.next)) c.in-PrimN.is) in
    c.primitive-in-PrimN.ensures.sound
    (λ rest e. laws.name_primitive im c.requires.runnable.complete (offset_at im.code s.place) (offset_at im.code c.args.next) (operands_of s.operands.top) (handlers_in im s) (waiting im r.frames.top s) st.0 st.1 c.in-PrimN.id c.in-PrimN.count there rest e, st.1)

pub returns-in-Return-clause-asked : goal.returns-in-Return-clause-asked
returns-in-Return-clause-asked g c =
    let im = c.args.program.now in
    let r = c.args.self.now in
    takes_on _ (halted_by c.return_from.result) _ _ (λ io. ap (λ i. io_at (after im i c.args.next r.frames.top r.state io)) c.in-Return.is) (c.return_from.ensures.asked im)

pub returns-in-GotoV-clause-asked : goal.returns-in-GotoV-clause-asked
returns-in-GotoV-clause-asked g c =
    let im = c.args.program.now in
    let r = c.args.self.now in
    takes_on _ (halted_by c.go_to_value.result) _ _ (λ io. ap (λ i. io_at (after im i c.args.next r.frames.top r.state io)) c.in-GotoV.is) c.go_to_value.ensures.asked

pub returns-in-CallV-clause-asked : goal.returns-in-CallV-clause-asked
returns-in-CallV-clause-asked g c =
    let im = c.args.program.now in
    let r = c.args.self.now in
    takes_on _ (halted_by c.call.result) _ _ (λ io. ap (λ i. io_at (after im i c.args.next r.frames.top r.state io)) c.in-CallV.is) c.call.ensures.asked

pub returns-in-CallN-clause-asked : goal.returns-in-CallN-clause-asked
returns-in-CallN-clause-asked g c =
    let im = c.args.program.now in
    let r = c.args.self.now in
    takes_on _ (halted_by c.call-in-CallN.result) _ _ (λ io. ap (λ i. io_at (after im i c.args.next r.frames.top r.state io)) c.in-CallN.is) c.call-in-CallN.ensures.asked

pub returns-in-PrimV-clause-asked : goal.returns-in-PrimV-clause-asked
returns-in-PrimV-clause-asked g c =
    let im = c.args.program.now in
    let r = c.args.self.now in
    takes_on _ (halted_by c.primitive.result) _ _ (λ io. ap (λ i. io_at (after im i c.args.next r.frames.top r.state io)) c.in-PrimV.is) c.primitive.ensures.asked

pub returns-in-PrimN-clause-asked : goal.returns-in-PrimN-clause-asked
returns-in-PrimN-clause-asked g c =
    let im = c.args.program.now in
    let r = c.args.self.now in
    takes_on _ (halted_by c.primitive-in-PrimN.result) _ _ (λ io. ap (λ i. io_at (after im i c.args.next r.frames.top r.state io)) c.in-PrimN.is) c.primitive-in-PrimN.ensures.asked

pub returns-in-Return-clause-served : goal.returns-in-Return-clause-served
returns-in-Return-clause-served g c = served_on c.return_from.ensures.served (λ io io' l. rw c.in-Return.is (l c.args.program.now))

pub returns-in-GotoV-clause-served : goal.returns-in-GotoV-clause-served
returns-in-GotoV-clause-served g c = served_on c.go_to_value.ensures.served (λ io io' l. rw c.in-GotoV.is l)
