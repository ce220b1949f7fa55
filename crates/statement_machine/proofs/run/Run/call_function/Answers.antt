use Rattle.std.proofs.Common.{ap, sym, subst, ◌∙◌, Some, None, Err}
use Rattle.unit_io.proofs.Serving.{served_on}
use Rattle.values.specs.Functions.{IfNamed}
use Rattle.values.specs.declared.functions.Function.TheVariants as function
use Rattle.values.specs.declared.fault.Fault.TheVariants.{Error}
use Rattle.model.specs.declared.run.ErrorCode.TheVariants.{UndefinedFunction}
use Rattle.statement_machine.specs.Runs.{Leaves}
use Rattle.world.specs.Slots.{IfStands}
use Rattle.instruction_steps.specs.declared.status.Exit.TheVariants as exit
use Rattle.statement_machine.proofs.Calling.{defined_as, found_as}
use Rattle.statement_machine.proofs.Matching.{left_leaves}
use Rattle.instruction_steps.proofs.Stopping.{served_alone}
use Rattle.operations.proofs.Asked.{takes_on}
use Rattle.instruction_steps.specs.Stopped.{halted_by}
use Rattle.instruction_steps.specs.Asking.{io_at}
use Rattle.statement_machine.proofs.run.Run.call_function.Goals as goal

pub enter-requires-clause-slots : goal.enter-requires-clause-slots
enter-requires-clause-slots g c =
    let f = c.in-Some-Defined in
    let ns = c.args.self.now.state.world.names in
    subst (IfStands ns) (f.is ∙ ap (λ x. Some x) f.field-0-is) c.in_ok-entry.ensures.stands

pub returns-in-Some-Defined-clause-served : goal.returns-in-Some-Defined-clause-served
returns-in-Some-Defined-clause-served g c =
    let im = c.args.program.now in
    let r = c.args.self.now in
    let f = c.in-Some-Defined in
    let is = f.is ∙ ap (λ x. Some x) f.field-0-is in
    served_on c.enter.ensures.served
    (λ io io' l. subst (λ st. Leaves im c.enter.result c.enter.new.self io' st)
    (sym (found_as im r.frames.top c.args.name.now c.args.want_name c.args.next r.state io _ _ (c.in_ok-entry.ensures.function io) is
    ∙ defined_as im r.frames.top c.args.name.now f.entry f.prototype c.args.want_name c.args.next r.state io (subst (IfNamed c.args.name.now) is c.in_ok-entry.ensures.named))) l)

pub returns-in-Some-Constructor-clause-served : goal.returns-in-Some-Constructor-clause-served
returns-in-Some-Constructor-clause-served g c =
    let im = c.args.program.now in
    let r = c.args.self.now in
    let f = c.in-Some-Constructor in
    served_on c.construct.ensures.served
    (λ io io' l. subst (λ st. Leaves im c.construct.result (record r { state = c.construct.new.self }) io' st)
    (sym (found_as im r.frames.top c.args.name.now c.args.want_name c.args.next r.state io _ (Some (function.Constructor f.fields)) (c.in_ok-entry.ensures.function io) (f.is ∙ ap (λ x. Some x) f.field-0-is)))
    (left_leaves im c.construct.result r c.construct.new.self io' _ c.requires.code (l im r.frames.top)))

pub returns-in-Some-Field-clause-served : goal.returns-in-Some-Field-clause-served
returns-in-Some-Field-clause-served g c =
    let im = c.args.program.now in
    let r = c.args.self.now in
    let f = c.in-Some-Field in
    served_on c.select.ensures.served
    (λ io io' l. subst (λ st. Leaves im c.select.result (record r { state = c.select.new.self }) io' st)
    (sym (found_as im r.frames.top c.args.name.now c.args.want_name c.args.next r.state io _ (Some function.Field) (c.in_ok-entry.ensures.function io) (f.is ∙ ap (λ x. Some x) f.field-0-is)))
    (left_leaves im c.select.result r c.select.new.self io' _ c.requires.code (l im r.frames.top)))

pub returns-in-None-clause-served : goal.returns-in-None-clause-served
returns-in-None-clause-served g c =
    let im = c.args.program.now in
    let r = c.args.self.now in
    served_alone g.U.Units c.args.units.now (Err (exit.Fault (Error UndefinedFunction))) tt
    (λ io. found_as im r.frames.top c.args.name.now c.args.want_name c.args.next r.state io _ None (c.in_ok-entry.ensures.function io) c.in-None.is)

pub returns-in-Some-Defined-clause-asked : goal.returns-in-Some-Defined-clause-asked
returns-in-Some-Defined-clause-asked g c =
    let im = c.args.program.now in
    let r = c.args.self.now in
    let f = c.in-Some-Defined in
    let is = f.is ∙ ap (λ x. Some x) f.field-0-is in
    takes_on _ (halted_by c.enter.result) _ _
    (λ io. ap io_at (found_as im r.frames.top c.args.name.now c.args.want_name c.args.next r.state io _ _ (c.in_ok-entry.ensures.function io) is
    ∙ defined_as im r.frames.top c.args.name.now f.entry f.prototype c.args.want_name c.args.next r.state io (subst (IfNamed c.args.name.now) is c.in_ok-entry.ensures.named)))
    c.enter.ensures.asked

pub returns-in-Some-Constructor-clause-asked : goal.returns-in-Some-Constructor-clause-asked
returns-in-Some-Constructor-clause-asked g c =
    let im = c.args.program.now in
    let r = c.args.self.now in
    let f = c.in-Some-Constructor in
    takes_on _ (halted_by c.construct.result) _ _
    (λ io. ap io_at (found_as im r.frames.top c.args.name.now c.args.want_name c.args.next r.state io _ (Some (function.Constructor f.fields)) (c.in_ok-entry.ensures.function io) (f.is ∙ ap (λ x. Some x) f.field-0-is)))
    (c.construct.ensures.asked im r.frames.top)

pub returns-in-Some-Field-clause-asked : goal.returns-in-Some-Field-clause-asked
returns-in-Some-Field-clause-asked g c =
    let im = c.args.program.now in
    let r = c.args.self.now in
    let f = c.in-Some-Field in
    takes_on _ (halted_by c.select.result) _ _
    (λ io. ap io_at (found_as im r.frames.top c.args.name.now c.args.want_name c.args.next r.state io _ (Some function.Field) (c.in_ok-entry.ensures.function io) (f.is ∙ ap (λ x. Some x) f.field-0-is)))
    (c.select.ensures.asked im r.frames.top)
