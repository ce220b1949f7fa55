use Rattle.std.proofs.Common.{sym, ap, ◌∙◌, subst}
use Rattle.segments.specs.Parts.{IsParts}
use Rattle.segments.specs.Segments.{IsForm}
use Rattle.statement_machine.specs.Runs.{MachineView}
use Rattle.statement_machine.proofs.Running.{goes_on}
use Rattle.statement_machine.proofs.Seeing.{ran_on, ran_out, ran_same}
use Rattle.statement_machine.proofs.Printing.{halt_prints}
use Rattle.statement_machine.proofs.Asked.{halt_stops}
use Rattle.statement_machine.proofs.machine.Machine.run_watched.Goals as goal

pub returns-in-Some-clause-served : goal.returns-in-Some-clause-served
returns-in-Some-clause-served g c =
    ran_same g.U.Units c.args.units.now c.args.self.now c.args.bound c.status.result c.in-Some.halt (sym (ap (λ (h : MachineView). h.halt) c.self.view_is) ∙ c.in-Some.is)

pub returns-in-Ok-clause-served : goal.returns-in-Ok-clause-served
returns-in-Ok-clause-served g c =
    ran_on c.self.inside.program.now c.args.self.now c.self.inside.halt c.self.inside.run c.make_steps.new.self c.args.bound c.self.view_is c.in_default.is c.in-Ok.ensures.served

pub returns-in-Err-clause-served : goal.returns-in-Err-clause-served
returns-in-Err-clause-served g c =
    ran_out c.self.inside.program.now c.args.self.now c.self.inside.halt c.in-Err.halt c.self.inside.run c.make_steps.new.self c.args.bound c.status-in-Err.result c.self.view_is c.in_default.is c.status-in-Err.ensures c.in-Err.ensures.served

pub returns-in-Err-clause-printed : goal.returns-in-Err-clause-printed
returns-in-Err-clause-printed g c =
    halt_prints c.self.inside.program.now c.args.self.now c.self.inside.halt c.in-Err.halt c.self.inside.run c.args.bound c.status-in-Err.result _ _ c.self.view_is c.in_default.is c.status-in-Err.ensures c.in-Err.ensures.printed

pub invariant_of-self : goal.invariant_of-self
invariant_of-self g c =
    let it = c.self.inside in
    let im = it.program.now in (
      c.self.invariant.0,
      goes_on it.halt _ c.in-Ok.ensures.sound,
      subst (λ ns. IsForm im ns c.make_steps.new.form) (sym c.make_steps.ensures.names) c.make_steps.ensures.form,
      subst (λ ns. IsParts im ns it.parts) (sym c.make_steps.ensures.names) c.self.invariant.3,
      goes_on it.halt _ c.in-Ok.ensures.in_range,
    )

pub invariant_of-self-in-Err : goal.invariant_of-self-in-Err
invariant_of-self-in-Err g c =
    let it = c.self.inside in
    let im = it.program.now in (
      c.self.invariant.0,
      tt,
      subst (λ ns. IsForm im ns c.make_steps.new.form) (sym c.make_steps.ensures.names) c.make_steps.ensures.form,
      subst (λ ns. IsParts im ns it.parts) (sym c.make_steps.ensures.names) c.self.invariant.3,
      tt,
    )

pub returns-in-Err-clause-stops : goal.returns-in-Err-clause-stops
returns-in-Err-clause-stops g c =
    halt_stops _ c.self.inside.program.now c.args.self.now c.self.inside.halt c.in-Err.halt c.self.inside.run c.args.bound c.status-in-Err.result _ _ c.self.view_is c.in_default.is c.status-in-Err.ensures c.in-Err.ensures.stops
