use Rattle.std.proofs.Common.{ap, sym, ◌∙◌}
use Rattle.model.specs.Language.Keywords.{is_zero}
use Rattle.values.specs.Answers.{done, stopped_by}
use Rattle.world.specs.Held.{value_in}
use Rattle.operations.proofs.UnitCalls.{write_asks, written_served}
use Rattle.operations.proofs.unit_calls.write.Goals as goal

pub returns-in-Some-clause-asked : goal.returns-in-Some-clause-asked
returns-in-Some-clause-asked g c =
    write_asks _ c.args.unit _ _ c.args.world.now (stopped_by c.print.result) (ap value_in c.in-Some.ensures) (ap (λ ks. is_zero ks.output) (sym c.keywords.ensures) ∙ sym c.is_zero.ensures ∙ c.if-is_zero.false) c.print.ensures.asked

pub returns-in-None-clause-asked : goal.returns-in-None-clause-asked
returns-in-None-clause-asked g c =
    write_asks _ c.args.unit _ _ c.args.world.now (stopped_by c.print-in-None.result) (c.null.ensures ∙ ap value_in c.in-None.ensures) (ap (λ ks. is_zero ks.output) (sym c.keywords.ensures) ∙ sym c.is_zero.ensures ∙ c.if-is_zero.false) c.print-in-None.ensures.asked

pub returns-in-Some-clause-served : goal.returns-in-Some-clause-served
returns-in-Some-clause-served g c =
    written_served c.args.unit _ _ c.args.world.now (done c.print.result) (ap value_in c.in-Some.ensures) (ap (λ ks. is_zero ks.output) (sym c.keywords.ensures) ∙ sym c.is_zero.ensures ∙ c.if-is_zero.false) c.print.ensures.served

pub returns-in-None-clause-served : goal.returns-in-None-clause-served
returns-in-None-clause-served g c =
    written_served c.args.unit _ _ c.args.world.now (done c.print-in-None.result) (c.null.ensures ∙ ap value_in c.in-None.ensures) (ap (λ ks. is_zero ks.output) (sym c.keywords.ensures) ∙ sym c.is_zero.ensures ∙ c.if-is_zero.false) c.print-in-None.ensures.served
