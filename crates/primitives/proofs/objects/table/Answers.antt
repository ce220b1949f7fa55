use Rattle.std.proofs.Common.{[], sym, ap, subst, ◌∙◌, Err, Result}
use Rattle.std.proofs.lemmas.Result.{err_from_is_err_and}
use Rattle.model.specs.Language.Aggregates.{new_object}
use Rattle.model.specs.Language.Conversions.{Op}
use Rattle.model.specs.Machine.Steps.{MVal, MW}
use Rattle.model.specs.Language.Primitives.{returned}
use Rattle.model.specs.Language.Values.{TableOf}
use Rattle.world.specs.Held.{world_of}
use Rattle.values.specs.Answers.{AnswersAs}
use Rattle.values.specs.declared.fault.Fault.{Fault}
use Rattle.values.specs.declared.fault.Fault.TheVariants as fault
use Rattle.primitives.specs.Answers.{ComesTo}
use Rattle.primitives.specs.declared.outcome.Outcome.{Outcome}
use Rattle.primitives.proofs.objects.table.Goals as goal

refused_as : (e : Fault) (w : MW) (o : Op MW MVal) → AnswersAs (Err e) w o → ComesTo (Err e) w (returned o)
refused_as (fault.Error x) w o h = ap returned h
refused_as (fault.Stop s) w o h = tt

pub returns-in_err-table-clause-answer : goal.returns-in_err-table-clause-answer
returns-in_err-table-clause-answer c io =
    let p = err_from_is_err_and c.from_residual.result c.from_residual.ensures.1 in
    subst (λ (x : Result Outcome Fault). ComesTo x (world_of c.table.new.world io) (returned (new_object (TableOf []) (world_of c.args.world.now io)))) (sym (p.1 ∙ ap Err p.2))
    (refused_as c.in_err-table.field-0.0 (world_of c.table.new.world io) (new_object (TableOf []) (world_of c.args.world.now io)) (c.in_err-table.ensures.made io))

pub returns-clause-answer : goal.returns-clause-answer
returns-clause-answer c io = ap returned (c.in_ok-table.ensures.made io)
