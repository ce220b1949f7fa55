use Rattle.std.proofs.Common.{◌∙◌, ap, refl}
use Rattle.model.specs.declared.instr.Instr.TheVariants as op
use Rattle.expr_codegen.specs.Emitting.{with_number}
use Rattle.expr_codegen.specs.Views.{gen_of}
use Rattle.expr_codegen.proofs.Joins.{both, instr, changed, stays}
use Rattle.expr_codegen.proofs.Extensions.{extends_trans, extends_changed}
use Rattle.codegen.proofs.statements.plain.Goals as goal

pub set_number-requires : goal.set_number-requires
set_number-requires c =
    stays (op.Begin 0) c.at-begin.result _ _ _ c.at-begin.ensures c.in_ok-put.ensures.put
    (both c.in_ok-body.ensures.emits (both (instr op.Body _ _ c.in_ok-put-2.ensures.put) (both c.in_ok-after_success.ensures.emits c.in_ok-after_failure.ensures.emits))) refl

pub returns-clause-emits : goal.returns-clause-emits
returns-clause-emits c =
    changed op.Begin 1 0 c.at-failed.result _ _ _ _ _ (λ m. refl) (λ m. refl) c.in_ok-put.ensures.put
    (both c.in_ok-body.ensures.emits (both (instr op.Body _ _ c.in_ok-put-2.ensures.put) c.in_ok-after_success.ensures.emits)) c.at-failed.ensures c.in_ok-after_failure.ensures.emits
    (c.set_number.ensures.put ∙ ap (λ at. with_number at c.at-failed.result (gen_of c.after_failure.new.g)) c.at-begin.ensures)

pub returns-in_err-after_success-clause-extends : goal.returns-in_err-after_success-clause-extends
returns-in_err-after_success-clause-extends c =
    extends_trans c.put.ensures.extends (extends_trans c.body.ensures.extends (extends_trans c.put-2.ensures.extends c.after_success.ensures.extends))

pub returns-in_err-after_failure-clause-extends : goal.returns-in_err-after_failure-clause-extends
returns-in_err-after_failure-clause-extends c =
    extends_trans c.put.ensures.extends (extends_trans c.body.ensures.extends (extends_trans c.put-2.ensures.extends (extends_trans c.after_success.ensures.extends c.after_failure.ensures.extends)))

pub returns-clause-extends : goal.returns-clause-extends
returns-clause-extends c =
    extends_changed c.at-begin.result c.at-failed.result
    (extends_trans c.put.ensures.extends (extends_trans c.body.ensures.extends (extends_trans c.put-2.ensures.extends (extends_trans c.after_success.ensures.extends c.after_failure.ensures.extends))))
    c.at-begin.ensures c.set_number.ensures.put

pub returns-in_err-body-clause-extends : goal.returns-in_err-body-clause-extends
returns-in_err-body-clause-extends c = extends_trans c.put.ensures.extends c.body.ensures.extends

pub returns-in_err-put-2-clause-extends : goal.returns-in_err-put-2-clause-extends
returns-in_err-put-2-clause-extends c = extends_trans c.put.ensures.extends (extends_trans c.body.ensures.extends c.put-2.ensures.extends)
