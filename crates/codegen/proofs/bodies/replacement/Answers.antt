use Rattle.model.specs.declared.instr.Instr.TheVariants as op
use Rattle.expr_codegen.proofs.Joins.{both, instr, on_ok}
use Rattle.expr_codegen.proofs.Extensions.{extends_trans}
use Rattle.codegen.proofs.bodies.replacement.Goals as goal

pub returns-clause-emits : goal.returns-clause-emits
returns-clause-emits c =
    on_ok _ _ _ c.put-3.ensures.put (λ put. both c.in_ok-name.ensures.emits (both (instr op.FetchK _ _ c.in_ok-put.ensures.put) (both c.in_ok-value.ensures.emits (both (instr op.MatchR _ _ c.in_ok-put-2.ensures.put) (both c.in_ok-object.ensures.emits (instr op.Splice _ _ put))))))

pub returns-in_err-put-clause-extends : goal.returns-in_err-put-clause-extends
returns-in_err-put-clause-extends c = extends_trans c.name.ensures.extends c.put.ensures.extends

pub returns-in_err-value-clause-extends : goal.returns-in_err-value-clause-extends
returns-in_err-value-clause-extends c = extends_trans c.name.ensures.extends (extends_trans c.put.ensures.extends c.value.ensures.extends)

pub returns-in_err-put-2-clause-extends : goal.returns-in_err-put-2-clause-extends
returns-in_err-put-2-clause-extends c = extends_trans c.name.ensures.extends (extends_trans c.put.ensures.extends (extends_trans c.value.ensures.extends c.put-2.ensures.extends))

pub returns-in_err-object-clause-extends : goal.returns-in_err-object-clause-extends
returns-in_err-object-clause-extends c = extends_trans c.name.ensures.extends (extends_trans c.put.ensures.extends (extends_trans c.value.ensures.extends (extends_trans c.put-2.ensures.extends c.object.ensures.extends)))

pub returns-clause-extends : goal.returns-clause-extends
returns-clause-extends c = extends_trans c.name.ensures.extends (extends_trans c.put.ensures.extends (extends_trans c.value.ensures.extends (extends_trans c.put-2.ensures.extends (extends_trans c.object.ensures.extends c.put-3.ensures.extends))))
