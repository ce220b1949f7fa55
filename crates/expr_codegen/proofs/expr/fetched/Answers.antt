use Rattle.model.specs.declared.instr.Instr.TheVariants as op
use Rattle.expr_codegen.proofs.Joins.{both, instr, on_ok}
use Rattle.expr_codegen.proofs.Extensions.{extends_trans}
use Rattle.expr_codegen.proofs.expr.fetched.Goals as goal

pub returns-clause-emits : goal.returns-clause-emits
returns-clause-emits c = on_ok _ _ _ c.put.ensures.put (λ put. both c.in_ok-variable.ensures.emits (instr op.Fetch _ _ put))

pub returns-clause-extends : goal.returns-clause-extends
returns-clause-extends c = extends_trans c.variable.ensures.extends c.put.ensures.extends
