use Rattle.model.specs.declared.instr.Instr.TheVariants as op
use Rattle.expr_codegen.proofs.Joins.{on_ok, text}
use Rattle.expr_codegen.proofs.Extensions.{extends_trans}
use Rattle.expr_codegen.proofs.single.variable.Goals as goal

pub returns-clause-emits : goal.returns-clause-emits
returns-clause-emits c = on_ok _ _ _ c.put.ensures.put (text op.Var _ c.in_ok-number.number _ _ _ c.in_ok-number.ensures.numbered)

pub returns-clause-extends : goal.returns-clause-extends
returns-clause-extends c = extends_trans c.string.ensures.extends c.put.ensures.extends
