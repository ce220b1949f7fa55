use Rattle.std.proofs.Common.{sym, ap}
use Rattle.model.specs.declared.instr.Instr.TheVariants as op
use Rattle.model.specs.Deck.TreeViews.{body_of}
use Rattle.expr_codegen.proofs.Joins.{both, instr, nothing_put, on_ok}
use Rattle.expr_codegen.proofs.Constructs.{as_part}
use Rattle.codegen.specs.Layout as layout
use Rattle.expr_codegen.proofs.Extensions.{extends_trans}
use Rattle.codegen.proofs.bodies.body.Goals as goal

pub returns-in-Nothing-clause-emits : goal.returns-in-Nothing-clause-emits
returns-in-Nothing-clause-emits c = as_part (nothing_put _) (ap (λ d. layout.body (body_of d)) (sym c.in-Nothing.is))

pub returns-in_ok-value-in-Evaluate-clause-emits : goal.returns-in_ok-value-in-Evaluate-clause-emits
returns-in_ok-value-in-Evaluate-clause-emits c =
    on_ok _ _ _ c.put.ensures.put (λ put. as_part (both c.in_ok-value-in-Evaluate.ensures.emits (instr op.Drop _ _ put)) (ap (λ d. layout.body (body_of d)) (sym c.in-Evaluate.is)))

pub returns-in_ok-value-in-Match-2-clause-emits : goal.returns-in_ok-value-in-Match-2-clause-emits
returns-in_ok-value-in-Match-2-clause-emits c =
    on_ok _ _ _ c.put-in-Match.ensures.put (λ put. as_part (both c.in_ok-value-in-Match.ensures.emits (both c.in_ok-value-in-Match-2.ensures.emits (instr op.Match _ _ put))) (ap (λ d. layout.body (body_of d)) (sym c.in-Match.is)))

pub returns-in_ok-value-in-Evaluate-clause-extends : goal.returns-in_ok-value-in-Evaluate-clause-extends
returns-in_ok-value-in-Evaluate-clause-extends c = extends_trans c.value.ensures.extends c.put.ensures.extends

pub returns-in_err-value-in-Match-2-clause-extends : goal.returns-in_err-value-in-Match-2-clause-extends
returns-in_err-value-in-Match-2-clause-extends c = extends_trans c.value-in-Match.ensures.extends c.value-in-Match-2.ensures.extends

pub returns-in_ok-value-in-Match-2-clause-extends : goal.returns-in_ok-value-in-Match-2-clause-extends
returns-in_ok-value-in-Match-2-clause-extends c = extends_trans c.value-in-Match.ensures.extends (extends_trans c.value-in-Match-2.ensures.extends c.put-in-Match.ensures.extends)
