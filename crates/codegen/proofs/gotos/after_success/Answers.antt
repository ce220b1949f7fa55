use Rattle.std.proofs.Common.{◌≡◌, ◌∙◌, ◌+◌, suc, sym, ap, arith}
use Rattle.model.specs.declared.instr.Instr.TheVariants as op
use Rattle.model.specs.Deck.TreeViews.{goto_of}
use Rattle.expr_codegen.specs.Code.{one}
use Rattle.expr_codegen.proofs.Joins.{instr, nothing_put, on_ok}
use Rattle.expr_codegen.proofs.Constructs.{as_part}
use Rattle.codegen.specs.Labels.{number_in}
use Rattle.codegen.specs.Layout as layout
use Rattle.codegen.proofs.gotos.after_success.Goals as goal

pub returns-in-OnFailure-clause-emits : goal.returns-in-OnFailure-clause-emits
returns-in-OnFailure-clause-emits c =
    let next : c.args.number + 1 ≡ suc c.args.number = omega arith in
    on_ok _ _ _ c.put.ensures.put (λ put. as_part (instr _ _ _ put) (ap (λ n. one (op.Goto n)) next ∙ ap (λ d. layout.after_success (number_in c.args.labels.now) c.args.number (goto_of d)) (sym c.in-OnFailure.is)))

pub returns-in-Next-clause-emits : goal.returns-in-Next-clause-emits
returns-in-Next-clause-emits c = as_part (nothing_put _) (ap (λ d. layout.after_success (number_in c.args.labels.now) c.args.number (goto_of d)) (sym c.in-Next.is))

pub returns-in-Always-clause-emits : goal.returns-in-Always-clause-emits
returns-in-Always-clause-emits c = as_part (nothing_put _) (ap (λ d. layout.after_success (number_in c.args.labels.now) c.args.number (goto_of d)) (sym c.in-Always.is))
