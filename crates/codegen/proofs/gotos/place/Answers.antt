use Rattle.std.proofs.Common.{◌∙◌, sym, ap}
use Rattle.model.specs.declared.instr.Instr.TheVariants as op
use Rattle.model.specs.Language.Calls.{return_of}
use Rattle.model.specs.Deck.TreeViews.{place_of}
use Rattle.expr_codegen.specs.Code.{one}
use Rattle.expr_codegen.specs.Emitting.{with_instr}
use Rattle.expr_codegen.specs.Views.{gen_of}
use Rattle.expr_codegen.proofs.Joins.{both, instr, on_ok}
use Rattle.expr_codegen.proofs.Constructs.{as_part}
use Rattle.codegen.specs.Labels.{number_in}
use Rattle.codegen.specs.Layout as layout
use Rattle.expr_codegen.proofs.Extensions.{extends_trans}
use Rattle.codegen.proofs.gotos.place.Goals as goal

pub returns-in-Label-clause-emits : goal.returns-in-Label-clause-emits
returns-in-Label-clause-emits c =
    on_ok _ _ _ c.put.ensures.put (λ put. as_part (instr _ _ _ (put ∙ ap (λ i. with_instr i (gen_of c.args.g.now)) c.to_label.ensures))
    (ap (λ l. one (layout.goto_label (return_of l) (number_in c.args.labels.now l))) c.deref.ensures.value ∙ ap (λ d. layout.place (number_in c.args.labels.now) (place_of d)) (sym c.in-Label.is)))

pub returns-in_ok-value-in-Computed-clause-emits : goal.returns-in_ok-value-in-Computed-clause-emits
returns-in_ok-value-in-Computed-clause-emits c =
    on_ok _ _ _ c.put-in-Computed.ensures.put (λ put. as_part (both c.in_ok-value-in-Computed.ensures.emits (instr op.GotoV _ _ put)) (ap (λ d. layout.place (number_in c.args.labels.now) (place_of d)) (sym c.in-Computed.is)))

pub returns-in_ok-value-in-Computed-clause-extends : goal.returns-in_ok-value-in-Computed-clause-extends
returns-in_ok-value-in-Computed-clause-extends c = extends_trans c.value.ensures.extends c.put-in-Computed.ensures.extends
