use Rattle.std.proofs.Common.{◌∙◌, sym, ap, option_map}
use Rattle.model.specs.declared.instr.Instr.TheVariants as op
use Rattle.model.specs.Deck.TreeViews.{expr_of, object_of}
use Rattle.expr_codegen.proofs.Joins.{both, instr, on_ok}
use Rattle.expr_codegen.proofs.Constructs.{as_part}
use Rattle.codegen.specs.Layout as layout
use Rattle.expr_codegen.proofs.Extensions.{extends_trans}
use Rattle.codegen.proofs.bodies.assignment.Goals as goal

pub returns-in_ok-object-in-Some-clause-emits : goal.returns-in_ok-object-in-Some-clause-emits
returns-in_ok-object-in-Some-clause-emits c =
    on_ok _ _ _ c.key_set.ensures.emits (λ put. as_part (both c.in_ok-object-in-Some.ensures.emits put)
    (ap (λ k. layout.assignment k (expr_of c.args.subject.now) (object_of c.args.o.now)) (sym (ap (option_map (λ k. k.now)) c.in-Some.is) ∙ c.key_target.ensures)))

pub returns-in_ok-object-in-None-clause-emits : goal.returns-in_ok-object-in-None-clause-emits
returns-in_ok-object-in-None-clause-emits c =
    on_ok _ _ _ c.put.ensures.put (λ put. as_part (both c.in_ok-name-in-None.ensures.emits (both c.in_ok-object-in-None.ensures.emits (instr op.Assign _ _ put)))
    (ap (λ k. layout.assignment k (expr_of c.args.subject.now) (object_of c.args.o.now)) (sym (ap (option_map (λ k. k.now)) c.in-None.is) ∙ c.key_target.ensures)))

pub returns-in_ok-object-in-Some-clause-extends : goal.returns-in_ok-object-in-Some-clause-extends
returns-in_ok-object-in-Some-clause-extends c = extends_trans c.object.ensures.extends c.key_set.ensures.extends

pub returns-in_err-object-in-None-clause-extends : goal.returns-in_err-object-in-None-clause-extends
returns-in_err-object-in-None-clause-extends c = extends_trans c.name.ensures.extends c.object-in-None.ensures.extends

pub returns-in_ok-object-in-None-clause-extends : goal.returns-in_ok-object-in-None-clause-extends
returns-in_ok-object-in-None-clause-extends c = extends_trans c.name.ensures.extends (extends_trans c.object-in-None.ensures.extends c.put.ensures.extends)
