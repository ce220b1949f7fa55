use Rattle.std.proofs.Common.{sym, ap, ◌∙◌}
use Rattle.expr_codegen.specs.Emitting.{with_instr}
use Rattle.expr_codegen.specs.Views.{gen_of}
use Rattle.expr_codegen.proofs.Joins.{on_ok}
use Rattle.expr_codegen.proofs.Constructs.{prim_put, own_put}
use Rattle.expr_codegen.proofs.Extensions.{extends_trans}
use Rattle.expr_codegen.proofs.single.call.Goals as goal

pub returns-in-Some-clause-emits : goal.returns-in-Some-clause-emits
returns-in-Some-clause-emits c =
    on_ok _ _ _ c.put.ensures.put (λ put. prim_put c.args.wants_name _ c.in-Some.primitive _ _ _ (sym c.named.ensures ∙ c.in-Some.is) (put ∙ ap (λ i. with_instr i (gen_of c.args.g.now)) c.primitive_call.ensures))

pub returns-in_ok-name-in-None-clause-emits : goal.returns-in_ok-name-in-None-clause-emits
returns-in_ok-name-in-None-clause-emits c =
    on_ok _ _ _ c.put-in-None.ensures.put (λ put. own_put c.args.wants_name _ _ c.in_ok-name-in-None.name _ _ _ (sym c.named.ensures ∙ c.in-None.is) c.in_ok-name-in-None.ensures.numbered (put ∙ ap (λ i. with_instr i (gen_of c.string.new.self)) c.own_call.ensures))

pub returns-in_ok-name-in-None-clause-extends : goal.returns-in_ok-name-in-None-clause-extends
returns-in_ok-name-in-None-clause-extends c = extends_trans c.string.ensures.extends c.put-in-None.ensures.extends
