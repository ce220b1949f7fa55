use Rattle.std.proofs.Common.{refl, sym, ◌∙◌}
use Rattle.model.specs.declared.instr.Instr.TheVariants as op
use Rattle.expr_codegen.proofs.Constructs.{key_put, no_key}
use Rattle.codegen.proofs.bodies.key_set.Goals as goal

pub returns-in_ok-put-clause-emits : goal.returns-in_ok-put-clause-emits
returns-in_ok-put-clause-emits c = key_put op.KeySet _ c.in-Some.key _ _ (sym c.named.ensures ∙ c.in-Some.is) c.in_ok-put.ensures.put

pub returns-in_default-clause-emits : goal.returns-in_default-clause-emits
returns-in_default-clause-emits c = no_key op.KeySet _ _ _ (sym c.named.ensures ∙ c.in_default.is) refl
