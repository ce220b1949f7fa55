use Rattle.std.proofs.Common.{◌∙◌, sym, refl}
use Rattle.expr_codegen.proofs.Arguments.{reference_of_slice}
use Rattle.expr_codegen.proofs.CopiedParts.{if_ok}
use Rattle.expr_codegen.proofs.copies.reference.Goals as goal

pub returns : goal.returns
returns c = if_ok c.node.result _ _ c.node.ensures (λ b e. e ∙ reference_of_slice c.in_ok-name.name c.args.args c.args.a.now c.args.args.items (sym c.in_ok-name.ensures.items) refl)
