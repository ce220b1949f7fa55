use Rattle.std.proofs.Common.{◌∙◌, sym, refl}
use Rattle.expr_codegen.proofs.Arguments.{call_of_slice}
use Rattle.expr_codegen.proofs.CopiedParts.{if_ok}
use Rattle.expr_codegen.proofs.copies.call.Goals as goal

pub returns : goal.returns
returns c = if_ok c.node.result _ _ c.node.ensures (λ b e. e ∙ call_of_slice c.in_ok-name.name c.args.args c.args.f.now c.args.args.items (sym c.in_ok-name.ensures.items) refl)
