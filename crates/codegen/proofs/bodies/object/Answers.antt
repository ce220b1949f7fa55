use Rattle.std.proofs.Common.{sym, ap}
use Rattle.model.specs.declared.instr.Instr.TheVariants as op
use Rattle.model.specs.Deck.TreeViews.{object_of}
use Rattle.expr_codegen.proofs.Joins.{instr, on_ok}
use Rattle.expr_codegen.proofs.Constructs.{as_part}
use Rattle.codegen.specs.Layout as layout
use Rattle.codegen.proofs.bodies.object.Goals as goal

pub returns-in-None-clause-emits : goal.returns-in-None-clause-emits
returns-in-None-clause-emits c =
    on_ok _ _ _ c.put.ensures.put (λ put. as_part (instr op.Null _ _ put) (ap (λ d. layout.object (object_of d)) (sym c.in-None.is)))
