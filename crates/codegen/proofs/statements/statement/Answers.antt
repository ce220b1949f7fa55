use Rattle.std.proofs.Common.{sym, ap}
use Rattle.model.specs.declared.instr.Instr.TheVariants as op
use Rattle.model.specs.Deck.TreeViews.{stmt_of}
use Rattle.expr_codegen.proofs.Joins.{instr, on_ok}
use Rattle.expr_codegen.proofs.Constructs.{as_part}
use Rattle.codegen.specs.Labels.{number_in}
use Rattle.codegen.specs.Layout as layout
use Rattle.codegen.proofs.statements.statement.Goals as goal

pub returns-in-End-clause-emits : goal.returns-in-End-clause-emits
returns-in-End-clause-emits c =
    on_ok _ _ _ c.put.ensures.put (λ put. as_part (instr op.End _ _ put) (ap (λ d. layout.statement (number_in c.args.labels.now) c.args.number (stmt_of d)) (sym c.in-End.is)))
