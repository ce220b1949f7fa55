use Rattle.std.proofs.Common.{sym, ap}
use Rattle.model.specs.Deck.TreeViews.{goto_of}
use Rattle.expr_codegen.proofs.Joins.{nothing_put}
use Rattle.expr_codegen.proofs.Constructs.{as_part}
use Rattle.codegen.specs.Labels.{number_in}
use Rattle.codegen.specs.Layout as layout
use Rattle.codegen.proofs.gotos.after_failure.Goals as goal

pub returns-in-Next-clause-emits : goal.returns-in-Next-clause-emits
returns-in-Next-clause-emits c = as_part (nothing_put _) (ap (λ d. layout.after_failure (number_in c.args.labels.now) (goto_of d)) (sym c.in-Next.is))

pub returns-in-OnSuccess-clause-emits : goal.returns-in-OnSuccess-clause-emits
returns-in-OnSuccess-clause-emits c = as_part (nothing_put _) (ap (λ d. layout.after_failure (number_in c.args.labels.now) (goto_of d)) (sym c.in-OnSuccess.is))
