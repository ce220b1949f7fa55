use Rattle.std.proofs.Common.{◌+◌, ◌*◌}
use Rattle.model.specs.Deck.TreeViews.{expr_of, args_of}
use Rattle.model.specs.Deck.Weights.{of_expr, of_args}
use Rattle.expr_codegen.specs.Views.{gen_of}
use Rattle.expr_codegen.proofs.Arguments.{Kept}
use Rattle.expr_codegen.proofs.expr.+tree.Given as goal

abbrev pub invariant-arguments-loop-argument : goal.invariant-arguments-loop-argument
invariant-arguments-loop-argument l = Kept l.args l.argument-index (gen_of l.fn.g) (gen_of l.g)

abbrev pub decreases-value : goal.decreases-value
decreases-value l = 8 * of_expr (expr_of l.e.now) + 3

abbrev pub decreases-name : goal.decreases-name
decreases-name l = 8 * of_expr (expr_of l.e.now) + 3

abbrev pub decreases-wanted : goal.decreases-wanted
decreases-wanted l = 8 * of_expr (expr_of l.e.now) + 4

abbrev pub decreases-applied : goal.decreases-applied
decreases-applied l = 8 * of_expr (expr_of l.x.now) + 6

abbrev pub decreases-applied_name : goal.decreases-applied_name
decreases-applied_name l = 8 * of_expr (expr_of l.x.now) + 6

abbrev pub decreases-negated : goal.decreases-negated
decreases-negated l = 8 * of_expr (expr_of l.x.now) + 5

abbrev pub decreases-combined : goal.decreases-combined
decreases-combined l = 8 * (of_expr (expr_of l.x.now) + of_expr (expr_of l.y.now) + 1)

abbrev pub decreases-called : goal.decreases-called
decreases-called l = 8 * of_args (args_of l.args.now) + 5

abbrev pub decreases-element : goal.decreases-element
decreases-element l = 8 * of_args (args_of l.args.now) + 5

abbrev pub decreases-arguments : goal.decreases-arguments
decreases-arguments l = 8 * of_args (args_of l.args.now) + 4

abbrev pub decreases-fetched_element : goal.decreases-fetched_element
decreases-fetched_element l = 8 * of_args (args_of l.args.now) + 6

abbrev pub decreases-indirect : goal.decreases-indirect
decreases-indirect l = 8 * of_expr (expr_of l.x.now) + 5

abbrev pub decreases-interrogated : goal.decreases-interrogated
decreases-interrogated l = 8 * of_expr (expr_of l.x.now) + 5
