use Rattle.std.proofs.Common.{◌≡◌, ◌+◌, ◌*◌, map, take}
use Rattle.model.specs.Deck.TreeViews.{expr_of, arg_of, args_of}
use Rattle.model.specs.Deck.Weights.{of_expr, of_arg, of_args}
use Rattle.expr_codegen.proofs.copies.+copy.Given as goal

abbrev pub invariant-all_copied-loop-argument : goal.invariant-all_copied-loop-argument
invariant-all_copied-loop-argument l = map arg_of l.copies.items ≡ map arg_of (take l.argument-index l.args)

abbrev pub decreases-copied : goal.decreases-copied
decreases-copied l = 2 * of_expr (expr_of l.e.now)

abbrev pub decreases-copied_argument : goal.decreases-copied_argument
decreases-copied_argument l = 2 * of_arg (arg_of l.argument.now) + 1

abbrev pub decreases-all_copied : goal.decreases-all_copied
decreases-all_copied l = 2 * of_args (args_of l.args.now)

abbrev pub decreases-with_right : goal.decreases-with_right
decreases-with_right l = 2 * of_expr (expr_of l.right.now) + 1

abbrev pub decreases-copied_call : goal.decreases-copied_call
decreases-copied_call l = 2 * of_args (args_of l.args.now) + 1

abbrev pub decreases-copied_reference : goal.decreases-copied_reference
decreases-copied_reference l = 2 * of_args (args_of l.args.now) + 1
