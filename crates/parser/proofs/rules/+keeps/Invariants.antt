use Rattle.std.proofs.Common.{◌≡◌, ◌&&◌, drop}
use Rattle.model.specs.Deck.Faults.{in_args, call_fits, keyword_known, operand_fits}
use Rattle.model.specs.Deck.TreeViews.{args_of}
use Rattle.parser.proofs.rules.+keeps.Given as goal

abbrev pub invariant-all_keep-loop-argument : goal.invariant-all_keep-loop-argument
invariant-all_keep-loop-argument l =
    (in_args call_fits (args_of l.arguments) ≡ (l.all.calls && in_args call_fits (args_of (drop l.argument-index l.arguments))))
    × (in_args keyword_known (args_of l.arguments) ≡ (l.all.keywords && in_args keyword_known (args_of (drop l.argument-index l.arguments))))
    × (in_args operand_fits (args_of l.arguments) ≡ (l.all.operands && in_args operand_fits (args_of (drop l.argument-index l.arguments))))
