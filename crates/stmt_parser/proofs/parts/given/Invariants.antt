use Rattle.std.proofs.Common.{◌≡◌, drop}
use Rattle.model.specs.Deck.Grammar as grammar
use Rattle.model.specs.Deck.TreeViews.{args_of}
use Rattle.stmt_parser.proofs.parts.given.Given as goal

abbrev pub invariant-loop-argument : goal.invariant-loop-argument
invariant-loop-argument l = grammar.given (args_of l.arguments) ≡ grammar.given (args_of (drop l.argument-index l.arguments))
