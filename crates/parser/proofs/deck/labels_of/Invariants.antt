use Rattle.std.proofs.Common.{◌≡◌, map, option_map, take}
use Rattle.parser.specs.Heads.{head_of}
use Rattle.parser.proofs.deck.labels_of.Given as goal

abbrev pub invariant-loop-statement : goal.invariant-loop-statement
invariant-loop-statement l = map (option_map (λ l. l.now)) l.labels.items ≡ map head_of (take l.statement-index l.statements)
