use Rattle.std.proofs.Common.{◌≡◌, take}
use Rattle.primitives.proofs.applying.copied.Given as goal

abbrev pub invariant-loop-argument : goal.invariant-loop-argument
invariant-loop-argument l = l.copy.items ≡ take l.argument-index l.arguments
