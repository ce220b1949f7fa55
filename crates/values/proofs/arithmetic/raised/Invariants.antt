use Rattle.std.proofs.Common.{◌≡◌}
use Rattle.model.specs.Language.Operators.{power}
use Rattle.values.proofs.arithmetic.raised.Given as goal

abbrev pub invariant-loop-turn : goal.invariant-loop-turn
invariant-loop-turn l = l.product ≡ power l.base l._turn
