use Rattle.std.proofs.Common.{◌≡◌, ◌++◌, replicate, vec_capacity}
use Rattle.values.specs.declared.value.Value.TheVariants as value
use Rattle.values.proofs.value.append_integers.Given as goal

abbrev pub invariant-loop-turn : goal.invariant-loop-turn
invariant-loop-turn l = (l.items.items ≡ l.fn.items.items ++ replicate l._turn (value.Integer l.n)) × (vec_capacity l.items ≡ vec_capacity l.fn.items)
