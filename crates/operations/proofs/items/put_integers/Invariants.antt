use Rattle.std.proofs.Common.{◌≡◌, map, take, drop}
use Rattle.model.specs.Language.Aggregates.{all_integers}
use Rattle.values.specs.Values.{value_of}
use Rattle.operations.proofs.Naming.{with_front}
use Rattle.operations.proofs.items.put_integers.Given as goal

abbrev pub invariant-loop-k : goal.invariant-loop-k
invariant-loop-k l = with_front (take l.k l.integers) (all_integers (map value_of (drop l.k l.values))) ≡ all_integers (map value_of l.values)
