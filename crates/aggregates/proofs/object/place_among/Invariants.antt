use Rattle.std.proofs.Common.{◌≡◌, drop}
use Rattle.model.specs.Language.Aggregates.{index_of}
use Rattle.aggregates.proofs.object.place_among.Given as goal

abbrev pub invariant-loop-k : goal.invariant-loop-k
invariant-loop-k l = index_of l.k l.name (drop l.k l.fields) ≡ index_of 0 l.name l.fields
