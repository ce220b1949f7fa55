use Rattle.std.proofs.Common.{◌≡◌, ◌<◌, ◌≤◌, ◌+◌, ◌*◌, drop}
use Rattle.model.specs.Language.Aggregates.{place_from}
use Rattle.model.specs.Language.Prototypes.{elements_in}
use Rattle.aggregates.proofs.bounds.place_of.Given as goal

abbrev pub invariant-loop-k : goal.invariant-loop-k
invariant-loop-k l = record {
  same : place_from l.place (drop l.k l.bounds) (drop l.k l.subscripts) ≡ place_from 0 l.bounds l.subscripts;
  fits : (l.place + 1) * elements_in (drop l.k l.bounds) ≤ elements_in l.bounds;
  some : 0 < elements_in (drop l.k l.bounds);
}
