use Rattle.std.proofs.Common.{◌≡◌, ◌<◌, ◌^◌, ◌-◌, min, take}
use Rattle.model.specs.Language.Prototypes.{elements_in}
use Rattle.aggregates.proofs.bounds.elements_in.Given as goal

abbrev pub invariant-loop-dimension : goal.invariant-loop-dimension
invariant-loop-dimension l = record {
  same : l.count ≡ min (elements_in (take l.dimension-index l.bounds)) (2 ^ 64 - 1);
  some : 0 < elements_in (take l.dimension-index l.bounds);
}
