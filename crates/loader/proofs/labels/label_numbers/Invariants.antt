use Rattle.std.proofs.Common.{◌≡◌, ◌+◌, length}
use Rattle.loader.specs.Labels.{AreNumbers}
use Rattle.loader.proofs.labels.label_numbers.Given as goal

abbrev pub invariant-loop-label : goal.invariant-loop-label
invariant-loop-label l = record {
  so_far : AreNumbers l.image l.numbers.items;
  place : l.place + l.label-index ≡ length l.labels;
  long : length l.numbers.items ≡ length l.image.strings;
}
