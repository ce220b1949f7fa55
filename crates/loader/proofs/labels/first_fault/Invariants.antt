use Rattle.std.proofs.Common.{◌≡◌, ◌+◌, ◌*◌, length, take}
use Rattle.loader.specs.Parts.{label_fault}
use Rattle.loader.proofs.Labelling.{AreSeen, label_at}
use Rattle.loader.proofs.Scanning.{rest}
use Rattle.loader.proofs.labels.first_fault.Given as goal

abbrev pub invariant-loop-label : goal.invariant-loop-label
invariant-loop-label l = record {
  so_far : rest (label_at l.image) (λ x. 8) l.labels l.label-index l.offset ≡ label_fault l.place l.image;
  seen : AreSeen (length l.image.strings) l.seen (take l.label-index l.labels);
  place : l.offset ≡ l.place + 8 * l.label-index;
}
