use Rattle.std.proofs.Common.{◌≡◌, ◌≤◌, ℕ, List, drop, length}
use Rattle.std.specs.Prelude.{None, bytes_eq}
use Rattle.std.specs.HashMap.{get_by}
use Rattle.model.specs.Module.Images.{statement_labelled}
use Rattle.loader.proofs.labels.label_map.Given as goal

abbrev pub invariant-loop-left : goal.invariant-loop-left
invariant-loop-left l = record {
  within : l.left ≤ length l.labels;
  so_far : (name : List ℕ) → get_by (λ k. bytes_eq name k.now) l.found ≡ statement_labelled l.image.strings (drop l.left l.labels) name None;
}

abbrev pub decreases-loop-left : goal.decreases-loop-left
decreases-loop-left l = l.left
