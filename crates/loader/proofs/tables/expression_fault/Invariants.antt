use Rattle.std.proofs.Common.{◌≡◌, ◌+◌, ◌*◌}
use Rattle.model.specs.Module.WellFormed.{fault_if, expression_rule}
use Rattle.loader.specs.Parts.{expression_fault}
use Rattle.loader.proofs.Scanning.{rest}
use Rattle.loader.proofs.tables.expression_fault.Given as goal

abbrev pub invariant-loop-at : goal.invariant-loop-at
invariant-loop-at l = record {
  so_far : rest (λ front at o. fault_if at (expression_rule l.image front o)) (λ x. 4) l.expressions l.at-index l.offset ≡ expression_fault l.place l.image;
  place : l.offset ≡ l.place + 4 * l.at-index;
}
