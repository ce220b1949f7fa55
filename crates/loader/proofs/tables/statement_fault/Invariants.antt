use Rattle.std.proofs.Common.{◌≡◌, ◌+◌, ◌*◌}
use Rattle.model.specs.Module.WellFormed.{fault_if, statement_rule}
use Rattle.loader.specs.Parts.{statement_fault}
use Rattle.loader.proofs.Scanning.{rest}
use Rattle.loader.proofs.tables.statement_fault.Given as goal

abbrev pub invariant-loop-k : goal.invariant-loop-k
invariant-loop-k l = record {
  so_far : rest (λ front at o. fault_if at (statement_rule l.image front o)) (λ x. 4) l.statements l.k l.offset ≡ statement_fault l.place l.image;
  place : l.offset ≡ l.place + 4 * l.k;
}
