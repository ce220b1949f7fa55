use Rattle.codegen.proofs.LabelTables.{Kept}
use Rattle.codegen.proofs.labels.labels_of.Given as goal

abbrev pub invariant-loop-name : goal.invariant-loop-name
invariant-loop-name l = Kept l.names l.name-index l.number l.labels
