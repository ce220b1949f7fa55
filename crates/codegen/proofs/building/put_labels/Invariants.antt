use Rattle.expr_codegen.specs.Views.{gen_of}
use Rattle.codegen.proofs.Images.{Kept}
use Rattle.codegen.proofs.building.put_labels.Given as goal

abbrev pub invariant-loop-name : goal.invariant-loop-name
invariant-loop-name l = Kept l.names l.name-index l.number l.labels.items (gen_of l.fn.g) (gen_of l.g)
