use Rattle.model.specs.Deck.Weights as weights
use Rattle.expr_codegen.specs.Views.{gen_of}
use Rattle.codegen.specs.Laying.{left}
use Rattle.codegen.proofs.Queue.{Kept}
use Rattle.codegen.proofs.building.put_expressions.Given as goal

abbrev pub invariant-loop-offsets : goal.invariant-loop-offsets
invariant-loop-offsets l = Kept (gen_of l.fn.g) l.offsets.items (gen_of l.g)

abbrev pub decreases-loop-offsets : goal.decreases-loop-offsets
decreases-loop-offsets l = weights.total weights.of_expr (left (gen_of l.g))
