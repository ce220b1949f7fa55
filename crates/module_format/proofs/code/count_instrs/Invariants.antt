use Rattle.module_format.proofs.Loops.{Counted}
use Rattle.module_format.proofs.code.count_instrs.Given as goal

abbrev pub invariant-loop-count : goal.invariant-loop-count
invariant-loop-count l = Counted l.level l.n l.count l.behind l.bytes l.rest
