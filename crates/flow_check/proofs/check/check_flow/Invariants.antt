use Rattle.module_format.specs.Views.{listed_left}
use Rattle.flow_check.specs.Marks.{marked}
use Rattle.flow_check.proofs.Whole.{WalkedTo}
use Rattle.flow_check.proofs.check.check_flow.Given as goal

abbrev pub invariant-loop-instr : goal.invariant-loop-instr
invariant-loop-instr l = WalkedTo l.image (listed_left l.instr-iterator) l.walk.pool.nodes.keys (marked l.walk.marks) l.walk.carried l.at
