use Rattle.loader.proofs.Coding.{Judged}
use Rattle.module_format.specs.Views.{listed_left}
use Rattle.loader.proofs.instrs.code_fault.Given as goal

abbrev pub invariant-loop-instr : goal.invariant-loop-instr
invariant-loop-instr l = Judged l.image l.place (listed_left l.instr-iterator) l.at
