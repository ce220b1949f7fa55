use Rattle.std.proofs.Common.{◌≡◌, ◌++◌}
use Rattle.module_format.specs.Views.{instrs_left}
use Rattle.module_format.proofs.view.collected.Given as goal

abbrev pub invariant-loop-instr : goal.invariant-loop-instr
invariant-loop-instr l = l.code.items ++ instrs_left l.instr-iterator ≡ instrs_left l.fn.instrs
