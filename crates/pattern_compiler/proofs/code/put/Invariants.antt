use Rattle.std.proofs.Common.{◌≡◌, ◌++◌, take}
use Rattle.pattern_compiler.specs.View.{code_of}
use Rattle.pattern_compiler.proofs.code.put.Given as goal

abbrev pub invariant-loop-instr : goal.invariant-loop-instr
invariant-loop-instr l = code_of l.instrs.items ≡ code_of l.fn.instrs.items ++ code_of (take l.instr-index l.part)
