use Rattle.std.proofs.Common.{◌≡◌, ◌++◌, drop}
use Rattle.model.specs.Pattern.Code.{exits_past}
use Rattle.pattern_compiler.specs.View.{code_of}
use Rattle.pattern_compiler.proofs.join.put_led_past.Given as goal

abbrev pub invariant-loop-place : goal.invariant-loop-place
invariant-loop-place l =
    code_of l.instrs.items ++ exits_past l.by (code_of (drop l.place l.part)) ≡ code_of l.fn.instrs.items ++ exits_past l.by (code_of l.part)
