use Rattle.std.proofs.Common.{rules}
use Rattle.pattern_compiler.specs.View.{instr_of}
use Rattle.pattern_compiler.proofs.led.Led.led_anew.Goals as goal

pub invariant_of-self : goal.invariant_of-self
invariant_of-self c = (instr_of c.args.first, search rules)
