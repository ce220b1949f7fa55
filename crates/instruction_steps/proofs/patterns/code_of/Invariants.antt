use Rattle.std.proofs.Common.{◌≡◌, drop}
use Rattle.model.specs.Module.Images.{pattern_code}
use Rattle.pattern_compiler.specs.View.{code_of}
use Rattle.instruction_steps.proofs.Parts.{behind}
use Rattle.instruction_steps.proofs.patterns.code_of.Given as goal

abbrev pub invariant-loop-part : goal.invariant-loop-part
invariant-loop-part l = behind (code_of l.made.items) (pattern_code l.program.strings (drop l.part-index l.parts)) ≡ pattern_code l.program.strings l.parts
