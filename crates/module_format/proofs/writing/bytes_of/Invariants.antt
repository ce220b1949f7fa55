use Rattle.std.proofs.Common.{◌≡◌, take}
use Rattle.model.specs.Module.Spelling.{code_bytes}
use Rattle.module_format.proofs.writing.bytes_of.Given as goal

abbrev pub invariant-loop-i : goal.invariant-loop-i
invariant-loop-i l = l.bytes.items ≡ code_bytes (take l.i-index l.code)
