use Rattle.std.proofs.Common.{◌≡◌, take, map}
use Rattle.model.specs.Language.Strings.{replaced}
use Rattle.strings.proofs.text.replaced_many.Given as goal

abbrev pub invariant-loop-byte : goal.invariant-loop-byte
invariant-loop-byte l = l.bytes.items ≡ map (replaced l.from l.to) (take l.byte-index l.old)
