use Rattle.std.proofs.Common.{◌≡◌, map, take}
use Rattle.std.specs.List.{sum}
use Rattle.model.specs.Module.WellFormed.{string_bytes}
use Rattle.loader.proofs.places.strings_size.Given as goal

abbrev pub invariant-loop-string : goal.invariant-loop-string
invariant-loop-string l = l.size ≡ sum (map string_bytes (take l.string-index l.image.strings))
