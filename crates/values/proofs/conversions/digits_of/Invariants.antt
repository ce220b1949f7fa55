use Rattle.std.proofs.Common.{◌≡◌, ◌<◌, take}
use Rattle.std.specs.Str.Parse.{AllDigits, digits_value}
use Rattle.values.proofs.conversions.digits_of.Given as goal

abbrev pub invariant-loop-byte : goal.invariant-loop-byte
invariant-loop-byte l = AllDigits 10 (take l.byte-index l.text) × (l.n ≡ digits_value 10 (take l.byte-index l.text)) × (l.n < 100000000000000000)
