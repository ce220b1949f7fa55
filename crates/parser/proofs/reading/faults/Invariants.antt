use Rattle.std.proofs.Common.{◌≡◌, take}
use Rattle.parser.specs.Reads.{noted_faults}
use Rattle.parser.proofs.reading.faults.Given as goal

abbrev pub invariant-loop-one : goal.invariant-loop-one
invariant-loop-one l = l.faults ≡ noted_faults l.all (take l.one-index l.noted)
