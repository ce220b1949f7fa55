use Rattle.std.proofs.Common.{ℕ, List, Option, drop}
use Rattle.std.specs.Io.KnownBytes.{Appends}
use Rattle.driver.specs.FaultLines.{fault_lines}
use Rattle.driver.proofs.fault_lines.tell_faults.Given as goal

abbrev pub invariant-loop-fault : goal.invariant-loop-fault
invariant-loop-fault g l =
    (end : Option (List ℕ)) → Appends (g.W.Write.contents l.out) end (fault_lines (drop l.fault-index l.faults)) → Appends (g.W.Write.contents l.fn.out) end (fault_lines l.faults)
