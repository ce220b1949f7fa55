use Rattle.std.proofs.Common.{◌≤◌, length, take}
use Rattle.std.specs.Io.KnownBytes.{Appends}
use Rattle.unit_io.proofs.line_writer.write_whole.Given as goal

abbrev pub invariant-turns : goal.invariant-turns
invariant-turns g l = record {
  within : l.at ≤ length l.bytes;
  written : Appends (g.W.Write.contents l.initial.target) (g.W.Write.contents l.target) (take l.at l.bytes);
}
