use Rattle.std.proofs.Common.{take}
use Rattle.std.specs.List.{All}
use Rattle.frames.specs.Frames.{IsCall}
use Rattle.frames.proofs.marking.are_calls.Given as goal

abbrev pub invariant-loop-frame : goal.invariant-loop-frame
invariant-loop-frame l = All IsCall (take l.frame-index l.items)
