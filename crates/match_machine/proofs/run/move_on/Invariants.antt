use Rattle.std.proofs.Common.{◌≡◌, length}
use Rattle.model.specs.Pattern.Steps.{settled}
use Rattle.match_machine.proofs.run.move_on.Given as goal

abbrev pub invariant-loop-thread : goal.invariant-loop-thread
invariant-loop-thread l =
    record {
      thread : settled l.thread.trail.notes l.thread.trail.code l.thread.place l.thread.cursor l.thread.trail.pending
          ≡ settled l.fn.thread.trail.notes l.fn.thread.trail.code l.place l.cursor l.fn.thread.trail.pending;
      choices : l.thread.trail.backs ≡ l.fn.thread.trail.backs;
    }

abbrev pub decreases-loop-thread : goal.decreases-loop-thread
decreases-loop-thread l = length l.thread.trail.notes
