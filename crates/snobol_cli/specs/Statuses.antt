-- The exit status of a run.
use Rattle.std.specs.Prelude.{ℕ}
use Rattle.model.specs.declared.run.Ending.TheVariants.{Normal, Error, StLimit}
use Rattle.model.specs.declared.run.Status.{Status}
use Rattle.model.specs.declared.run.Status.TheVariants.{Running, Ended, Stopped}

-- 0 where it ended normally, 1 by an error, 5 by STLIMIT or where its steps are used up, 6 where it was stopped
abbrev pub status_of : Status → ℕ
status_of (Ended Normal) = 0
status_of (Ended (Error e k)) = 1
status_of (Ended (StLimit n)) = 5
status_of Running = 5
status_of (Stopped s) = 6
