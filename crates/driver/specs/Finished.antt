-- How a run came out once what its units kept back was written.
use Rattle.std.specs.Prelude.{◌≡◌, ℕ, Result, Ok, Err}
use Rattle.model.specs.declared.run.Status.{Status}
use Rattle.model.specs.declared.run.Status.TheVariants as status
use Rattle.model.specs.declared.run.Stop.TheVariants as stop
use Rattle.model.specs.declared.run.UnitFault.TheVariants as fault

-- a run that was not stopped was stopped then by the unit that could not be written
abbrev pub IsFinished : Status → Result (Unit {0}) ℕ → Status → Type 0
IsFinished (status.Stopped why) written after = after ≡ status.Stopped why
IsFinished before (Ok done) after = after ≡ before
IsFinished before (Err unit) after = after ≡ status.Stopped (stop.Unit unit fault.WriteFailed)
