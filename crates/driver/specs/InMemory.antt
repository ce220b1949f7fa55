-- Runs on units in memory that are open in the ways in which they are used: nothing but want of memory stops them.
use Rattle.std.specs.Prelude.{ℕ, List, Some}
use Rattle.model.specs.declared.run.Status.{Status}
use Rattle.model.specs.declared.run.Status.TheVariants as status
use Rattle.model.specs.declared.run.Stop.TheVariants as stop
use Rattle.unit_io.specs.Held.{UnitsView, IsReadable, IsWritable, io_of, may_fail_of, side_at}
use Rattle.statement_machine.specs.Asking.{UsesOnly}
use Rattle.driver.specs.Whole.{IsRunOf}

-- a run ended, or used its bound, or lacked memory
abbrev pub EndsOrGoesOn : Status → Type 0
EndsOrGoesOn (status.Stopped (stop.Unit u cause)) = ⊥
EndsOrGoesOn _ = Unit {0}

-- where each unit that a deck reads from is open for input, and each that it prints on for output, no unit stops its run
abbrev pub RunsInMemory : Type 0
RunsInMemory =
    (deck : List ℕ) (bound : ℕ) (status : Status) (before after : UnitsView) (r : IsRunOf deck bound (may_fail_of before) status (Some (io_of before)) (Some (io_of after)))
    → UsesOnly r.image bound (io_of before) (λ u. IsReadable (side_at u before.opened)) (λ u. IsWritable (side_at u before.opened)) → EndsOrGoesOn status
