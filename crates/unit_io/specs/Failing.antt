-- The failures of units whose calls are made to fail.
use Rattle.std.specs.Prelude.{ℕ, ◌+◌, List, min}
use Rattle.unit_io.specs.Counts.{failures_at}

-- their own and those that were made, up to the last value of 64 bits
abbrev pub failures_with : ℕ → ℕ → ℕ
failures_with own made = min (own + made) 18446744073709551615

-- the same of each unit
abbrev pub failures_in : (ℕ → ℕ) → List ℕ → ℕ → ℕ
failures_in own made unit = failures_with (own unit) (failures_at made unit)
