-- What units hold: for each unit the records that are left to be read, and what was printed, in one order over all units.
use Rattle.std.specs.Prelude.{ℕ, List}

pub record Io : Type 0 where
  pub left : ℕ → List (List ℕ)
  pub printed : List (record { unit : ℕ; bytes : List ℕ })
