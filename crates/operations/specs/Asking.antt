-- Which unit an operation asks. What units hold is what stands in the world of the operation.
use Rattle.std.specs.Prelude.{◌≡◌, ◌≢◌, ◌⊎◌, ℕ, ◌∷◌, ◌++◌, Bool, Option, Some}
use Rattle.model.specs.declared.run.Stop.{Stop}
use Rattle.model.specs.declared.run.Stop.TheVariants as stop
use Rattle.model.specs.Deck.Trees.{Bytes}
use Rattle.model.specs.Language.Conversions.{Op, Gives, Refuses, Faults}
use Rattle.model.specs.Language.Io.{Io}
use Rattle.model.specs.Laws.Agreement.{Records}
use Rattle.model.specs.Machine.Steps.{MW}
use Rattle.unit_io.specs.Ways.{Way, MayFail, Reading, Writing}

-- of the unit that stopped a call, if one did
abbrev pub IfUnit : Option Stop → (ℕ → Type 0) → Type 0
IfUnit (Some (stop.Unit u cause)) P = P u
IfUnit _ P = Unit {0}

-- the world that an operation leaves, and what its units hold
abbrev pub world_after : {A : Type 0} → Op MW A → MW
world_after (Gives a w) = w
world_after (Refuses w) = w
world_after (Faults e w) = w

abbrev pub io_after : {A : Type 0} → Op MW A → Io
io_after o = (world_after o).io

-- a record is taken from this unit, if the units hold some such records
abbrev pub TakesFrom : ℕ → (Io → Io) → Type 0
TakesFrom u f = (io : Io) × ((f io).left u ≢ io.left u)

-- the next record, behind those printed so far, is one on this unit
abbrev pub IsNextOn : ℕ → (so_far whole : Records) → Type 0
IsNextOn u so_far whole = (bytes : Bytes) × (more : Records) × (whole ≡ so_far ++ record { unit = u; bytes = bytes } ∷ more)

-- whatever the units hold, a record is printed on this unit, before any other
abbrev pub PrintsOn : ℕ → (Io → Io) → Type 0
PrintsOn u f = (io : Io) → IsNextOn u io.printed (f io).printed

-- a unit that stopped an operation may fail at reading, and this takes a record from it; or it may fail at writing, and this
-- prints on it
abbrev pub Takes : (may_fail : Way → ℕ → Bool) → Option Stop → (Io → Io) → Type 0
Takes may_fail why f = IfUnit why (λ u. MayFail may_fail Reading u × TakesFrom u f)

abbrev pub Prints : (may_fail : Way → ℕ → Bool) → Option Stop → (Io → Io) → Type 0
Prints may_fail why f = IfUnit why (λ u. MayFail may_fail Writing u × PrintsOn u f)

abbrev pub TakesOrPrints : (may_fail : Way → ℕ → Bool) → Option Stop → (Io → Io) → Type 0
TakesOrPrints may_fail why f = IfUnit why (λ u. (MayFail may_fail Reading u × TakesFrom u f) ⊎ (MayFail may_fail Writing u × PrintsOn u f))
