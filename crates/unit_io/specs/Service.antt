-- What units did for a call.
use Rattle.std.specs.Prelude.{◌≡◌, ◌≢◌, ◌⊎◌, ℕ, Option, Some, None}
use Rattle.model.specs.Language.Io.{Io}
use Rattle.model.specs.Language.Told.{IfTold}
use Rattle.model.specs.Language.Units.{IsCounted, after_read}
use Rattle.model.specs.declared.run.Stop.{Stop}
use Rattle.model.specs.declared.run.Stop.TheVariants as stop
use Rattle.model.specs.declared.run.UnitFault.TheVariants as unit
use Rattle.unit_io.specs.Counts.{Same, SameBut}
use Rattle.unit_io.specs.Ways.{FailsNoMore}
use Rattle.unit_io.specs.declared.units.Units.{Ghosts as Units}

-- a unit's failure was counted there and nowhere else, and it isn't one of memory; for want of memory none was counted
abbrev pub IsStop : Stop → (ℕ → ℕ) → (ℕ → ℕ) → Type 0
IsStop stop.NoMemory old new = Same old new
IsStop (stop.Unit u cause) old new = (cause ≢ unit.Memory) × IsCounted cause (old u) (new u) × SameBut u old new

-- a failure was counted just where it stopped the call
abbrev pub KeepsCounts : Option Stop → (ℕ → ℕ) → (ℕ → ℕ) → Type 0
KeepsCounts None old new = Same old new
KeepsCounts (Some why) old new = IsStop why old new

-- P holds of what some units hold before and after: of any that stay as they are, or of these
pub data OfSome (P : Io → Io → Type 0) : Type 0 where
  OfAny : ((io : Io) → P io io) → OfSome P
  OfThese : (io io' : Io) → P io io' → OfSome P

-- units served a call that stopped so, or didn't stop: P holds of what they told before and tell after, if they tell; and if
-- they don't, of what some units may hold
pub record Served {U : Type 0} (units : Units U) (why : Option Stop) (old new : U) (P : Io → Io → Type 0) : Type 0 where
  pub told : IfTold (units.told old) (units.told new) P
  pub some : OfSome P
  pub counts : KeepsCounts why (units.failures old) (units.failures new)
  pub sound : FailsNoMore (units.may_fail old) (units.may_fail new)

-- the same of calls one after another; no units need be such that all of these come to what they came to
pub record ServedAll {U : Type 0} (units : Units U) (why : Option Stop) (old new : U) (P : Io → Io → Type 0) : Type 0 where
  pub told : IfTold (units.told old) (units.told new) P
  pub counts : KeepsCounts why (units.failures old) (units.failures new)
  pub sound : FailsNoMore (units.may_fail old) (units.may_fail new)

-- a call that stopped left what the units hold
abbrev pub KeepsIo : Option Stop → Option Io → Option Io → Type 0
KeepsIo None before after = Unit {0}
KeepsIo (Some why) before after = IfTold before after (λ io io'. io' ≡ io)

-- no unit stopped a call
abbrev pub IsNoUnit : Option Stop → Type 0
IsNoUnit (Some (stop.Unit u cause)) = ⊥
IsNoUnit _ = Unit {0}

-- what was left to be read still is; or, where no unit stopped the call, all but the first record of one unit
abbrev pub Spares : Option Stop → Io → Io → Type 0
Spares why io io' = (io'.left ≡ io.left) ⊎ ((unit : ℕ) × IsNoUnit why × (io'.left ≡ (after_read unit io).left))

-- a call printed nothing, and took one record at most
abbrev pub ReadsOne : Option Stop → Option Io → Option Io → Type 0
ReadsOne why before after = IfTold before after (λ io io'. (io'.printed ≡ io.printed) × Spares why io io')

-- the same of a call that stopped
abbrev pub IsQuiet : Option Stop → Option Io → Option Io → Type 0
IsQuiet None before after = Unit {0}
IsQuiet (Some why) before after = ReadsOne (Some why) before after
