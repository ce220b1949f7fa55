-- The ways in which calls use units, and what may fail.
use Rattle.std.specs.Prelude.{ℕ, Bool, true, IsTrue}

pub data Way : Type 0 where
  Reading : Way
  Writing : Way

-- a unit that may fail where it is used in this way
pub record MayFail (may_fail : Way → ℕ → Bool) (way : Way) (unit : ℕ) : Type 0 where
  pub so : IsTrue (may_fail way unit)

-- nothing may fail that couldn't before
abbrev pub FailsNoMore : (old new : Way → ℕ → Bool) → Type 0
FailsNoMore old new = (way : Way) (unit : ℕ) → IsTrue (new way unit) → IsTrue (old way unit)

-- where nothing is known, any unit may fail, either way
abbrev pub any_may_fail : Way → ℕ → Bool
any_may_fail way unit = true
