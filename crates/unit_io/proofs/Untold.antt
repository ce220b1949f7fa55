-- Units that don't tell their records meet every read and every write.
use Rattle.std.proofs.Common.{ℕ, List, [], ◌∷◌, Option, Some, None, refl}
use Rattle.model.specs.Language.Units.{Reads, Writes}

pub untold_read : (unit : ℕ) (got : Option (List ℕ)) → Reads unit got None None
untold_read unit None = (record { left = λ u. []; printed = [] }, tt, refl)
untold_read unit (Some r) = (record { left = λ u. r ∷ []; printed = [] }, tt, refl)

pub untold_write : (unit : ℕ) (bytes : List ℕ) → Writes unit bytes None None
untold_write unit bytes = (record { left = λ u. []; printed = [] }, tt)
