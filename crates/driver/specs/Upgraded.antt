-- What upgrading a module gives.
use Rattle.std.specs.Prelude.{◌≡◌, ℕ, List, Ok}
use Rattle.model.specs.declared.format.Version.TheVariants as versions
use Rattle.model.specs.declared.image.Image.{Image}
use Rattle.model.specs.declared.image.Level.TheVariants as levels
use Rattle.model.specs.Laws.Agreement.{Inputs, machine_at}
use Rattle.model.specs.Module.Reading.{image_in, read_image}
use Rattle.model.specs.Module.Spelling.{IsImage, spelling}
use Rattle.model.specs.Module.WellFormed.{IsWellFormed}

-- the older bytes spell a well-formed image in version 1; the newer ones spell it in version 2, at level 1 and with no card
-- known, and their machine does the same in as many steps, on all inputs
pub record IsUpgradeOf (older newer : List ℕ) : Type 0 where
  pub image : Image
  pub read : image_in versions.One older ≡ Ok image
  pub sound : IsWellFormed image
  pub level : image.level ≡ levels.One
  pub has_spelling : IsImage image
  pub spelt : newer ≡ spelling image
  pub read_again : read_image newer ≡ Ok image
  pub same_runs : (upgraded : Image) → read_image newer ≡ Ok upgraded → (inputs : Inputs) (m : ℕ) → machine_at upgraded inputs m ≡ machine_at image inputs m
