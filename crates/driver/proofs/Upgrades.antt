-- What is written of an image of version 1 is its upgrade.
use Rattle.std.proofs.Common.{◌≡◌, ◌∙◌, sym, ap, List, ℕ, Ok}
use Rattle.model.specs.declared.format.Version.TheVariants as versions
use Rattle.model.specs.declared.image.Image.{Image}
use Rattle.model.specs.Laws.Agreement.{machine_at}
use Rattle.model.specs.Module.Reading.{image_in, read_image}
use Rattle.model.specs.Module.Spelling.{IsImageIn, spelling}
use Rattle.model.specs.Module.WellFormed.{IsWellFormed}
use Rattle.model.proofs.Module.SpeltImages.{spelt_is_read}
use Rattle.model.proofs.Module.SpeltNumbers.{ok_is}
use Rattle.driver.specs.Upgraded.{IsUpgradeOf}

pub is_upgrade : (older newer : List ℕ) (m : Image) → image_in versions.One older ≡ Ok m → IsImageIn versions.One m → IsWellFormed m → newer ≡ spelling m → IsUpgradeOf older newer
is_upgrade older newer m read is formed spelt =
    let again : read_image newer ≡ Ok m = ap read_image spelt ∙ spelt_is_read versions.Two m (record { image = is.image; level = tt }) in
    record {
      image = m;
      read = read;
      sound = formed;
      level = is.level;
      has_spelling = is.image;
      spelt = spelt;
      read_again = again;
      same_runs = λ upgraded e inputs n. ap (λ (im : Image). machine_at im inputs n) (ok_is upgraded m (sym e ∙ again));
    }
