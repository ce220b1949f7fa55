-- One spelling, both ways, in each version of the format.
use Rattle.std.specs.Prelude.{◌≡◌, ℕ, ◌<◌, List, Ok, get_or}
use Rattle.model.specs.declared.format.Version.{Version}
use Rattle.model.specs.declared.image.Image.{Image}
use Rattle.model.specs.Module.Spelling.{spelling_in, IsImageIn}
use Rattle.model.specs.Module.Reading.{image_in}

abbrev pub IsBytes : List ℕ → Type 0
IsBytes bytes = (i : ℕ) → get_or bytes i 0 < 256

abbrev pub ReadIsSpelt : Type 0
ReadIsSpelt = (v : Version) (bytes : List ℕ) (m : Image) → IsBytes bytes → image_in v bytes ≡ Ok m → IsImageIn v m × (bytes ≡ spelling_in v m)

abbrev pub SpeltIsRead : Type 0
SpeltIsRead = (v : Version) (m : Image) → IsImageIn v m → image_in v (spelling_in v m) ≡ Ok m
