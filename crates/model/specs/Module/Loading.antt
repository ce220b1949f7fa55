-- What is reported of bytes: the image that they spell, if it is well-formed, or the fault.
use Rattle.std.specs.Prelude.{◌≡◌, ℕ, ◌-◌, List, length, Some, Result, Ok, Err}
use Rattle.model.specs.declared.format.FormatFault.{FormatFault}
use Rattle.model.specs.declared.format.LoadFault.{LoadFault}
use Rattle.model.specs.declared.format.LoadFault.TheVariants.{Format, Module}
use Rattle.model.specs.declared.format.Miss.{Miss}
use Rattle.model.specs.declared.format.Version.{Version}
use Rattle.model.specs.declared.format.Version.TheVariants as versions
use Rattle.model.specs.declared.image.Image.{Image}
use Rattle.model.specs.Module.Reading.{image_in}
use Rattle.model.specs.Module.WellFormed.{IsWellFormed, IsTold}

-- the offset of a fault at which so many bytes are left
abbrev pub offset_of : List ℕ → Miss → FormatFault
offset_of bytes miss = record { offset = length bytes - miss.left; rule = miss.rule }

-- in a version of the format
abbrev pub LoadsIn : Version → List ℕ → Result Image LoadFault → Type 0
LoadsIn v bytes (Ok im) = (image_in v bytes ≡ Ok im) × IsWellFormed im
LoadsIn v bytes (Err (Format f)) = (miss : Miss) × (image_in v bytes ≡ Err miss) × (f ≡ offset_of bytes miss)
LoadsIn v bytes (Err (Module f)) = (im : Image) × (image_in v bytes ≡ Ok im) × IsTold v im (Some f)

abbrev pub Loads : List ℕ → Result Image LoadFault → Type 0
Loads bytes result = LoadsIn versions.Two bytes result
