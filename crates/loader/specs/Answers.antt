-- What is told of bytes: the one defined answer, or want of memory.
use Rattle.std.specs.Prelude.{◌≡◌, ◌⊎◌, ℕ, List, Option, Some, None, Result, Ok, Err}
use Rattle.model.specs.declared.format.FormatRule.TheVariants.{Memory}
use Rattle.model.specs.declared.format.LoadFault.{LoadFault}
use Rattle.model.specs.declared.format.LoadFault.TheVariants.{Format, Module}
use Rattle.model.specs.declared.format.Miss.{Miss}
use Rattle.model.specs.declared.format.ModuleFault.{ModuleFault}
use Rattle.model.specs.declared.format.Version.{Version}
use Rattle.model.specs.declared.image.Image.{Image}
use Rattle.model.specs.Module.Loading.{Loads, offset_of}
use Rattle.model.specs.Module.Reading.{image_in}
use Rattle.model.specs.Module.WellFormed.{IsTold}

-- want of memory, which may be told in place of any other answer
abbrev pub no_memory : LoadFault
no_memory = Format (record { offset = 0; rule = Memory })

-- the image that the bytes spell, if it is well-formed, or else their fault
abbrev pub IsAnswer : List ℕ → Result Image LoadFault → Type 0
IsAnswer bytes result = (result ≡ Err no_memory) ⊎ Loads bytes result

-- ---- by steps, in a version

abbrev pub image_verdict : Image → Option ModuleFault → Result Image LoadFault
image_verdict im None = Ok im
image_verdict im (Some f) = Err (Module f)

-- an image that is spelt in a version, by its least fault
abbrev pub IsChecked : Version → Image → Result Image LoadFault → Type 0
IsChecked v im result = (fault : Option ModuleFault) × IsTold v im fault × (result ≡ image_verdict im fault)

-- bytes, by what they are read as
abbrev pub IsReadAs : Version → List ℕ → Result Image Miss → Result Image LoadFault → Type 0
IsReadAs v bytes (Err miss) result = result ≡ Err (Format (offset_of bytes miss))
IsReadAs v bytes (Ok im) result = IsChecked v im result

abbrev pub IsAnswerIn : Version → List ℕ → Result Image LoadFault → Type 0
IsAnswerIn v bytes result = (result ≡ Err no_memory) ⊎ IsReadAs v bytes (image_in v bytes) result
