-- What a reader of modules returns.
use Rattle.std.specs.Prelude.{◌≡◌, ◌⊎◌, ◌-◌, ℕ, Result, Ok, Err}
use Rattle.model.specs.declared.format.FormatFault.{FormatFault}
use Rattle.model.specs.declared.format.Miss.{Miss}
use Rattle.model.specs.declared.format.FormatRule.TheVariants.{Memory}
use Rattle.model.specs.declared.image.Image.{Image}

abbrev pub no_memory : FormatFault
no_memory = record { offset = 0; rule = Memory }

-- where so many bytes are left of the input
abbrev pub told : ℕ → Miss → FormatFault
told len miss = record { offset = len - miss.left; rule = miss.rule }

-- The fault of the bytes, or want of memory in place of any.
abbrev pub IsAnswer : Result Image FormatFault → Result Image Miss → ℕ → Type 0
IsAnswer (Ok m) read len = read ≡ Ok m
IsAnswer (Err e) read len = (e ≡ no_memory) ⊎ ((miss : Miss) × (read ≡ Err miss) × (e ≡ told len miss))
