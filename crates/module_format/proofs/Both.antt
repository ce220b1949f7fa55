-- What was read is spelt so, and what is spelt so is read.
use Rattle.std.proofs.Common.{◌≡◌, ℕ, List, Result, Ok, Err, ap, subst, ◌∙◌, length}
use Rattle.std.specs.Prelude.{IfOk}
use Rattle.model.specs.declared.format.FormatFault.{FormatFault}
use Rattle.model.specs.declared.format.Miss.{Miss}
use Rattle.model.specs.declared.format.Version.{Version}
use Rattle.model.specs.declared.format.Version.TheVariants as versions
use Rattle.model.specs.declared.image.Image.{Image}
use Rattle.model.specs.Module.Spelling.{spelling, spelling_in, IsImage, IsImageIn}
use Rattle.model.specs.Module.Reading.{image_in, read_image}
use Rattle.model.specs.Laws.OneSpelling.{IsBytes}
use Rattle.model.proofs.Module.SpeltImages.{read_is_spelt, spelt_is_read}
use Rattle.module_format.specs.Faults.{IsAnswer}

pub found : (v : Version) (bytes : List ℕ) (r : Result Image FormatFault) → IsBytes bytes → IsAnswer r (image_in v bytes) (length bytes) → IfOk r (λ m. IsImageIn v m × (bytes ≡ spelling_in v m))
found v bytes (Ok m) fits e = read_is_spelt v bytes m fits e
found v bytes (Err f) fits e = tt

pub only : (v : Version) (bytes : List ℕ) (r : Result Image FormatFault) → IsAnswer r (image_in v bytes) (length bytes) → (m : Image) → IsImageIn v m → bytes ≡ spelling_in v m → IsAnswer r (Ok m) (length bytes)
only v bytes r e m is same =
    let read : image_in v bytes ≡ Ok m = ap (image_in v) same ∙ spelt_is_read v m is in
    subst (λ (q : Result Image Miss). IsAnswer r q (length bytes)) read e

pub found_now : (bytes : List ℕ) (r : Result Image FormatFault) → IsBytes bytes → IsAnswer r (read_image bytes) (length bytes) → IfOk r (λ m. IsImage m × (bytes ≡ spelling m))
found_now bytes (Ok m) fits e = let h = read_is_spelt versions.Two bytes m fits e in (h.0.image, h.1)
found_now bytes (Err f) fits e = tt
