-- Images that are accepted are those that the machine runs.
use Rattle.std.proofs.Common.{◌≡◌, ℕ, Bool, true, false, List, Option, Some, None, Result, Ok, Err, refl, sym, ap, ◌∙◌, ◌⊎◌, inl, inr, subst}
use Rattle.std.specs.Prelude.{if◌then◌else◌, IfOk}
use Rattle.model.specs.declared.format.LoadFault.{LoadFault}
use Rattle.model.specs.declared.format.LoadFault.TheVariants.{Format, Module}
use Rattle.model.specs.declared.format.Miss.{Miss}
use Rattle.model.specs.declared.format.ModuleFault.{ModuleFault}
use Rattle.model.specs.declared.format.Version.{Version}
use Rattle.model.specs.declared.format.Version.TheVariants as versions
use Rattle.model.specs.declared.image.Image.{Image}
use Rattle.model.specs.Module.Flow.{BreaksFlow, IsLeast}
use Rattle.model.specs.Module.Loading.{LoadsIn}
use Rattle.model.specs.Module.Reading.{image_in}
use Rattle.model.specs.Module.Spelling.{IsImage, IsImageIn}
use Rattle.model.specs.Module.WellFormed.{IsTold, IsWellFormed, comes_first, flow_fault, lesser_fault, part_fault}
use Rattle.model.specs.Laws.OneSpelling.{IsBytes}
use Rattle.model.proofs.Module.LeastFaults.{fine_in_each}
use Rattle.model.proofs.Module.SpeltImages.{read_is_spelt}
use Rattle.loader.specs.Answers.{IsAnswerIn, IsChecked, IsReadAs, no_memory, image_verdict}
use Rattle.loader.specs.Loaded.{IsLoaded}

chosen : (b : Bool) (f g : ModuleFault) → (if b then Some g else Some f) ≡ None → ⊥
chosen true f g e = cc
chosen false f g e = cc

neither : (f g : Option ModuleFault) → lesser_fault f g ≡ None → (f ≡ None) × (g ≡ None)
neither None g e = (refl, e)
neither (Some f) None e = absurd cc
neither (Some f) (Some g) e = absurd (chosen (comes_first g f) f g e)

no_flow : (v : Version) (im : Image) (flow : Option ℕ) → flow_fault v im flow ≡ None → flow ≡ None
no_flow v im None e = refl
no_flow v im (Some at) e = absurd cc

least_none : (im : Image) (flow : Option ℕ) → flow ≡ None → IsLeast (BreaksFlow im) flow → IsLeast (BreaksFlow im) None
least_none im None e h = h
least_none im (Some at) e h = absurd cc

well_formed : (v : Version) (im : Image) → IsTold v im None → IsWellFormed im
well_formed v im told =
    let n = neither (part_fault v im) (flow_fault v im told.0) (sym told.2) in
    record { parts = fine_in_each v versions.Two im n.0; flow = least_none im told.0 (no_flow v im told.0 n.1) told.1 }

pub loaded : (im : Image) → IsImage im → IsTold versions.Two im None → IsLoaded im
loaded im spelt told = record { spelt = spelt; formed = well_formed versions.Two im told }

-- ---- a well-formed image is accepted

untold : (v : Version) (im : Image) (flow : Option ℕ) → IsWellFormed im → IsLeast (BreaksFlow im) flow → lesser_fault (part_fault v im) (flow_fault v im flow) ≡ None
untold v im None formed least = rw (fine_in_each versions.Two v im formed.parts) refl
untold v im (Some at) formed least = absurd (formed.flow at least.0)

checked : (v : Version) (im : Image) (result : Result Image LoadFault) → IsWellFormed im → IsChecked v im result → result ≡ Ok im
checked v im result formed h = h.2 ∙ ap (image_verdict im) (h.1.2 ∙ untold v im h.1.0 formed h.1.1)

read_as : (v : Version) (bytes : List ℕ) (read : Result Image Miss) (im : Image) (result : Result Image LoadFault) → IsWellFormed im → read ≡ Ok im → IsReadAs v bytes read result → result ≡ Ok im
read_as v bytes (Ok m) im result formed e h =
    let same : m ≡ im = cc in
    checked v m result (rw same formed) h ∙ ap Ok same
read_as v bytes (Err miss) im result formed e h = absurd cc

pub accepted : (v : Version) (bytes : List ℕ) (im : Image) (result : Result Image LoadFault) → IsAnswerIn v bytes result → image_in v bytes ≡ Ok im → IsWellFormed im → (result ≡ Ok im) ⊎ (result ≡ Err no_memory)
accepted v bytes im result (inl memory) e formed = inr memory
accepted v bytes im result (inr h) e formed = inl (read_as v bytes (image_in v bytes) im result formed e h)

-- ---- what is told is what is defined

told_so : (v : Version) (bytes : List ℕ) (im : Image) (fault : Option ModuleFault) → image_in v bytes ≡ Ok im → IsTold v im fault → LoadsIn v bytes (image_verdict im fault)
told_so v bytes im None e told = (e, well_formed v im told)
told_so v bytes im (Some f) e told = (im, e, told)

read_so : (v : Version) (bytes : List ℕ) (read : Result Image Miss) (result : Result Image LoadFault) → image_in v bytes ≡ read → IsReadAs v bytes read result → LoadsIn v bytes result
read_so v bytes (Ok im) result e h = subst (LoadsIn v bytes) (sym h.2) (told_so v bytes im h.0 e h.1)
read_so v bytes (Err miss) result e h = subst (LoadsIn v bytes) (sym h) (miss, e, refl)

pub loads : (v : Version) (bytes : List ℕ) (result : Result Image LoadFault) → IsAnswerIn v bytes result → (result ≡ Err no_memory) ⊎ LoadsIn v bytes result
loads v bytes result (inl memory) = inl memory
loads v bytes result (inr h) = inr (read_so v bytes (image_in v bytes) result refl h)

-- a well-formed image isn't refused
pub sound_is_taken : (v : Version) (bytes : List ℕ) (im : Image) (f : LoadFault) → image_in v bytes ≡ Ok im → IsWellFormed im → LoadsIn v bytes (Err f) → ⊥
sound_is_taken v bytes im (Format f) e formed h = by_read (sym h.1 ∙ e)
  where
    by_read : Err h.0 ≡ Ok im → ⊥
    by_read x = cc
sound_is_taken v bytes im (Module f) e formed h =
    let read : Ok h.0 ≡ Ok im = sym h.1 ∙ e in
    let same : h.0 ≡ im = cc in
    let told = h.2 in
    by_fault (told.2 ∙ untold v h.0 told.0 (rw same formed) told.1)
  where
    by_fault : Some f ≡ None → ⊥
    by_fault x = cc

-- what was read is an image of that version
pub read_loaded : (v : Version) (bytes : List ℕ) (result : Result Image LoadFault) → IsBytes bytes → (result ≡ Err no_memory) ⊎ LoadsIn v bytes result → IfOk result (λ m. (image_in v bytes ≡ Ok m) × IsImageIn v m × IsWellFormed m)
read_loaded v bytes (Err f) fits h = tt
read_loaded v bytes (Ok m) fits (inl e) = absurd (cc)
read_loaded v bytes (Ok m) fits (inr h) = (h.0, (read_is_spelt v bytes m fits h.0).0, h.1)
