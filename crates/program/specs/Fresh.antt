-- The units of a run before its first step: the bytes that each of them has.
use Rattle.std.specs.Prelude.{◌≡◌, ℕ, List, [], ◌∷◌, Bool, false, Option, Some, None, nat_eq, replicate, if◌then◌else◌}
use Rattle.std.specs.Io.KnownBytes.{Keeps}
use Rattle.unit_io.specs.Files.{FilesView, left_on}
use Rattle.unit_io.specs.Sides.{exposed}
use Rattle.driver.specs.declared.words.UnitFile.{UnitFile}

abbrev pub one_of : Option (List ℕ) → (otherwise : Option (List ℕ)) → Option (List ℕ)
one_of (Some name) otherwise = Some name
one_of None otherwise = otherwise

-- the name of the file that is given for a unit, if one is; of two the later
abbrev pub name_for : ℕ → List UnitFile → Option (List ℕ)
name_for unit [] = None
name_for unit (f ∷ fs) = one_of (name_for unit fs) (if nat_eq f.unit unit then Some f.file.now else None)

abbrev pub bytes_of : Option (List ℕ) → (source : List ℕ → List ℕ) → (otherwise : List ℕ) → List ℕ
bytes_of (Some name) source otherwise = source name
bytes_of None source otherwise = otherwise

-- the bytes that a unit has: those of its file; without one those of standard input, for unit 5, and none for another unit
abbrev pub first_bytes : (input : List ℕ) → (source : List ℕ → List ℕ) → List UnitFile → (unit : ℕ) → List ℕ
first_bytes input source files unit = bytes_of (name_for unit files) source (if nat_eq 5 unit then input else [])

-- units on this system, with these files: on a system that exposes the bytes, each unit has its own; no record was written,
-- and no unit has failed
pub record AreFresh {S : Type 0} (exposes : S → Bool) (input : S → List ℕ) (source : S → List ℕ → List ℕ) (system : S) (files : List UnitFile) (v : FilesView S) : Type 0 where
  pub of_system : v.system ≡ system
  pub left : (unit : ℕ) → Keeps (exposed (exposes system) (first_bytes (input system) (source system) files unit)) (left_on unit v.given v.input)
  pub records : v.records ≡ []
  pub counts : v.counts ≡ replicate 256 0
  pub sound : v.refused ≡ false
