use Rattle.std.proofs.Common.{◌≡◌, ℕ, ◌<◌, List, [], Option, None, length}
use Rattle.std.specs.Io.KnownBytes.{Keeps}
use Rattle.unit_io.specs.Files.{back_of, file_on, left_on, written_on}
use Rattle.unit_io.proofs.file.flush_all.Given as goal

-- the files before this place keep nothing back, unless one could not be written
abbrev pub invariant-files : goal.invariant-files
invariant-files g l = record {
  len : length l.given.items ≡ length l.initial.given.items;
  all : l.failed ≡ None → (u : ℕ) → u < l.k → back_of (file_on u l.given.items) [] ≡ [];
  left : (u : ℕ) (input : Option (List ℕ)) → left_on u l.given.items input ≡ left_on u l.initial.given.items input;
  written : (u : ℕ) (output : Option (List ℕ)) → Keeps (written_on u l.initial.given.items output) (written_on u l.given.items output);
}
