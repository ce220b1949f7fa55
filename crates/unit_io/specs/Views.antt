-- What a file that is given for a unit holds.
use Rattle.std.specs.Prelude.{ℕ, List, [], Option, Bool}
use Rattle.unit_io.specs.Sides.{exposed, kept_by, left_by, written_by}
use Rattle.unit_io.specs.declared.given.Side.{Side}
use Rattle.unit_io.specs.declared.given.Side.TheVariants.{Unused, Input, Output}
use Rattle.unit_io.specs.declared.line_reader.LineReader.{LineReader}
use Rattle.unit_io.specs.declared.line_writer.LineWriter.{LineWriter}

pub record FileView : Type 0 where
  -- the bytes that are left to be read
  pub left : Option (List ℕ)
  -- the bytes that were written to it, those that are kept back last, and these alone
  pub written : Option (List ℕ)
  pub back : List ℕ

-- of a system that may expose bytes, where the file with this name has these
abbrev pub file_view : {I O : Type 0} → (I → Option (List ℕ)) → (O → Option (List ℕ)) → (exposes : Bool) → (bytes : List ℕ) → Side (LineReader I) (LineWriter O) → FileView
file_view remaining contents exposes bytes Unused = record { left = exposed exposes bytes; written = exposed exposes []; back = [] }
file_view remaining contents exposes bytes (Input r) = record { left = left_by remaining r; written = exposed exposes []; back = [] }
file_view remaining contents exposes bytes (Output w) = record { left = exposed exposes bytes; written = written_by contents w; back = kept_by w }
