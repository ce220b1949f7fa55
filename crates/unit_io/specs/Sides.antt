-- One reader, and one writer: what is left, and what was written.
use Rattle.std.specs.Prelude.{◌≡◌, ◌⊎◌, ℕ, List, [], Option, Some, None, Bool, true, false}
use Rattle.std.specs.Io.Buffered.{writer_buffer, writer_contents}
use Rattle.std.specs.Io.KnownBytes.{prepend_known}
use Rattle.model.specs.Language.Units.{first_of, records_of, rest_of}
use Rattle.unit_io.specs.declared.line_reader.LineReader.{LineReader}
use Rattle.unit_io.specs.declared.line_writer.LineWriter.{LineWriter}

-- bytes that are known where a system exposes them
abbrev pub exposed : Bool → List ℕ → Option (List ℕ)
exposed true bytes = Some bytes
exposed false bytes = None

-- the bytes that a reader still gives, those that it holds first
abbrev pub left_by : {R : Type 0} → (R → Option (List ℕ)) → LineReader R → Option (List ℕ)
left_by remaining r = prepend_known r.held (remaining r.source)

-- the bytes that a writer has, those that it keeps back last
abbrev pub written_by : {W : Type 0} → (W → Option (List ℕ)) → LineWriter W → Option (List ℕ)
written_by contents w = writer_contents contents w.target

-- those that it keeps back
abbrev pub kept_by : {W : Type 0} → LineWriter W → List ℕ
kept_by w = writer_buffer w.target

-- nothing of what was written is kept back, or the system refused it
abbrev pub IsHandedOn : (back : List ℕ) → (refused : Bool) → Type 0
IsHandedOn back refused = (back ≡ []) ⊎ (refused ≡ true)

-- a record was taken: the first of those that the bytes have
abbrev pub TakesFirst : Option (List ℕ) → Option (List ℕ) → Option (List ℕ) → Type 0
TakesFirst got None after = Unit {0}
TakesFirst got (Some bytes) after = (got ≡ first_of (records_of bytes)) × (rest : List ℕ) × (after ≡ Some rest) × (records_of rest ≡ rest_of (records_of bytes))
