-- Reading records from what can be read, and writing them to what can be written.
use Rattle.std.specs.Prelude.{◌≡◌, ℕ, ◌<◌, List, [], ◌∷◌, ◌++◌, Option, Some, None, Result, Ok, Err, length, take, ◌⊎◌}
use Rattle.std.specs.Io.KnownBytes.{Consumes, Appends, IsAtEnd}
use Rattle.memchr.specs.Find.{IsFirstByte, is_byte}
use Rattle.model.specs.declared.run.UnitFault.{UnitFault}
use Rattle.model.specs.declared.run.UnitFault.TheVariants.{ReadFailed, Memory}

-- ---- reading

-- no byte is a line feed
abbrev pub HasNoFeed : List ℕ → Type 0
HasNoFeed bytes = IsFirstByte (is_byte 10) bytes None

-- bytes were read: the source told them as the first of those left to it, and they stand behind those held before
abbrev pub Took : Option (List ℕ) → Option (List ℕ) → List ℕ → List ℕ → Type 0
Took before after held now = (bytes : List ℕ) × Consumes before after bytes × (now ≡ held ++ bytes)

-- the faults of a reader
abbrev pub IsOfReader : UnitFault → Type 0
IsOfReader fault = (fault ≡ ReadFailed) ⊎ (fault ≡ Memory)

-- a record with its line feed, or a last one without; `left` is left to the source
abbrev pub IsRecord : List ℕ → List ℕ → List ℕ → Option (List ℕ) → Type 0
IsRecord record' all now left = (all ≡ record' ++ 10 ∷ now) ⊎ ((all ≡ record') × (0 < length record') × (now ≡ []) × IsAtEnd left)

-- what is told of `all` bytes; `now` are held then, and `left` is left to the source
abbrev pub Tells : Result (Option (List ℕ)) UnitFault → List ℕ → List ℕ → Option (List ℕ) → Type 0
Tells (Ok (Some record')) all now left = HasNoFeed record' × IsRecord record' all now left
Tells (Ok None) all now left = (all ≡ []) × (now ≡ []) × IsAtEnd left
Tells (Err fault) all now left = IsOfReader fault × (now ≡ all)

-- what is told, of the bytes held before and those that were read
abbrev pub TellsNext : Result (Option (List ℕ)) UnitFault → Option (List ℕ) → Option (List ℕ) → List ℕ → List ℕ → Type 0
TellsNext result before after held now = (bytes : List ℕ) × Consumes before after bytes × Tells result (held ++ bytes) now after

-- ---- writing

-- a prefix of the bytes was appended
abbrev pub AppendsBeginning : Option (List ℕ) → Option (List ℕ) → List ℕ → Type 0
AppendsBeginning before after bytes = (n : ℕ) × Appends before after (take n bytes)
