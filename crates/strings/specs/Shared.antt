-- Where the bytes of a text are.
use Rattle.std.specs.Prelude.{◌≡◌, ◌≤◌, ℕ, List, length, take, slice_range}
use Rattle.strings.specs.declared.text.Bytes.{Bytes}
use Rattle.strings.specs.declared.text.Bytes.TheVariants.{Own, Shared}

abbrev pub bytes_of : Bytes → List ℕ
bytes_of (Own len array) = take len array
bytes_of (Shared start end shared) = slice_range (shared.value.items) start end

abbrev pub AreWithin : Bytes → Type 0
AreWithin (Own len array) = (len ≤ 22) × (length array ≡ 22)
AreWithin (Shared start end shared) = (start ≤ end) × (end ≤ length (shared.value.items))
