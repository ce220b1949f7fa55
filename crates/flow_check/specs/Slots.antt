-- What is known of offsets, four of them in a byte.
use Rattle.std.specs.Prelude.{ℕ, ◌*◌, ◌/◌, ◌%◌, ◌^◌, ◌==◌, List, get_or, if◌then◌else◌}
use Rattle.flow_check.specs.declared.slots.Slot.{Slot}
use Rattle.flow_check.specs.declared.slots.Slot.TheVariants.{Free, Bare, Other}

abbrev pub coded : ℕ → Slot
coded n = if n == 0 then Free else (if n == 1 then Bare else Other)

abbrev pub code_of : Slot → ℕ
code_of Free = 0
code_of Bare = 1
code_of Other = 2

-- what stands at one of the four places of a byte
abbrev pub digit : (byte place : ℕ) → ℕ
digit byte place = byte / 2 ^ (2 * place) % 4

-- the slot of an offset; one that has none is said by the map
abbrev pub slot_at : List ℕ → ℕ → Slot
slot_at bytes y = coded (digit (get_or bytes (y / 4) 255) (y % 4))
