-- Subscripts of a dimension.
use Rattle.std.specs.Prelude.{ℕ, ℤ, pos, ◌+ℤ◌, ◌-ℤ◌, nat_abs, int_le, int_lt, Option, Some, None, ◌&&◌, if◌then◌else◌}
use Rattle.model.specs.Language.Values.{Bounds}

-- how many subscripts stand below this one, if it is one of them
abbrev pub offset_in : Bounds → ℤ → Option ℕ
offset_in b z = if int_le b.low z && int_lt z (b.low +ℤ pos b.count) then Some (nat_abs (z -ℤ b.low)) else None
