-- Primitives that change nothing.
use Rattle.std.specs.Prelude.{Bool, true, false}
use Rattle.model.specs.declared.primitives.PrimId.{PrimId}
use Rattle.model.specs.declared.primitives.PrimId.TheVariants as p

-- primitives that change nothing, and take three arguments at most by their numbers
abbrev pub is_pure : PrimId → Bool
is_pure p.Item = false
is_pure p.Apply = false
is_pure p.Array = false
is_pure p.Table = false
is_pure p.Copy = false
is_pure p.Convert = false
is_pure p.Data = false
is_pure p.Define = false
is_pure p.Input = false
is_pure p.Output = false
is_pure p.Detach = false
is_pure _ = true
