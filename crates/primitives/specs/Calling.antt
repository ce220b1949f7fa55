-- DEFINE, and what APPLY calls.
use Rattle.std.specs.Prelude.{◌≡◌, List, drop, map, Bool, true, false, Result, Ok, Err}
use Rattle.std.specs.Borrow.{Bor}
use Rattle.model.specs.declared.primitives.PrimId.{PrimId}
use Rattle.model.specs.declared.primitives.PrimId.TheVariants as p
use Rattle.model.specs.Language.Conversions.{Op, Gives, Faults, conv, to_text}
use Rattle.model.specs.Machine.Steps.{MVal, MW, codes_of}
use Rattle.model.specs.Language.Primitives.{Calls, define_op, to_entry_label, prim_op}
use Rattle.model.specs.Language.Prototypes.{function_prototype}
use Rattle.values.specs.Values.{value_of}
use Rattle.values.specs.declared.value.Value.{Value}
use Rattle.values.specs.declared.fault.Fault.{Fault}
use Rattle.values.specs.declared.fault.Fault.TheVariants as fault
use Rattle.primitives.specs.declared.applying.Applied.{Applied}
use Rattle.primitives.specs.declared.applying.Applied.TheVariants as applied

abbrev pub define_row : MVal → MVal → MW → Op MW MVal
define_row a b w = conv (to_text a) w (λ s. conv (to_entry_label b) w (λ l. define_op l (function_prototype w.plain.level s) w))

-- unless it stopped, this is what APPLY calls with the other arguments, or its error
abbrev pub IsApplied : Result Applied Fault → List MVal → MW → Type 0
IsApplied (Ok (applied.Primitive q)) vs w = prim_op codes_of p.Apply vs w ≡ prim_op codes_of q (drop 1 vs) w
IsApplied (Ok (applied.Function f)) vs w = prim_op codes_of p.Apply vs w ≡ Gives (Calls f (drop 1 vs)) w
IsApplied (Err (fault.Error e)) vs w = prim_op codes_of p.Apply vs w ≡ Faults e w
IsApplied (Err (fault.Stop s)) vs w = Unit {0}

-- what APPLY calls at last is no APPLY
abbrev pub IsOther : PrimId → Type 0
IsOther p.Apply = ⊥
IsOther _ = Unit {0}

abbrev pub IsOtherApplied : Applied → Type 0
IsOtherApplied (applied.Primitive q) = IsOther q
IsOtherApplied (applied.Function f) = Unit {0}

abbrev pub IsApplyIf : Bool → Applied → Type 0
IsApplyIf true a = a ≡ applied.Primitive p.Apply
IsApplyIf false a = IsOtherApplied a

-- unless it stopped, APPLY calls this at last with these arguments, or gives this error
abbrev pub IsReached : Result (Applied × Bor (List Value)) Fault → List MVal → MW → Type 0
IsReached (Ok (applied.Primitive q, xs)) vs w = IsOther q × (prim_op codes_of p.Apply vs w ≡ prim_op codes_of q (map value_of xs.now) w)
IsReached (Ok (applied.Function f, xs)) vs w = prim_op codes_of p.Apply vs w ≡ Gives (Calls f (map value_of xs.now)) w
IsReached (Err (fault.Error e)) vs w = prim_op codes_of p.Apply vs w ≡ Faults e w
IsReached (Err (fault.Stop s)) vs w = Unit {0}
