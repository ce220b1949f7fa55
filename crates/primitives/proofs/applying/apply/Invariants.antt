use Rattle.std.proofs.Common.{◌≡◌, map, length}
use Rattle.model.specs.declared.primitives.PrimId.TheVariants as p
use Rattle.model.specs.Language.Primitives.{prim_op}
use Rattle.model.specs.Machine.Steps.{MW, codes_of}
use Rattle.values.specs.Values.{value_of}
use Rattle.primitives.proofs.applying.apply.Given as goal

abbrev pub invariant-loop-name : goal.invariant-loop-name
invariant-loop-name l = (w : MW) → w.plain.level ≡ l.level → prim_op codes_of p.Apply (map value_of l.arguments) w ≡ prim_op codes_of p.Apply (map value_of l.rest) w

abbrev pub decreases-loop-name : goal.decreases-loop-name
decreases-loop-name l = length l.rest
