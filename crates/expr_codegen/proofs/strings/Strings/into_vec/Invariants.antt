use Rattle.std.proofs.Common.{◌≡◌, ◌++◌, map}
use Rattle.expr_codegen.proofs.TextPlaces.{items}
use Rattle.expr_codegen.proofs.strings.Strings.into_vec.Given as goal

abbrev pub invariant-loop-text : goal.invariant-loop-text
invariant-loop-text l = map items l.strings.items ++ map items l.text-iterator ≡ l.fn.self
