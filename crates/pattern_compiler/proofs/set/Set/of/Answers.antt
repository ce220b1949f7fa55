use Rattle.std.proofs.Common.{◌∙◌, ap}
use Rattle.model.specs.Language.Strings.{flags_of}
use Rattle.pattern_compiler.proofs.set.Set.of.Goals as goal

pub invariant_of-result : goal.invariant_of-result
invariant_of-result c = c.in_ok-table.ensures.ok ∙ c.of.ensures ∙ ap flags_of c.as_slice.ensures
