use Rattle.std.proofs.Common.{◌∙◌, ap}
use Rattle.model.specs.Language.Strings.{flags_of}
use Rattle.pattern_compiler.proofs.set.Set.break_len.Goals as goal

pub returns-in-None-clause-value : goal.returns-in-None-clause-value
returns-in-None-clause-value c = c.break_by-in-None.ensures.value c.args.self.now (c.of.ensures ∙ ap flags_of (c.as_slice.ensures ∙ c.self.view_is))
