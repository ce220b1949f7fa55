use Rattle.std.proofs.Common.{◌∷◌, ap, ◌∙◌}
use Rattle.model.specs.Module.Flow.{V}
use Rattle.frames.proofs.Stacks.{newest_is}
use Rattle.frames.proofs.operand.pop_value.Goals as goal

pub into_value-requires : goal.into_value-requires
into_value-requires c = newest_is V c.args.operands.now c.pop.new.self c.pop.result c.pop.ensures c.requires

pub returns : goal.returns
returns c = c.pop.ensures ∙ ap (λ x. record c.pop.new.self { top = x ∷ c.pop.new.self.top }) c.into_value.ensures
