use Rattle.std.proofs.Common.{◌∷◌, ap, ◌∙◌}
use Rattle.model.specs.Module.Flow.{N}
use Rattle.frames.proofs.Stacks.{newest_is}
use Rattle.frames.proofs.operand.pop_name.Goals as goal

pub into_name-requires : goal.into_name-requires
into_name-requires c = newest_is N c.args.operands.now c.pop.new.self c.pop.result c.pop.ensures c.requires

pub returns : goal.returns
returns c = c.pop.ensures ∙ ap (λ x. record c.pop.new.self { top = x ∷ c.pop.new.self.top }) c.into_name.ensures
