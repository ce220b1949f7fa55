use Rattle.std.proofs.Common.{◌∷◌, ap, ◌∙◌}
use Rattle.model.specs.Module.Flow.{R}
use Rattle.frames.proofs.Stacks.{newest_is}
use Rattle.frames.proofs.operand.pop_span.Goals as goal

pub into_span-requires : goal.into_span-requires
into_span-requires c = newest_is R c.args.operands.now c.pop.new.self c.pop.result c.pop.ensures c.requires

pub returns : goal.returns
returns c = c.pop.ensures ∙ ap (λ x. record c.pop.new.self { top = x ∷ c.pop.new.self.top }) c.into_span.ensures
