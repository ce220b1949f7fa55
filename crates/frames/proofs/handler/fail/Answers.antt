use Rattle.std.proofs.Common.{◌∷◌, ap, ◌∙◌}
use Rattle.frames.specs.Stacked.{Stacked}
use Rattle.frames.specs.declared.handler.Handler.{Handler}
use Rattle.frames.specs.declared.operand.Operand.{Operand}
use Rattle.frames.proofs.Stacks.{tried}
use Rattle.frames.proofs.handler.fail.Goals as goal

pub returns-in-Try-clause-leads : goal.returns-in-Try-clause-leads
returns-in-Try-clause-leads c o fs w =
    tried o c.in-Try.target c.in-Try.depth c.args.handlers.now.top c.pop.new.self.top c.args.operands.now.top c.cut-in-Try.new.self.top fs w
    (ap (λ (s : Stacked Handler). s.top) c.pop.ensures ∙ ap (λ h. h ∷ c.pop.new.self.top) c.in-Try.is) (ap (λ (s : Stacked Operand). s.top) c.cut-in-Try.ensures)
