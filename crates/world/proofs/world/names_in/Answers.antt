use Rattle.std.proofs.Common.{◌++◌, ◌∷◌, [], ap, ◌∙◌}
use Rattle.world.proofs.Variables.{names_turn}
use Rattle.world.proofs.world.names_in.Goals as goal

pub loop-at-preserved : goal.loop-at-preserved
loop-at-preserved c =
    names_turn c.args.variables.now.entries c.loop-at.at c.in-Some.name.now c.in-Some._variable.now c.loop-at.names.items c.push.new.self.items
    c.loop-at.invariant c.in-Some.ensures.entry (c.in_ok-push.ensures.items ∙ ap (λ y. c.loop-at.names.items ++ y ∷ []) c.in_ok-clone.ensures.cases)
