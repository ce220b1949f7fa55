use Rattle.std.proofs.Common.{rules, ◌∙◌, ap}
use Rattle.std.specs.Prelude.{slice_set, ◌-◌}
use Rattle.frames.specs.Stacked.{parted}
use Rattle.frames.proofs.Stacks.{set_newest}
use Rattle.frames.proofs.stack.Stack.replace_top.Goals as goal

pub returns-clause-set : goal.returns-clause-set
returns-clause-set g c =
    ap (λ x. parted c.self.inside.floor (slice_set c.self.inside.items.items (c.len-newest.result - 1) x)) c.replace.ensures.after
    ∙ set_newest c.args.self.now c.self.inside.floor c.len-newest.result c.self.inside.items.items c.args.item c.self.view_is c.self.invariant (search rules) c.requires
