use Rattle.std.proofs.Common.{rules}
use Rattle.frames.proofs.Stacks.{set_newest}
use Rattle.frames.proofs.stack.Stack.set_top.Goals as goal

pub returns : goal.returns
returns g c = set_newest c.args.self.now c.self.inside.floor c.len-newest.result c.self.inside.items.items c.args.item c.self.view_is c.self.invariant (search rules) c.requires
