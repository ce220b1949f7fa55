use Rattle.strings.proofs.Runs.{break_eight}
use Rattle.strings.proofs.bytes.breaks_eight.Goals as goal

pub returns : goal.returns
returns c = rw c.set.view_is (break_eight c.args.set.now c.args.bytes.now c.args.at c.requires)
