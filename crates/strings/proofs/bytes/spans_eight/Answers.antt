use Rattle.model.specs.Language.Strings.{has}
use Rattle.strings.proofs.Runs.{run_eight}
use Rattle.strings.proofs.bytes.spans_eight.Goals as goal

pub returns : goal.returns
returns c = rw c.set.view_is (run_eight (has c.args.set.now) c.args.bytes.now c.args.at c.requires)
