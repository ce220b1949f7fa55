use Rattle.model.proofs.Machine.StepsAfter.{runs_after}
use Rattle.model.proofs.laws_agreement.runs_add_to_what_was_printed.Goals as goal

pub returns : goal.returns
returns c = runs_after
