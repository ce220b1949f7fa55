use Rattle.model.proofs.Machine.RunsBounded.{run_steps_law}
use Rattle.model.proofs.laws_agreement.run_steps_are_bounded.Goals as goal

pub returns : goal.returns
returns c = run_steps_law
