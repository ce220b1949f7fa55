use Rattle.model.proofs.Machine.RunsBounded.{run_prints_law}
use Rattle.model.proofs.laws_agreement.run_prints_are_bounded.Goals as goal

pub returns : goal.returns
returns c = run_prints_law
