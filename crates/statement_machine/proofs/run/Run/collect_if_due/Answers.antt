use Rattle.std.proofs.Common.{refl}
use Rattle.statement_machine.proofs.GivingBack.{as_it_was}
use Rattle.statement_machine.proofs.run.Run.collect_if_due.Goals as goal

pub returns-then-not-is_due : goal.returns-then-not-is_due
returns-then-not-is_due c = as_it_was c.args.self.now c.args.self.now refl
