use Rattle.std.proofs.Common.{Some, refl, inr}
use Rattle.program.proofs.run.Goals as goal

pub returns-in-Err : goal.returns-in-Err
returns-in-Err g c = (Some c.not_held.result, c.tell.ensures, inr (c.not_held.ensures, refl))
