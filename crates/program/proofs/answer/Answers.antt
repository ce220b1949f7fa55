use Rattle.std.proofs.Common.{refl, inr}
use Rattle.program.proofs.Answered.{answered, no_word}
use Rattle.program.proofs.answer.Goals as goal

pub returns-in-Ok : goal.returns-in-Ok
returns-in-Ok g c =
    answered g.F.WholeFiles.holds g.F.WholeFiles.input_holds g.F.WholeFiles.writes _ _ _
    c.args.whole.now c.perform.new.whole c.perform.result (record { job = c.in-Ok.job; exit = c.perform.ensures.exit; done = c.perform.ensures.done })

pub returns-in-Err : goal.returns-in-Err
returns-in-Err g c = inr (no_word c.in-Err.told c.in-Err.ensures, refl)
