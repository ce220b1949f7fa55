use Rattle.std.proofs.Common.{Some, refl, inr}
use Rattle.driver.specs.declared.telling.FinalReport.TheVariants as told
use Rattle.program.proofs.Answered.{no_word}
use Rattle.program.proofs.perform_words.Goals as goal

pub returns-in-Err : goal.returns-in-Err
returns-in-Err g c = (Some c.in-Err.told, c.tell.ensures, inr (no_word c.in-Err.told c.in-Err.ensures, refl))

pub returns-in_default : goal.returns-in_default
returns-in_default g c = (Some told.NoMemory, c.tell-in_default.ensures, inr (tt, refl))

pub returns : goal.returns
returns g c = (c.answer.result, c.finish.ensures, c.answer.ensures)
