use Rattle.std.proofs.Common.{refl}
use Rattle.model.proofs.laws_modules.cards_change_no_run.Goals as goal

pub returns : goal.returns
returns c = λ image cards inputs m. refl
