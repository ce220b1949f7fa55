use Rattle.model.proofs.Pattern.StepsSound.{steps_sound}
use Rattle.model.proofs.laws_patterns.steps_stay_within.Goals as goal

pub returns : goal.returns
returns c s code m st h = steps_sound s code m st h
