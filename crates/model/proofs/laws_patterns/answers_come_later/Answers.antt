use Rattle.model.proofs.Pattern.AnswersLater.{answers_later}
use Rattle.model.proofs.laws_patterns.answers_come_later.Goals as goal

pub returns : goal.returns
returns c = answers_later
