use Rattle.model.proofs.Machine.Agreement.{agrees_where_placed}
use Rattle.model.proofs.laws_agreement.agreement.Goals as goal

pub returns : goal.returns
returns c = agrees_where_placed
