use Rattle.std.proofs.Common.{refl}
use Rattle.model.proofs.Rows.Flow.{flow_rows}
use Rattle.model.proofs.laws_modules.worked_images.Goals as goal

pub returns-clause-parts : goal.returns-clause-parts
returns-clause-parts c = (refl, refl)

pub returns-clause-flow : goal.returns-clause-flow
returns-clause-flow c = flow_rows
