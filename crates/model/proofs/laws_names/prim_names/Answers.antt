use Rattle.model.proofs.Language.Names
use Rattle.model.proofs.laws_names.prim_names.Goals as goal

pub returns : goal.returns
returns c = Names.prim_names
