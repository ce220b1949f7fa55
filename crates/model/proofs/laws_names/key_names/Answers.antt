use Rattle.model.proofs.Language.Names
use Rattle.model.proofs.laws_names.key_names.Goals as goal

pub returns : goal.returns
returns c = Names.key_names
