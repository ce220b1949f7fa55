use Rattle.model.proofs.Module.SpeltImages
use Rattle.model.proofs.laws_bytes.read_is_spelt.Goals as goal

pub returns : goal.returns
returns c = SpeltImages.read_is_spelt
