use Rattle.model.proofs.Module.SpeltImages
use Rattle.model.proofs.laws_bytes.spelt_is_read.Goals as goal

pub returns : goal.returns
returns c = SpeltImages.spelt_is_read
