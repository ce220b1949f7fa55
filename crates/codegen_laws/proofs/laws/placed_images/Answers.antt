use Rattle.codegen_laws.proofs.Images.{placed}
use Rattle.codegen_laws.proofs.laws.placed_images.Goals as goal

pub returns : goal.returns
returns c = placed
