use Rattle.std.proofs.Common.{arith}
use Rattle.model.specs.declared.format.Version.TheVariants as versions
use Rattle.module_format.proofs.Both.{found, only}
use Rattle.module_format.proofs.reading.view_image_v1.Goals as goal

pub returns-clause-found : goal.returns-clause-found
returns-clause-found c = found versions.One c.args.bytes.now c.view_answer.result (λ i. omega (arith, c.type_inv.bytes i)) c.view_answer.ensures

pub returns-clause-only : goal.returns-clause-only
returns-clause-only c = only versions.One c.args.bytes.now c.view_answer.result c.view_answer.ensures
