use Rattle.std.proofs.Common.{arith}
use Rattle.model.specs.declared.format.Version.TheVariants as versions
use Rattle.module_format.proofs.Both.{found_now, only}
use Rattle.module_format.proofs.reading.view_image.Goals as goal

pub returns-clause-found : goal.returns-clause-found
returns-clause-found c = found_now c.args.bytes.now c.view_answer.result (λ i. omega (arith, c.type_inv.bytes i)) c.view_answer.ensures

pub returns-clause-only : goal.returns-clause-only
returns-clause-only c = λ m is same. only versions.Two c.args.bytes.now c.view_answer.result c.view_answer.ensures m (record { image = is; level = tt }) same
