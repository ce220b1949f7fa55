use Rattle.std.proofs.Common.{arith}
use Rattle.model.specs.declared.format.Version.TheVariants as versions
use Rattle.loader.proofs.Judging.{accepted, loads, read_loaded}
use Rattle.loader.proofs.loading.load_v1.Goals as goal

pub returns-clause-exact : goal.returns-clause-exact
returns-clause-exact c = loads versions.One c.args.bytes.now c.older_answer.result c.older_answer.ensures

pub returns-clause-loaded : goal.returns-clause-loaded
returns-clause-loaded c = read_loaded versions.One c.args.bytes.now c.older_answer.result (λ i. omega (arith, c.type_inv.bytes i)) (loads versions.One c.args.bytes.now c.older_answer.result c.older_answer.ensures)

pub returns-clause-accepted : goal.returns-clause-accepted
returns-clause-accepted c = λ m e formed. accepted versions.One c.args.bytes.now m c.older_answer.result c.older_answer.ensures e formed
