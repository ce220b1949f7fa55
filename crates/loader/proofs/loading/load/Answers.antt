use Rattle.model.specs.declared.format.Version.TheVariants as versions
use Rattle.loader.proofs.Judging.{accepted, loads}
use Rattle.loader.proofs.loading.load.Goals as goal

pub returns-clause-exact : goal.returns-clause-exact
returns-clause-exact c = loads versions.Two c.args.bytes.now c.answer.result c.answer.ensures

pub returns-clause-accepted : goal.returns-clause-accepted
returns-clause-accepted c = λ m e runs. accepted versions.Two c.args.bytes.now m c.answer.result c.answer.ensures e runs.formed
