use Rattle.std.proofs.Common.{◌∙◌, ap}
use Rattle.codegen.specs.Labels.{number_in}
use Rattle.codegen.proofs.LabelTables.{find_is}
use Rattle.codegen.proofs.labels.Labels.find.Goals as goal

pub returns-in-None : goal.returns-in-None
returns-in-None c = c.copied.ensures ∙ c.get.ensures.value ∙ find_is c.args.label.now c.self.inside.numbers.entries ∙ ap (λ es. number_in es c.args.label.now) c.self.view_is
