use Rattle.std.proofs.Common.{◌∙◌, ap}
use Rattle.model.specs.Deck.Faults.{is_one_of}
use Rattle.parser.proofs.LabelSets.{among_keys}
use Rattle.parser.proofs.labels.Labels.contains.Goals as goal

pub returns : goal.returns
returns c = c.contains.ensures ∙ among_keys c.args.label.now c.self.inside.set.keys ∙ ap (is_one_of c.args.label.now) c.self.view_is
