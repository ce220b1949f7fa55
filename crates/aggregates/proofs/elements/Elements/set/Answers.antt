use Rattle.std.proofs.Common.{◌∙◌, ap}
use Rattle.aggregates.specs.Elements.{all_of}
use Rattle.model.specs.Language.Operators.{with_item}
use Rattle.aggregates.proofs.Lists.{stored_or_past}
use Rattle.aggregates.proofs.elements.Elements.set.Goals as goal

pub returns-clause-stored : goal.returns-clause-stored
returns-clause-stored g c =
    stored_or_past c.put-2.result c.args.place c.args.value (all_of c.write_to.new.self) (all_of c.put-2.new.self) c.put-2.ensures.stored (λ below. c.put-2.ensures.there (c.in_ok-write_to.ensures.there below))
    ∙ ap (λ l. with_item c.args.place c.args.value l) c.write_to.ensures.same
