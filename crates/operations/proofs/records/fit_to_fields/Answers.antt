use Rattle.operations.proofs.Recorded.{held_fitted}
use Rattle.operations.proofs.records.fit_to_fields.Goals as goal

pub returns : goal.returns
returns c =
    held_fitted c.args.fields.now c.args.arguments.now.items c.truncate.new.self.items c.fill.new.values.items
    c.truncate.ensures.items c.in_ok-fill.ensures
