use Rattle.std.proofs.Common.{ap, ◌∙◌}
use Rattle.aggregates.specs.Keys.{key_of, value_at}
use Rattle.aggregates.proofs.Entries.{looked_up, keys_told}
use Rattle.aggregates.proofs.table.Table.get.Goals as goal

pub returns : goal.returns
returns g c =
    looked_up _ c.args.key.now c.self.inside.values.entries _ c.get.ensures.value (keys_told c.args.key.now)
    ∙ ap (value_at (key_of c.args.key.now)) c.self.view_is
