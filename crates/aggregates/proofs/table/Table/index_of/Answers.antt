use Rattle.std.proofs.Common.{ap, ◌∙◌}
use Rattle.aggregates.specs.Keys.{key_of, index_at}
use Rattle.aggregates.proofs.Entries.{keys_told}
use Rattle.aggregates.proofs.Indexes.{indexed}
use Rattle.aggregates.proofs.table.Table.index_of.Goals as goal

pub returns : goal.returns
returns g c =
    indexed _ c.args.key.now c.self.inside.values.entries _ c.get_index_of.ensures.index (keys_told c.args.key.now)
    ∙ ap (index_at (key_of c.args.key.now)) c.self.view_is
