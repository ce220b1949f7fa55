use Rattle.std.proofs.Common.{ap, ◌∙◌}
use Rattle.model.specs.Language.Values as values
use Rattle.aggregates.specs.Keys.{index_at}
use Rattle.aggregates.specs.declared.place.Key.TheVariants as k
use Rattle.aggregates.specs.declared.place.Wanted.TheVariants as w
use Rattle.aggregates.proofs.Entries.{wanted_told}
use Rattle.aggregates.proofs.Indexes.{indexed}
use Rattle.aggregates.proofs.table.Table.index_of_text.Goals as goal

pub returns : goal.returns
returns g c =
    indexed _ (k.String c.args.text.now) c.self.inside.values.entries _ c.get_index_of.ensures.index (wanted_told (w.String c.args.text))
    ∙ ap (index_at (values.StringAt c.args.text.now)) c.self.view_is
