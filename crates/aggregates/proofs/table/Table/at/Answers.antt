use Rattle.std.proofs.Common.{ap, sym, ◌∙◌}
use Rattle.aggregates.specs.Keys.{index_at, value_at}
use Rattle.aggregates.proofs.Indexes.{valued, within}
use Rattle.aggregates.proofs.table.Table.at.Goals as goal

pub returns : goal.returns
returns g c key is =
    valued key c.self.inside.values.entries c.args.index (c.in-Some._key.now, c.in-Some.value.now) (sym c.in-Some.ensures.entry) (ap (index_at key) c.self.view_is ∙ is)
    ∙ ap (value_at key) c.self.view_is

pub returns-in_default : goal.returns-in_default
returns-in_default g c key is =
    let no = c.in_default.ensures.found.1 (within key c.self.inside.values.entries c.args.index (ap (index_at key) c.self.view_is ∙ is)) in absurd (cc)
