use Rattle.std.proofs.Common.{Some, ap, ◌∙◌}
use Rattle.indexmap.specs.IndexMap.{set_value_at}
use Rattle.model.specs.Language.Operators.{with_entry}
use Rattle.aggregates.specs.Keys.{entries_of, index_at}
use Rattle.aggregates.proofs.Indexes.{valued_anew, within}
use Rattle.aggregates.proofs.table.Table.put.Goals as goal

pub returns-clause-stored : goal.returns-clause-stored
returns-clause-stored g c key is =
    let es = c.self.inside.values.entries in
    ap (λ v. Some (entries_of (set_value_at es c.args.index v))) c.put.ensures
    ∙ ap Some (valued_anew key es c.args.index c.args.value (ap (index_at key) c.self.view_is ∙ is) ∙ ap (with_entry key c.args.value) c.self.view_is)

pub returns-in_default-clause-stored : goal.returns-in_default-clause-stored
returns-in_default-clause-stored g c key is =
    let no = c.in_default.ensures.found.1 (within key c.self.inside.values.entries c.args.index (ap (index_at key) c.self.view_is ∙ is)) in absurd (cc)
