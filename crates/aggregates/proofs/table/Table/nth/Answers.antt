use Rattle.std.proofs.Common.{ap, map, sym, ◌∙◌}
use Rattle.std.specs.Prelude.{slice_get}
use Rattle.model.specs.Language.Values.{Entry}
use Rattle.aggregates.proofs.Entries.{nth_none, nth_value}
use Rattle.aggregates.proofs.table.Table.nth.Goals as goal

pub returns : goal.returns
returns g c =
    sym (nth_value c.self.inside.values.entries c.args.index (c.in-Some._key.now, c.in-Some.value.now) (sym c.in-Some.ensures.entry))
    ∙ ap (λ es. slice_get (map (λ (e : Entry g.row.V.Denot). e.value) es) c.args.index) c.self.view_is

pub returns-in_default : goal.returns-in_default
returns-in_default g c =
    sym (nth_none c.self.inside.values.entries c.args.index (sym c.in_default.ensures.entry))
    ∙ ap (λ es. slice_get (map (λ (e : Entry g.row.V.Denot). e.value) es) c.args.index) c.self.view_is
