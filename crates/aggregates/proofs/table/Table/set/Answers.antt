use Rattle.std.proofs.Common.{ap, ◌∙◌}
use Rattle.aggregates.specs.Keys.{key_of}
use Rattle.model.specs.Language.Operators.{with_entry}
use Rattle.aggregates.proofs.Entries.{inserted, keys_told}
use Rattle.aggregates.proofs.table.Table.set.Goals as goal

pub returns-clause-ok : goal.returns-clause-ok
returns-clause-ok g c =
    inserted _ c.self.inside.values.entries _ c.args.key c.args.value c.in_ok-_old.ensures.entries keys_told
    ∙ ap (with_entry (key_of c.args.key) c.args.value) c.self.view_is
