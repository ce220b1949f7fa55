use Rattle.std.proofs.Common.{◌∙◌, ap, map}
use Rattle.indexmap.specs.IndexMap.{insert_entry}
use Rattle.codegen.specs.Labels.{entry_of}
use Rattle.codegen.proofs.LabelTables.{new_is, old_is, same}
use Rattle.codegen.proofs.labels.Labels.note.Goals as goal

pub returns-in_ok-insert-clause-noted : goal.returns-in_ok-insert-clause-noted
returns-in_ok-insert-clause-noted c =
    ap (map entry_of) (c.in_ok-insert.ensures.entries ∙ ap (λ es. insert_entry same es c.args.label c.in-Some.first) c.in_ok-earlier.ensures.entries)
    ∙ old_is c.args.label c.args.number c.in-Some.first c.self.inside.numbers.entries c.args.self.now _ c.self.view_is c.in_ok-earlier.ensures.old c.in-Some.is

pub returns-in_default-clause-noted : goal.returns-in_default-clause-noted
returns-in_default-clause-noted c =
    ap (map entry_of) c.in_ok-earlier.ensures.entries
    ∙ new_is c.args.label c.args.number c.self.inside.numbers.entries c.args.self.now _ c.self.view_is c.in_ok-earlier.ensures.old c.in_default.is
