use Rattle.std.proofs.Common.{◌∙◌, ap, sym}
use Rattle.expr_codegen.proofs.Joins.{on_ok}
use Rattle.codegen.specs.Labels.{name_of, with_name}
use Rattle.codegen.proofs.labels.Labels.note_given.Goals as goal

pub returns-in-Some : goal.returns-in-Some
returns-in-Some c = on_ok c.note.result _ _ c.note.ensures.noted (λ e. e ∙ ap (λ o. with_name (name_of o) c.args.number c.args.self.now) (sym c.in-Some.is))
