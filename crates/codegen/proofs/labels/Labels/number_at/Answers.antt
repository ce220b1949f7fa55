use Rattle.std.proofs.Common.{◌∙◌, sym}
use Rattle.std.proofs.lemmas.Slice.Eq.{bytes_eq-Decides}
use Rattle.codegen.proofs.LabelTables.{near_is}
use Rattle.codegen.proofs.labels.Labels.number_at.Goals as goal

pub returns-then-eq : goal.returns-then-eq
returns-then-eq c =
    near_is c.in_ok-key.key.now c.args.label.now c.in_ok-key.number.now c.self.inside.numbers.entries c.args.self.now c.self.view_is c.in_ok-key.ensures.value
    ((bytes_eq-Decides c.in_ok-key.key.now.now c.args.label.now).0 (sym c.eq.ensures ∙ c.if-eq.true))
