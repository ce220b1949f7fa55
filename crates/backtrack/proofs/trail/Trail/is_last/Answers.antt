use Rattle.std.proofs.Common.{◌∙◌, sym, ap}
use Rattle.std.proofs.Math.Dec.{eqb}
use Rattle.backtrack.specs.Standing.{Standing, no_backs}
use Rattle.backtrack.specs.Logs.{logs_of}
use Rattle.backtrack.proofs.Chains.{no_choices}
use Rattle.backtrack.proofs.trail.Trail.is_last.Goals as goal

pub returns : goal.returns
returns c =
    c.is_empty.ensures ∙ ap (λ n. eqb n 0) c.self.inside.choices.ok.0 ∙ sym (no_choices (logs_of c.self.inside) c.self.inside.choices.items)
    ∙ ap (λ (v : Standing). no_backs v.backs) c.self.view_is
