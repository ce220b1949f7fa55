use Rattle.std.proofs.Common.{◌∙◌, sym, ap, length, arith}
use Rattle.backtrack.specs.Standing.{Standing}
use Rattle.backtrack.specs.Logs.{logs_of}
use Rattle.backtrack.proofs.Chains.{count_choices}
use Rattle.backtrack.proofs.trail.Trail.is_single.Goals as goal

pub returns-then-len-eq1 : goal.returns-then-len-eq1
returns-then-len-eq1 c = λ is.
    let a = c.self.inside in
    let counted = ap (λ (v : Standing). length v.backs) (sym c.self.view_is) ∙ count_choices (logs_of a) a.choices.items in
    omega (arith, counted, c.len.ensures, a.choices.ok.0, c.if-len-eq1.true)
