use Rattle.std.proofs.Common.{arith, sym, ap, ◌∙◌}
use Rattle.std.proofs.lemmas.Grind.{common_steps}
use Rattle.std.specs.List.{repeat}
use Rattle.strings.proofs.Lists.{repeat_of_null, repeat_more}
use Rattle.strings.proofs.text.Text.dupl.Goals as goal
use Rattle.strings.proofs.text.Text.dupl.Goals.{then-n-eq0-via-then-n-eq0, then-n-eq0-via-else-n-eq0+then-length-eq0}

pub returns-then-n-eq0-clause-ok : goal.returns-then-n-eq0-clause-ok
returns-then-n-eq0-clause-ok c =
    elim c.then-n-eq0.branch [
      | then-n-eq0-via-then-n-eq0 w ↦ c.null.ensures ∙ sym (ap (λ n. repeat n c.args.text.now) w.if-n-eq0.true)
      | then-n-eq0-via-else-n-eq0+then-length-eq0 w ↦ c.null.ensures ∙ repeat_of_null _ _ (sym c.len-length.ensures ∙ w.if-length-eq0.true)
    ]

pub loop-turn-preserved : goal.loop-turn-preserved
loop-turn-preserved c = grind (arith, common_steps, repeat_more c.loop-turn._turn c.args.text.now)
