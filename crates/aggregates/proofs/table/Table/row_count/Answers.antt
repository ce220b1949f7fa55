use Rattle.std.proofs.Common.{◌≡◌, ◌+◌, true, false, ap, sym, ◌∙◌, arith}
use Rattle.std.proofs.lemmas.Grind.{common_steps}
use Rattle.aggregates.proofs.Entries.{counts_more, counts_same}
use Rattle.aggregates.proofs.table.Table.row_count.Goals as goal
use Rattle.aggregates.proofs.table.Table.row_count.Goals.{then-not-is_null, else-not-is_null}

pub loop-i-preserved : goal.loop-i-preserved
loop-i-preserved g c =
    elim c.if-not-is_null.branch [
      | then-not-is_null w ↦
          let q : g.V.Element.null_test c.in-Some.value.now ≡ false = grind (arith, common_steps, c.is_null.ensures) in
          record { same = w.count-is ∙ ap (λ n. n + 1) c.loop-i.invariant.same ∙ sym (counts_more g.V.Element.null_test c.self.inside.values.entries c.loop-i.i (c.in-Some._key.now, c.in-Some.value.now) (sym c.in-Some.ensures.entry) q); few = omega arith }
      | else-not-is_null w ↦
          let q : g.V.Element.null_test c.in-Some.value.now ≡ true = grind (arith, common_steps, c.is_null.ensures) in
          record { same = w.count-is ∙ c.loop-i.invariant.same ∙ sym (counts_same g.V.Element.null_test c.self.inside.values.entries c.loop-i.i (c.in-Some._key.now, c.in-Some.value.now) (sym c.in-Some.ensures.entry) q); few = omega arith }
    ]
