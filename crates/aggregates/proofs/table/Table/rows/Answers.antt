use Rattle.std.proofs.Common.{◌≡◌, true, false, ap, sym, ◌∙◌, arith}
use Rattle.std.proofs.lemmas.Grind.{common_steps}
use Rattle.aggregates.proofs.Entries.{rows_more, rows_same}
use Rattle.aggregates.proofs.table.Table.rows.Goals as goal
use Rattle.aggregates.proofs.table.Table.rows.Goals.{then-not-is_null+in_ok-from_key+in_ok-push+in_ok-clone+in_ok-push-2, else-not-is_null}

pub loop-i-preserved : goal.loop-i-preserved
loop-i-preserved g c =
    elim c.if-not-is_null.branch [
      | then-not-is_null+in_ok-from_key+in_ok-push+in_ok-clone+in_ok-push-2 w ↦
          let q : g.V.Element.null_test c.in-Some.value.now ≡ false = grind (arith, common_steps, c.is_null.ensures) in
          let more = rows_more g.V.Element.null_test c.self.inside.values.entries c.loop-i.i (c.in-Some.key.now, c.in-Some.value.now) (sym c.in-Some.ensures.entry) g.V.Element.key_value q in
          let same = g.met.V.Element.clones c.in-Some.value.now w.in_ok-clone.field-0 w.in_ok-clone.ensures.cases in
          grind (arith, common_steps, more, same, c.loop-i.invariant, w.in_ok-from_key.ensures)
      | else-not-is_null w ↦
          let q : g.V.Element.null_test c.in-Some.value.now ≡ true = grind (arith, common_steps, c.is_null.ensures) in
          ap (λ v. v.items) w.all-is ∙ c.loop-i.invariant ∙ sym (rows_same g.V.Element.null_test c.self.inside.values.entries c.loop-i.i (c.in-Some.key.now, c.in-Some.value.now) (sym c.in-Some.ensures.entry) g.V.Element.key_value q)
    ]
