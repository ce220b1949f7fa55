use Rattle.std.proofs.Common.{◌*◌, length, ap, sym, ◌∙◌}
use Rattle.model.specs.Language.Prototypes.{elements_in}
use Rattle.aggregates.proofs.Entries.{length-rows}
use Rattle.aggregates.proofs.table.Table.to_array.Goals as goal

pub of-requires-clause-all : goal.of-requires-clause-all
of-requires-clause-all g c =
    ap length c.in_ok-rows.ensures ∙ length-rows g.V.Element.null_test g.V.Element.key_value c.args.self.now
    ∙ ap (λ n. n * 2) (sym c.row_count-count.ensures.count) ∙ sym (ap elements_in c.in_ok-bounds.ensures)
